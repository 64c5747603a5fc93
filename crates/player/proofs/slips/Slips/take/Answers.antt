use Rattle.std.proofs.Common.{rules, ◌≡◌, ◌<◌, ◌≤◌, ◌∙◌, sym, ap, refl, subst, length, slice_index_or}
use Rattle.std.proofs.lemmas.List.Elements.{All-get_or}
use Rattle.std.proofs.lemmas.Option.{slice_get_read, slice_get_within, same_Some}
use Rattle.ledger.specs.declared.slip.Slip.{Slip}
use Rattle.player.specs.Slips.{IsLedgerSlip}
use Rattle.player.proofs.Removals.{has-moved, has-last}
use Rattle.player.proofs.slips.Slips.take.Goals as goal

pub returns-in-Some-clause-others : goal.returns-in-Some-clause-others
returns-in-Some-clause-others c = λ other apart has.
    let f = c.in_ok-place.ensures.found in
    let place = c.in_ok-place.place in
    let left = c.swap_remove-slip.new.self.items in
    let moved = c.in-Some.moved.now in
    let within : place < length left = search rules in
    let read : moved ≡ slice_index_or left place moved = search rules in
    let there = slice_get_read left (length left) place moved refl within read in
    let fits : moved.point < length c.args.self.now.places.items = search rules in
    rw c.point.ensures
    (has-moved _ _ _ place f.0 moved _ other f.1.1 c.swap_remove-slip.ensures.items there fits
    (λ same. apart (same ∙ f.1.2)) has)

pub returns-in_default-clause-made : goal.returns-in_default-clause-made
returns-in_default-clause-made c =
    let f = c.in_ok-place.ensures.found in
    let slips = c.args.self.now.open.items in
    let place = c.in_ok-place.place in
    subst IsLedgerSlip (sym c.swap_remove-slip.ensures.value)
    (All-get_or IsLedgerSlip slips place c.swap_remove-slip.result
    (slice_get_within slips place f.0 f.1.1) c.args.self.now.made)

pub returns-in_default-clause-found : goal.returns-in_default-clause-found
returns-in_default-clause-found c =
    let f = c.in_ok-place.ensures.found in
    let slips = c.args.self.now.open.items in
    let place = c.in_ok-place.place in
    let taken = c.swap_remove-slip.result in
    let within = slice_get_within slips place f.0 f.1.1 in
    let stands =
    slice_get_read slips (length slips) place taken refl within
    c.swap_remove-slip.ensures.value in
    let same : f.0 ≡ taken = same_Some _ _ (sym f.1.1 ∙ stands) in
    (place, (f.1.0, stands, sym (ap (λ (s : Slip). s.point) same) ∙ f.1.2))

pub returns-in_default-clause-others : goal.returns-in_default-clause-others
returns-in_default-clause-others c = λ other apart has.
    let f = c.in_ok-place.ensures.found in
    let place = c.in_ok-place.place in
    let past : length c.swap_remove-slip.new.self.items ≤ place = search rules in
    has-last _ _ _ place f.0 _ other f.1.1 c.swap_remove-slip.ensures.items past
    (λ same. apart (same ∙ f.1.2)) has
