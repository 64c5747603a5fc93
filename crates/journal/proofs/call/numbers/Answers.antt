use Rattle.std.proofs.Common.{◌≡◌, ◌<◌, length, take, replicate, Err, sym, refl, ap, ◌∙◌, arith, length-set, lit<}
use Rattle.std.proofs.lemmas.List.{get_or-replicate, length-map, length-replicate}
use Rattle.std.proofs.lemmas.Result.{err_from_is_err_and}
use Rattle.journal.specs.Words.{texts_of}
use Rattle.journal.specs.Numbers.{number_of}
use Rattle.journal.specs.Calls.{max32}
use Rattle.journal.proofs.NumberLists.{numbers_after-more, numbers_after-fault, numbers_of-numbers_within}
use Rattle.journal.proofs.Narrowing.{number_of-from_Narrows}
use Rattle.journal.proofs.Texts.{text_at, get_or-texts_of}
use Rattle.journal.proofs.call.numbers.Goals as goal

pub loop-i-preserved : goal.loop-i-preserved
loop-i-preserved g c =
    let ws = c.args.args.now in
    let i = c.loop-i.i in
    let limits = replicate g.row.N max32 in
    let ll : length limits ≡ g.row.N = length-replicate g.row.N max32 in
    let lw = length-map ws (λ w. w.now) in
    let hl : i < length limits = omega arith in
    let hw : i < length (texts_of ws) = omega arith in
    let hf : i < length c.loop-i.found = omega (arith, c.loop-i.invariant.0) in
    let n =
    number_of-from_Narrows 32 max32 (text_at ws i) _ refl (lit< tt) c.in_ok-found.ensures in (
      length-set c.loop-i.found i _ ∙ c.loop-i.invariant.0,
      c.loop-i.invariant.1 ∙ numbers_after-more limits (texts_of ws) c.loop-i.found i
          c.in_ok-found.field-0 hl hw hf
          (n ∙ (λ j. number_of (sym (get_or-replicate g.row.N i max32 0 (omega arith)) j)
          (sym (get_or-texts_of ws i) j))),
    )

pub returns-in_err-found : goal.returns-in_err-found
returns-in_err-found g c =
    let ws = c.args.args.now in
    let i = c.loop-i.i in
    let limits = replicate g.row.N max32 in
    let ll : length limits ≡ g.row.N = length-replicate g.row.N max32 in
    let lw = length-map ws (λ w. w.now) in
    let hl : i < length limits = omega arith in
    let hw : i < length (texts_of ws) = omega arith in
    let same : length (texts_of ws) ≡ length limits = omega arith in
    let n = number_of-from_Narrows 32 max32 (text_at ws i) _ refl (lit< tt)
    c.in_err-found.ensures in
    let broke = err_from_is_err_and c.from_residual.result c.from_residual.ensures.1 in
    broke.1 ∙ ap Err broke.2
    ∙ sym (c.loop-i.invariant.1
    ∙ numbers_after-fault limits (texts_of ws) c.loop-i.found i 0 hl hw (take i c.loop-i.found)
    c.in_err-found.field-0.0
    (n ∙ (λ j. number_of (sym (get_or-replicate g.row.N i max32 0 (omega arith)) j)
    (sym (get_or-texts_of ws i) j))))
    ∙ numbers_of-numbers_within c.args.kind limits (texts_of ws) same
