-- The slips of the other points are found again once a slip was taken and the last one moved.
use Rattle.std.proofs.Common.{◌≡◌, ◌≢◌, ◌<◌, ◌≤◌, ◌-◌, ◌∙◌, ℕ, List, Some, length, inl, inr, sym, ap, arith, length-set}
use Rattle.std.specs.Prelude.{slice_get, slice_set, slice_index_or}
use Rattle.std.specs.List.{swap_remove}
use Rattle.std.proofs.lemmas.Bool.{cases_eq}
use Rattle.std.proofs.lemmas.List.{length-take}
use Rattle.std.proofs.lemmas.Option.{slice_get_within, get_or_from_slice_get, same_Some}
use Rattle.ledger.specs.declared.slip.Slip.{Slip}
use Rattle.player.specs.Slips.{HasSlip}
use Rattle.player.proofs.Places.{slice_get-set_same, slice_get-set_other, slice_get-take}

-- the last element written over the one that goes: the list before it is cut
abbrev filled : {X : Type 0} → List X → ℕ → X → List X
filled xs i d = slice_set xs i (slice_index_or xs (length xs - 1) d)

length-swap_remove :
    {X : Type 0} (xs : List X) (i : ℕ) (d : X) → length (swap_remove xs i d) ≡ length xs - 1
length-swap_remove xs i d =
    let cut = length-take (length xs - 1) (filled xs i d) in
    let same = length-set xs i (slice_index_or xs (length xs - 1) d) in
    omega (arith, cut, same)

-- an element that was neither taken nor the last stays where it stood
slice_get-swap_remove :
    {X : Type 0} (xs : List X) (i k : ℕ) (d : X) → k ≢ i → k < length xs - 1
    → slice_get (swap_remove xs i d) k ≡ slice_get xs k
slice_get-swap_remove xs i k d other below =
    slice_get-take (length xs - 1) (filled xs i d) k below
    ∙ slice_get-set_other xs i k (slice_index_or xs (length xs - 1) d) other

-- what stands in the place of the one taken is the last
last_moved :
    {X : Type 0} (xs : List X) (i : ℕ) (d moved x : X)
    → slice_get (swap_remove xs i d) i ≡ Some moved → slice_get xs (length xs - 1) ≡ Some x
    → x ≡ moved
last_moved xs i d moved x there last =
    let within : i < length (swap_remove xs i d) =
    slice_get_within (swap_remove xs i d) i moved there in
    let below : i < length xs - 1 = omega (arith, within, length-swap_remove xs i d) in
    let put =
    slice_get-take (length xs - 1) (filled xs i d) i below
    ∙ slice_get-set_same xs i (slice_index_or xs (length xs - 1) d) (omega (arith, below)) in
    sym (get_or_from_slice_get xs (length xs - 1) x d last) ∙ same_Some _ _ (sym put ∙ there)

-- slips of two points stand in two places
apart_places :
    (slips : List Slip) (place k : ℕ) (slip x : Slip)
    → slice_get slips place ≡ Some slip → slice_get slips k ≡ Some x → x.point ≢ slip.point
    → k ≢ place
apart_places slips place k slip x stood stands apart = λ same.
    apart (ap (λ (s : Slip). s.point)
    (same_Some _ _ (sym stands ∙ ap (slice_get slips) same ∙ stood)))

-- the last one moved, and its place was written
pub has-moved :
    (slips left : List Slip) (places : List ℕ) (place : ℕ) (slip moved d : Slip) (other : ℕ)
    → slice_get slips place ≡ Some slip → left ≡ swap_remove slips place d
    → slice_get left place ≡ Some moved → moved.point < length places → other ≢ slip.point
    → HasSlip slips places other → HasSlip left (slice_set places moved.point place) other
has-moved slips left places place slip moved d other stood e there fits apart
    (x, (k, (at, stands, own))) =
    elim (cases_eq other moved.point) [
      | inl same ↦
          let written = slice_get-set_same places moved.point place fits in
          (moved, (place, (rw same written, there, sym same)))
      | inr differs ↦
          let kept : k ≢ place =
          apart_places slips place k slip x stood stands (λ same. apart (sym own ∙ same)) in
          let found = ap (λ l. slice_get l place) (sym e) ∙ there in
          let not_last : k ≢ length slips - 1 = λ last.
          differs (sym own ∙ ap (λ (s : Slip). s.point)
          (last_moved slips place d moved x found
          (ap (slice_get slips) (sym last) ∙ stands))) in
          let within : k < length slips = slice_get_within slips k x stands in
          let stays =
          slice_get-swap_remove slips place k d kept (omega (arith, within, not_last)) in
          let unwritten = slice_get-set_other places moved.point other place differs in
          (x, (k, (unwritten ∙ at, ap (λ l. slice_get l k) e ∙ stays ∙ stands, own)))
    ]

-- the last one itself was taken
pub has-last :
    (slips left : List Slip) (places : List ℕ) (place : ℕ) (slip d : Slip) (other : ℕ)
    → slice_get slips place ≡ Some slip → left ≡ swap_remove slips place d
    → length left ≤ place → other ≢ slip.point
    → HasSlip slips places other → HasSlip left places other
has-last slips left places place slip d other stood e past apart (x, (k, (at, stands, own))) =
    let kept : k ≢ place =
    apart_places slips place k slip x stood stands (λ same. apart (sym own ∙ same)) in
    let within : k < length slips = slice_get_within slips k x stands in
    let inside : place < length slips = slice_get_within slips place slip stood in
    let short = ap length e ∙ length-swap_remove slips place d in
    let below : k < length slips - 1 = omega (arith, within, inside, short, past, kept) in
    let stays = slice_get-swap_remove slips place k d kept below in
    (x, (k, (at, ap (λ l. slice_get l k) e ∙ stays ∙ stands, own)))
