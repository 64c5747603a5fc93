-- How many of a list of numbers lie above a mark or at it, and where the list is cut.
use Rattle.std.specs.Prelude.{◌≡◌, ℕ, zero, suc, ◌+◌, ◌-◌, ◌<◌, ◌≤◌, min, Bool, List, [], ◌∷◌, length, take, count_by, ◌==◌, nat_eq, nat_le, nat_lt, slice_index, slice_index_or, refl, if◌then◌else◌}
use Rattle.std.proofs.Math.Path.{ap}
use Rattle.std.proofs.Common.{⊎_elim, arith}
use Rattle.std.proofs.lemmas.List.Sums.{sum_by-cons, sum_by-take-le, count_by_more_yes, count_by_more_no}
use Rattle.std.proofs.lemmas.Bool.{cases_lt, cases_order, lt-ltb, le-ltb, eq-eqb, ne_eqb}
use Rattle.std.proofs.lemmas.Bool.Decides.{nat_tests}
use Rattle.shares.specs.Rules.{places_ahead}

abbrev pub one_if : Bool → ℕ
one_if b = if b then 1 else 0

-- how many numbers are above t, at least t, and equal to t
abbrev pub count_above : List ℕ → ℕ → ℕ
count_above rs t = count_by (λ r. nat_lt t r) rs

abbrev pub count_from : List ℕ → ℕ → ℕ
count_from rs t = count_by (λ r. nat_le t r) rs

abbrev pub count_at : List ℕ → ℕ → ℕ
count_at rs t = count_by (λ r. nat_eq r t) rs

pub count_above-cons : (r : ℕ) (rs : List ℕ) (t : ℕ) →
    count_above (r ∷ rs) t ≡ one_if (nat_lt t r) + count_above rs t
count_above-cons r rs t = sum_by-cons (λ r. one_if (nat_lt t r)) r rs

pub count_from-cons : (r : ℕ) (rs : List ℕ) (t : ℕ) →
    count_from (r ∷ rs) t ≡ one_if (nat_le t r) + count_from rs t
count_from-cons r rs t = sum_by-cons (λ r. one_if (nat_le t r)) r rs

count_at-cons : (r : ℕ) (rs : List ℕ) (t : ℕ) →
    count_at (r ∷ rs) t ≡ one_if (r == t) + count_at rs t
count_at-cons r rs t = sum_by-cons (λ r. one_if (r == t)) r rs

pub count_from-split : (rs : List ℕ) (t : ℕ) → count_from rs t ≡ count_above rs t + count_at rs t
count_from-split [] t = refl
count_from-split (r ∷ rs) t =
    let p = count_above-cons r rs t in
    let q = count_from-cons r rs t in
    let s = count_at-cons r rs t in
    let here : one_if (nat_le t r) ≡ one_if (nat_lt t r) + one_if (r == t) =
    grind (arith, nat_tests) in
    omega (arith, count_from-split rs t)

pub count_from-zero : (rs : List ℕ) → count_from rs 0 ≡ length rs
count_from-zero [] = refl
count_from-zero (r ∷ rs) =
    let q = count_from-cons r rs 0 in
    let here : one_if (nat_le 0 r) ≡ 1 = grind (arith, nat_tests) in
    omega (arith, count_from-zero rs)

-- no fewer numbers reach a lower mark
pub count_from_falls : (rs : List ℕ) (t u : ℕ) → t ≤ u → count_from rs u ≤ count_from rs t
count_from_falls [] t u h = omega arith
count_from_falls (r ∷ rs) t u h =
    let p = count_from-cons r rs t in
    let q = count_from-cons r rs u in
    let here : one_if (nat_le u r) ≤ one_if (nat_le t r) = grind (arith, nat_tests) in
    omega (arith, count_from_falls rs t u h)

-- l places can be cut off at t: no more than l are above it, and no fewer than l reach it
pub record MayCut (rs : List ℕ) (l t : ℕ) : Type 0 where
  pub few : count_above rs t ≤ l
  pub enough : l ≤ count_from rs t

-- l places are cut off: all those above t, and m of those at t
pub record IsCut (rs : List ℕ) (l t m : ℕ) : Type 0 where
  pub counted : count_above rs t + m ≡ l
  pub enough : l ≤ count_from rs t

-- how many of the first n places are before a cut of l places at t
abbrev pub count_before_cut : List ℕ → ℕ → ℕ → ℕ → ℕ
count_before_cut rs l t n =
    count_above (take n rs) t + min (count_at (take n rs) t) (l - count_above rs t)

pub cut_below : (rs : List ℕ) (l : ℕ) → l ≤ length rs → (t : ℕ) → count_above rs t ≤ l →
    (u : ℕ) × MayCut rs l u
cut_below rs l most zero h = (0, record { few = h; enough = omega (arith, count_from-zero rs) })
cut_below rs l most (suc t) h =
    ⊎_elim
    (λ more. (suc t, record { few = h; enough = omega arith }))
    (λ less. cut_below rs l most t less)
    (cases_lt l (count_above rs t))

module _ (rs : List ℕ) (i : ℕ) (in' : i < length rs) where
  -- the places ahead of i, and i itself, all reach the number at i
  pub places_ahead_limit : places_ahead rs i < count_from rs (slice_index rs i)
  unfolding places_ahead
  places_ahead_limit =
      let x = slice_index_or rs i 0 in
      let one = count_by_more_yes (λ r. nat_eq r x) rs i 0 in' (eq-eqb x x refl) in
      let some = sum_by-take-le (λ r. one_if (r == x)) rs (i + 1) in
      omega (arith, count_from-split rs x)

  module _ (l t : ℕ) (cut : MayCut rs l t) where
    pub above_cut : t < slice_index rs i → places_ahead rs i < l
    above_cut h =
        omega (arith, places_ahead_limit, count_from_falls rs (suc t) (slice_index rs i) h, cut.few)

    pub below_cut : slice_index_or rs i 0 < t → l ≤ places_ahead rs i
    unfolding places_ahead
    below_cut h = omega (arith, count_from_falls rs (suc (slice_index rs i)) t h, cut.enough)

    pub at_cut : slice_index_or rs i 0 ≡ t →
        places_ahead rs i ≡ count_above rs t + count_at (take i rs) t
    unfolding places_ahead
    at_cut e = ap (λ x. count_above rs x + count_at (take i rs) x) e

    -- of the first i + 1 places, one more is before the cut than of the first i, or none
    pub count_before_cut_more :
        one_if (nat_lt (places_ahead rs i) l) + count_before_cut rs l t i ≡
        count_before_cut rs l t (i + 1)
    count_before_cut_more =
        ⊎_elim
        (λ e.
        let a = at_cut e in
        let p = count_by_more_no (λ r. nat_lt t r) rs i 0 in' (le-ltb _ _ (omega arith)) in
        let q = count_by_more_yes (λ r. nat_eq r t) rs i 0 in' (eq-eqb _ _ e) in
        let f = cut.few in
        let n = count_at (take i rs) t in
        let m = l - count_above rs t in
        let w : one_if (nat_lt (places_ahead rs i) l) + min n m ≡ min (n + 1) m =
        ⊎_elim
        (λ y. rw (lt-ltb (places_ahead rs i) l y) (omega arith))
        (λ n. rw (le-ltb (places_ahead rs i) l n) (omega arith))
        (cases_lt (places_ahead rs i) l)
        in
        omega arith)
        (⊎_elim
        (λ lt.
        let a = below_cut lt in
        let p = count_by_more_no (λ r. nat_lt t r) rs i 0 in' (le-ltb _ _ (omega arith)) in
        let q = count_by_more_no (λ r. nat_eq r t) rs i 0 in' (ne_eqb _ _ (omega arith)) in
        rw (le-ltb (places_ahead rs i) l a) (omega arith))
        (λ gt.
        let a = above_cut gt in
        let p = count_by_more_yes (λ r. nat_lt t r) rs i 0 in' (lt-ltb _ _ gt) in
        let q = count_by_more_no (λ r. nat_eq r t) rs i 0 in' (ne_eqb _ _ (omega arith)) in
        rw (lt-ltb (places_ahead rs i) l a) (omega arith)))
        (cases_order (slice_index rs i) t)
