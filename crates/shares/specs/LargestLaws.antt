-- The laws of the largest remainders.
use Rattle.std.specs.Prelude.{◌≡◌, ℕ, zero, suc, ◌+◌, ◌*◌, ◌/◌, ◌%◌, ◌<◌, ◌≤◌, List, [], ◌∷◌, map, length, take, sum, nat_lt, slice_index, slice_index_or, refl}
use Rattle.std.proofs.Math.Path.{sym, ap, subst}
use Rattle.std.proofs.Common.{◌∙◌, mul-add, mul-one, add-one, take_all}
use Rattle.std.proofs.Math.Logic.{⊎_elim}
use Rattle.std.proofs.Math.Nat.{add-zero, add-mul, mul-zero, zero-mod, zero-div, mul_comm, mod-lt, mul-lt-mul_of_pos_left}
use native.Mathlib.Omega.{arith}
use Rattle.std.specs.List.{range_with_len}
use Rattle.std.proofs.lemmas.Nat.{div-add-mod'}
use Rattle.std.proofs.lemmas.List.{length-map, get_or-map}
use Rattle.std.proofs.lemmas.List.Sums.{sum_by-cons, sum_by_more, count_by-le-length}
use Rattle.std.proofs.lemmas.Bool.{cases_lt, le-ltb, lt-ltb}
use Rattle.std.proofs.lemmas.List.FromFn.{length-map-range_with_len, get_or-map-range_with_len, sum_by-map-range_with_len_more}
use Rattle.shares.specs.Fair.{Near}
use Rattle.shares.specs.Laws.{GivesOneEach, SharesWhole, SharesNear, SharesIdle, SharesFairly}
use Rattle.shares.specs.Rules.{floors, remainders, litres_left, places_ahead, largest_remainder_share, largest_remainder_shares}
use Rattle.shares.specs.Fairness.{fair_parts}
use Rattle.shares.specs.Counts.{one_if, count_above, count_at, MayCut, cut_below, count_from-split, count_before_cut, count_before_cut_more}

module _ (a s : ℕ) (some : 0 < s) where
  abbrev fs : List ℕ → List ℕ
  fs ws = map (λ w. a * w / s) ws

  abbrev rs : List ℕ → List ℕ
  rs ws = map (λ w. a * w % s) ws

  sum_of_both : (ws : List ℕ) → sum (rs ws) + s * sum (fs ws) ≡ a * sum ws
  sum_of_both [] = rw (mul-zero s, mul-zero a)
  sum_of_both (w ∷ ws) =
      let p = sum_by-cons (λ x. x) (a * w % s) (rs ws) in
      let q = sum_by-cons (λ x. x) (a * w / s) (fs ws) in
      let o = sum_by-cons (λ x. x) w ws in
      let here = div-add-mod' (a * w) s in
      let c = mul_comm (a * w / s) s in
      let m : s * sum (fs (w ∷ ws)) ≡ s * (a * w / s) + s * sum (fs ws) =
      ap (λ x. s * x) q ∙ mul-add s (a * w / s) (sum (fs ws)) in
      let n : a * sum (w ∷ ws) ≡ a * w + a * sum ws = ap (λ x. a * x) o ∙ mul-add a w (sum ws) in
      omega (arith, sum_of_both ws)

  -- the remainders are below s, so more of them are above 0 than they have whole s in them
  sum_below : (ws : List ℕ) → sum (rs ws) + count_above (rs ws) 0 ≤ s * count_above (rs ws) 0
  sum_below [] = rw (mul-zero s) (omega arith)
  sum_below (w ∷ ws) =
      let r = a * w % s in
      let low = mod-lt (a * w) some in
      let p = sum_by-cons (λ x. x) r (rs ws) in
      let one = one_if (nat_lt 0 r) in
      let q = sum_by-cons (λ x. one_if (nat_lt 0 x)) r (rs ws) in
      let m : s * count_above (rs (w ∷ ws)) 0 ≡ s * one + s * count_above (rs ws) 0 =
      ap (λ x. s * x) q ∙ mul-add s one (count_above (rs ws) 0) in
      let here : r + one ≤ s * one =
      ⊎_elim
      (λ y. rw (lt-ltb 0 r y, mul-one s) (omega arith))
      (λ n. rw (le-ltb 0 r n, mul-zero s) (omega arith))
      (cases_lt 0 r)
      in
      omega (arith, sum_below ws)

  none_above : (ws : List ℕ) → count_above (rs ws) s ≡ 0
  none_above [] = refl
  none_above (w ∷ ws) =
      let low = mod-lt (a * w) some in
      let q = sum_by-cons (λ x. one_if (nat_lt s x)) (a * w % s) (rs ws) in
      let here : one_if (nat_lt s (a * w % s)) ≡ 0 = rw (le-ltb s (a * w % s) (omega arith)) in
      omega (arith, none_above ws)

pub length-remainders : (a : ℕ) (ws : List ℕ) → length (remainders a ws) ≡ length ws
unfolding remainders
length-remainders a ws = length-map ws (λ w. a * w % sum ws)

pub length-floors : (a : ℕ) (ws : List ℕ) → length (floors a ws) ≡ length ws
unfolding floors
length-floors a ws = length-map ws (λ w. a * w / sum ws)

pub remainder_at : (a : ℕ) (ws : List ℕ) (i : ℕ) → i < length ws →
    slice_index (remainders a ws) i ≡ a * slice_index ws i % sum ws
unfolding remainders
remainder_at a ws i h = get_or-map (λ w. a * w % sum ws) ws i 0 0 h

pub floor_at : (a : ℕ) (ws : List ℕ) (i : ℕ) → i < length ws →
    slice_index (floors a ws) i ≡ a * slice_index ws i / sum ws
unfolding floors
floor_at a ws i h = get_or-map (λ w. a * w / sum ws) ws i 0 0 h

module _ (a : ℕ) (ws : List ℕ) (some : 0 < sum ws) where
  pub sum_floors_limit : sum (floors a ws) ≤ a
  unfolding floors remainders
  sum_floors_limit =
      let b = sum_of_both a (sum ws) some ws in
      let c = mul_comm a (sum ws) in
      ⊎_elim
      (λ more. let m = mul-lt-mul_of_pos_left more some in absurd (omega arith))
      (λ h. h)
      (cases_lt a (sum (floors a ws)))

  pub sum-remainders : sum (remainders a ws) ≡ sum ws * litres_left a ws
  unfolding floors remainders litres_left
  sum-remainders =
      let b = sum_of_both a (sum ws) some ws in
      let c = mul_comm a (sum ws) in
      let w = sum_floors_limit in
      let f = sum (floors a ws) in
      let e : f + litres_left a ws ≡ a = omega arith in
      let m : sum ws * f + sum ws * litres_left a ws ≡ sum ws * a =
      sym (mul-add (sum ws) f (litres_left a ws)) ∙ ap (λ x. sum ws * x) e in
      omega arith

  -- as many places have a remainder as there are litres left
  pub left_above_zero : litres_left a ws ≤ count_above (remainders a ws) 0
  unfolding remainders
  left_above_zero =
      let p = sum_below a (sum ws) some ws in
      let e = sum-remainders in
      ⊎_elim
      (λ more. let m = mul-lt-mul_of_pos_left more some in absurd (omega arith))
      (λ h. h)
      (cases_lt (count_above (remainders a ws) 0) (litres_left a ws))

  pub litres_left_limit : litres_left a ws ≤ length ws
  litres_left_limit =
      let most = count_by-le-length (λ r. nat_lt 0 r) (remainders a ws) in
      omega (arith, left_above_zero, most, length-remainders a ws)

  pub none_over : count_above (remainders a ws) (sum ws) ≡ 0
  unfolding remainders
  none_over = none_above a (sum ws) some ws

  pub some_cut : (t : ℕ) × MayCut (remainders a ws) (litres_left a ws) t
  some_cut =
      cut_below (remainders a ws) (litres_left a ws)
      (omega (arith, litres_left_limit, length-remainders a ws))
      (sum ws) (omega (arith, none_over))

  -- no litre goes to a place whose floor is exact
  pub exact_none : (i : ℕ) → slice_index (remainders a ws) i ≡ 0 →
      litres_left a ws ≤ places_ahead (remainders a ws) i
  unfolding places_ahead
  exact_none i z =
      let e = ap (count_above (remainders a ws)) z in omega (arith, left_above_zero)

  -- a place that gets a litre more has a remainder
  remainder_some : (i : ℕ) → i < length ws →
      places_ahead (remainders a ws) i < litres_left a ws → 0 < a * slice_index ws i % sum ws
  remainder_some i in' y =
      ⊎_elim
      (λ h. h)
      (λ none.
      let z : slice_index_or (remainders a ws) i 0 ≡ 0 = omega (arith, remainder_at a ws i in') in
      absurd (omega (arith, exact_none i z)))
      (cases_lt 0 (a * slice_index ws i % sum ws))

  pub share_near : (i : ℕ) → i < length ws →
      Near a (sum ws) (slice_index ws i) (largest_remainder_share a ws i)
  unfolding largest_remainder_share
  share_near i in' =
      let s = sum ws in
      let x = a * slice_index_or ws i 0 in
      let q = x / s in
      let f = floor_at a ws i in' in
      let d = div-add-mod' x s in
      let low = mod-lt x some in
      let ahead = places_ahead (remainders a ws) i in
      let left = litres_left a ws in
      let one : (q + 1) * s ≡ q * s + s = add-mul q 1 s ∙ ap (λ y. q * s + y) (omega arith) in
      ⊎_elim
      (λ y.
      let pos = remainder_some i in' y in
      rw (f, lt-ltb ahead left y) (omega arith, omega arith))
      (λ n. rw (f, le-ltb ahead left n, add-zero q) (omega arith, omega arith))
      (cases_lt ahead left)

  -- no weight, no share, whether or not the quantity can be shared
  pub largest_share_idle : (i : ℕ) → i < length ws → slice_index ws i ≡ 0 →
      largest_remainder_share a ws i ≡ 0
  unfolding largest_remainder_share
  largest_share_idle i in' z =
      let litres : a * slice_index ws i ≡ 0 = ap (λ w. a * w) z ∙ mul-zero a in
      let f = floor_at a ws i in' ∙ ap (λ x. x / sum ws) litres ∙ zero-div (sum ws) in
      let r = remainder_at a ws i in' ∙ ap (λ x. x % sum ws) litres ∙ zero-mod (sum ws) in
      rw (f, le-ltb (places_ahead (remainders a ws) i) (litres_left a ws) (exact_none i r))

  -- the first n shares: the floors, and a litre for each place before the cut
  sum_first : (t : ℕ) → MayCut (remainders a ws) (litres_left a ws) t → (n : ℕ) → n ≤ length ws →
      sum (map (largest_remainder_share a ws) (range_with_len 0 n)) ≡
      sum (take n (floors a ws)) + count_before_cut (remainders a ws) (litres_left a ws) t n
  unfolding largest_remainder_share
  sum_first t cut zero le = omega arith
  sum_first t cut (suc n) le =
      let share = largest_remainder_share a ws in
      let left = litres_left a ws in
      let before = sum_first t cut n (omega arith) in
      let one = sum_by-map-range_with_len_more (λ x. x) share 0 n n (omega arith) in
      let f = sum_by_more (λ x. x) (floors a ws) n 0 (omega (arith, length-floors a ws)) in
      let inside : n < length (remainders a ws) = omega (arith, length-remainders a ws) in
      let e = count_before_cut_more (remainders a ws) n inside left t cut in
      subst
      (λ m. sum (map (largest_remainder_share a ws) (range_with_len 0 m)) ≡
      sum (take m (floors a ws)) + count_before_cut (remainders a ws) (litres_left a ws) t m)
      (add-one n) (omega arith)

pub largest_places : GivesOneEach largest_remainder_shares
unfolding largest_remainder_shares
largest_places a ws = length-map-range_with_len (largest_remainder_share a ws) 0 (length ws)

pub largest_at : (a : ℕ) (ws : List ℕ) (i : ℕ) → i < length ws →
    slice_index (largest_remainder_shares a ws) i ≡ largest_remainder_share a ws i
unfolding largest_remainder_shares
largest_at a ws i h =
    get_or-map-range_with_len (largest_remainder_share a ws) 0 (length ws) i i 0 h (omega arith)

pub largest_whole : SharesWhole largest_remainder_shares
unfolding largest_remainder_shares litres_left
largest_whole a ws h =
    let p = fair_parts a ws h in
    let n = length ws in
    let cut = some_cut a ws p.some in
    let all = sum_first a ws p.some cut.0 cut.1 n (omega arith) in
    let fl = take_all n (floors a ws) (omega (arith, length-floors a ws)) in
    let re = take_all n (remainders a ws) (omega (arith, length-remainders a ws)) in
    let f = ap sum fl in
    let g = ap (λ l. count_above l cut.0) re in
    let e = ap (λ l. count_at l cut.0) re in
    let split = count_from-split (remainders a ws) cut.0 in
    omega (arith, all, f, g, e, split, cut.1.few, cut.1.enough, sum_floors_limit a ws p.some)

pub largest_near : SharesNear largest_remainder_shares
largest_near a ws i h in' =
    rw (largest_at a ws i in') (share_near a ws (fair_parts a ws h).some i in')

pub largest_idle : SharesIdle largest_remainder_shares
largest_idle a ws i h in' z =
    largest_at a ws i in' ∙ largest_share_idle a ws (fair_parts a ws h).some i in' z

pub largest_laws : SharesFairly largest_remainder_shares
largest_laws = record { places = largest_places; whole = largest_whole; near = largest_near }
