-- The turns of the largest remainders' two loops.
use Rattle.std.proofs.Common.{◌≡◌, ℕ, ◌+◌, ◌-◌, ◌*◌, ◌/◌, ◌^◌, ◌<◌, ◌≤◌, true, List, length, take, sum, sym, ap, ◌∙◌, take_all, arith}
use Rattle.std.specs.Prelude.{◌≢◌, nat_eq, slice_index, slice_index_or, slice_set}
use Rattle.std.proofs.lemmas.List.{ext_get_or, get_or-set_other}
use Rattle.std.proofs.lemmas.List.Edits.{fill_by_more}
use Rattle.std.proofs.lemmas.List.Sums.{sum_by_more, sum_by-take-le, count_by_more_yes, count_by_more_no}
use Rattle.std.proofs.lemmas.Bool.{le-ltb, lt-ltb, eq-eqb, ne_eqb}
use Rattle.std.proofs.lemmas.List.FromFn.{fill_by_all}
use Rattle.shares.specs.Fair.{fair}
use Rattle.shares.specs.Rules.{floors, remainders, litres_left, places_ahead, largest_remainder_share, largest_remainder_shares}
use Rattle.shares.specs.Fairness.{fair_parts}
use Rattle.shares.specs.Counts.{count_above, count_at, IsCut, MayCut, above_cut, below_cut, at_cut}
use Rattle.shares.specs.LargestLaws.{length-remainders, length-floors, floor_at, sum_floors_limit}

-- a turn of `Rounding::new`, with g given so far and x the place's floor
pub record FloorTurn (a : ℕ) (ws : List ℕ) (i g x : ℕ) : Type 0 where
  pub fits : g + x < 2 ^ 64
  pub next : g + x ≡ sum (take (i + 1) (floors a ws))

pub floor_turn : (a : ℕ) (ws : List ℕ) (i g x : ℕ) → fair a ws ≡ true → i < length ws →
    g ≡ sum (take i (floors a ws)) → x ≡ a * slice_index ws i / sum ws → FloorTurn a ws i g x
floor_turn a ws i g x y in' given is =
    let p = fair_parts a ws y in
    let same : x ≡ slice_index_or (floors a ws) i 0 = is ∙ sym (floor_at a ws i in') in
    let more = sum_by_more (λ x. x) (floors a ws) i 0 (omega (arith, length-floors a ws)) in
    let next : g + x ≡ sum (take (i + 1) (floors a ws)) = omega arith in
    let part = sum_by-take-le (λ x. x) (floors a ws) (i + 1) in
    record { fits = omega (arith, p.quantity, sum_floors_limit a ws p.some); next = next }

pub remainders_by_place : (a : ℕ) (ws out : List ℕ) → length ws ≡ length out →
    ((k : ℕ) → k < length ws → slice_index out k ≡ slice_index (remainders a ws) k) →
    out ≡ remainders a ws
remainders_by_place a ws out same h =
    ext_get_or 0 out (remainders a ws)
    (omega (arith, length-remainders a ws))
    (λ k lt. h k (omega arith))

-- what the floors of all places leave
pub left_of_floors : (a : ℕ) (ws : List ℕ) (n g : ℕ) → fair a ws ≡ true → length ws ≤ n →
    g ≡ sum (take n (floors a ws)) → (g ≤ a) × (a - g ≡ litres_left a ws)
unfolding litres_left
left_of_floors a ws n g y le e =
    let w = sum_floors_limit a ws (fair_parts a ws y).some in
    let all = ap sum (take_all n (floors a ws) (omega (arith, length-floors a ws))) in
    (omega arith, omega arith)

-- the litres left for the places at t from place i on
abbrev pub left_at : ℕ → List ℕ → ℕ → ℕ → ℕ
left_at a ws t i =
    let rs = remainders a ws in
    litres_left a ws - count_above rs t - count_at (take i rs) t

-- a place's turn in `share_fairly`, cut at t, with x its floor: it gets e litres more, and m are
-- left to give at t
pub record LitreTurn (a : ℕ) (ws : List ℕ) (i x t e m : ℕ) : Type 0 where
  pub share : x + e ≡ largest_remainder_share a ws i
  pub more : m ≡ left_at a ws t (i + 1)

module _
    (a : ℕ) (ws : List ℕ) (i x : ℕ)
    (in' : i < length ws) (is : x ≡ a * slice_index ws i / sum ws) where
  one_more : places_ahead (remainders a ws) i < litres_left a ws →
      x + 1 ≡ largest_remainder_share a ws i
  unfolding largest_remainder_share
  one_more h =
      rw (lt-ltb (places_ahead (remainders a ws) i) (litres_left a ws) h)
      (ap (λ x. x + 1) (is ∙ sym (floor_at a ws i in')))

  none_more : litres_left a ws ≤ places_ahead (remainders a ws) i →
      x + 0 ≡ largest_remainder_share a ws i
  unfolding largest_remainder_share
  none_more h =
      rw (le-ltb (places_ahead (remainders a ws) i) (litres_left a ws) h)
      (ap (λ x. x + 0) (is ∙ sym (floor_at a ws i in')))

  module _
      (t n m : ℕ) (at : IsCut (remainders a ws) (litres_left a ws) t n)
      (more : m ≡ left_at a ws t i) where
    cut : MayCut (remainders a ws) (litres_left a ws) t
    cut = record { few = omega (arith, at.counted); enough = at.enough }

    inside : i < length (remainders a ws)
    inside = omega (arith, length-remainders a ws)

    not_at : slice_index_or (remainders a ws) i 0 ≢ t → left_at a ws t i ≡ left_at a ws t (i + 1)
    not_at h =
        let same = count_by_more_no (λ r. nat_eq r t) (remainders a ws) i 0 inside (ne_eqb _ _ h) in
        omega arith

    one_at : slice_index_or (remainders a ws) i 0 ≡ t →
        left_at a ws t i - 1 ≡ left_at a ws t (i + 1)
    one_at e =
        let one = count_by_more_yes (λ r. nat_eq r t) (remainders a ws) i 0 inside (eq-eqb _ _ e) in
        omega arith

    ahead_at : slice_index_or (remainders a ws) i 0 ≡ t →
        places_ahead (remainders a ws) i ≡
        count_above (remainders a ws) t + count_at (take i (remainders a ws)) t
    ahead_at e = at_cut (remainders a ws) i inside (litres_left a ws) t cut e

    pub litre_above : t < slice_index (remainders a ws) i → LitreTurn a ws i x t 1 m
    litre_above h = record {
      share = one_more (above_cut (remainders a ws) i inside (litres_left a ws) t cut h);
      more = more ∙ not_at (omega arith);
    }

    pub litre_at : slice_index_or (remainders a ws) i 0 ≡ t → 0 < m → LitreTurn a ws i x t 1 (m - 1)
    litre_at e h = record {
      share = one_more (omega (arith, ahead_at e));
      more = omega (arith, one_at e);
    }

    pub no_litre_at : slice_index_or (remainders a ws) i 0 ≡ t → m ≡ 0 → LitreTurn a ws i x t 0 m
    no_litre_at e h = record {
      share = none_more (omega (arith, ahead_at e));
      more = omega (arith, one_at e);
    }

    pub no_litre_below : slice_index_or (remainders a ws) i 0 < t → LitreTurn a ws i x t 0 m
    no_litre_below h = record {
      share = none_more (below_cut (remainders a ws) i inside (litres_left a ws) t cut h);
      more = more ∙ not_at (omega arith);
    }

pub largest_shares_by_place : (a : ℕ) (ws out : List ℕ) → length ws ≡ length out →
    ((k : ℕ) → k < length ws → slice_index out k ≡ largest_remainder_share a ws k) →
    out ≡ largest_remainder_shares a ws
unfolding largest_remainder_shares
largest_shares_by_place a ws out same h =
    fill_by_all (largest_remainder_share a ws) out (length ws) 0 (sym same) h

-- the first i remainders have been turned into shares, and m litres are left for those at t
pub record SharesUpTo (a : ℕ) (ws : List ℕ) (t i m : ℕ) (out : List ℕ) : Type 0 where
  pub rest : m ≡ left_at a ws t i
  pub shares : (k : ℕ) → k < i → slice_index out k ≡ largest_remainder_share a ws k
  pub remainders : (k : ℕ) → i ≤ k → slice_index out k ≡ slice_index (remainders a ws) k

pub shares_up_to_zero : (a : ℕ) (ws : List ℕ) (t m : ℕ) (out : List ℕ) →
    IsCut (remainders a ws) (litres_left a ws) t m → out ≡ remainders a ws →
    SharesUpTo a ws t 0 m out
shares_up_to_zero a ws t m out cut o = record {
  rest = omega (arith, cut.counted);
  shares = λ k h. absurd (omega arith);
  remainders = λ k h. ap (λ l. slice_index l k) o;
}

pub shares_up_to_more : (a : ℕ) (ws : List ℕ) (t i m n x e : ℕ) (out new : List ℕ) →
    i < length out → SharesUpTo a ws t i m out → new ≡ slice_set out i (x + e) →
    LitreTurn a ws i x t e n → SharesUpTo a ws t (i + 1) n new
shares_up_to_more a ws t i m n x e out new in' h is turn = record {
  rest = turn.more;
  shares = rw (is, turn.share) (fill_by_more (largest_remainder_share a ws) out i 0 in' h.shares);
  remainders =
      λ k le.
      let other = get_or-set_other out i k (x + e) 0 (omega arith) in
      rw is (other ∙ h.remainders k (omega arith));
}
