-- The laws of the running rule.
use Rattle.std.specs.Prelude.{◌≡◌, ℕ, zero, suc, ◌+◌, ◌-◌, ◌*◌, ◌/◌, ◌<◌, ◌≤◌, List, map, length, take, sum, slice_index}
use Rattle.std.proofs.Math.Path.{sym, ap, subst}
use Rattle.std.proofs.Common.{◌∙◌, mul-add, add-mul, mul-zero, mod-lt, add-one, arith, take_all}
use Rattle.std.proofs.Math.Nat.{zero-div, mul-div_cancel}
use Rattle.std.specs.List.{range_with_len}
use Rattle.std.proofs.lemmas.Nat.{div-add-mod', le-div}
use Rattle.std.proofs.lemmas.List.Sums.{sum_by_more}
use Rattle.std.proofs.lemmas.List.FromFn.{length-map-range_with_len, get_or-map-range_with_len, sum_by-map-range_with_len_more}
use Rattle.shares.specs.Fair.{Near}
use Rattle.shares.specs.Laws.{GivesOneEach, SharesWhole, SharesNear, SharesIdle, SharesFairly}
use Rattle.shares.specs.Rules.{share_up_to, running_share, running_shares}
use Rattle.shares.specs.Fairness.{fair_parts}

-- the quotients by s of x and of z more
pub record Gap (s x z : ℕ) : Type 0 where
  pub rises : x / s ≤ (x + z) / s
  pub above : ((x + z) / s - x / s) * s < z + s
  pub below : z < ((x + z) / s - x / s) * s + s

pub gap : (s x z : ℕ) → 0 < s → Gap s x z
gap s x z h =
    let p = div-add-mod' x s in
    let q = div-add-mod' (x + z) s in
    let m = mod-lt x h in
    let n = mod-lt (x + z) h in
    let up : x / s ≤ (x + z) / s = le-div (x / s) (x + z) s h (omega arith) in
    let d = (x + z) / s - x / s in
    let whole : d + x / s ≡ (x + z) / s = omega arith in
    let split : d * s + x / s * s ≡ (x + z) / s * s =
    sym (add-mul d (x / s) s) ∙ ap (λ y. y * s) whole in
    record { rises = up; above = omega arith; below = omega arith }

module _ (a : ℕ) (ws : List ℕ) where
  pub share_up_to-zero : share_up_to a ws 0 ≡ 0
  unfolding share_up_to
  share_up_to-zero = ap (λ x. x / sum ws) (mul-zero a) ∙ zero-div (sum ws)

  pub share_up_to_more : (i : ℕ) → i < length ws →
      share_up_to a ws (i + 1) ≡ (a * sum (take i ws) + a * slice_index ws i) / sum ws
  unfolding share_up_to
  share_up_to_more i h =
      ap (λ x. a * x / sum ws) (sum_by_more (λ x. x) ws i 0 h)
      ∙ ap (λ x. x / sum ws) (mul-add a (sum (take i ws)) (slice_index ws i))

  pub share_up_to-length : 0 < sum ws → share_up_to a ws (length ws) ≡ a
  unfolding share_up_to
  share_up_to-length h =
      ap (λ l. a * sum l / sum ws) (take_all (length ws) ws (omega arith)) ∙ mul-div_cancel a h

  pub gap_at : 0 < sum ws → (i : ℕ) → i < length ws →
      Gap (sum ws) (a * sum (take i ws)) (a * slice_index ws i)
  gap_at h i in' = gap (sum ws) (a * sum (take i ws)) (a * slice_index ws i) h

  pub share_up_to_rises : 0 < sum ws → (i : ℕ) → i < length ws →
      share_up_to a ws i ≤ share_up_to a ws (i + 1)
  unfolding share_up_to
  share_up_to_rises h i in' = omega (arith, share_up_to_more i in', (gap_at h i in').rises)

  pub running_share_near : 0 < sum ws → (i : ℕ) → i < length ws →
      Near a (sum ws) (slice_index ws i) (running_share a ws i)
  unfolding share_up_to running_share
  running_share_near h i in' =
      let e = share_up_to_more i in' in let g = gap_at h i in' in rw e (g.above, g.below)

  -- no weight, no share, whether or not the quantity can be shared
  pub running_share_idle : (i : ℕ) → i < length ws → slice_index ws i ≡ 0 →
      running_share a ws i ≡ 0
  unfolding share_up_to running_share
  running_share_idle i in' z =
      let more : sum (take (i + 1) ws) ≡ sum (take i ws) =
      omega (arith, sum_by_more (λ x. x) ws i 0 in') in
      rw more (omega arith)

  pub sum_first : 0 < sum ws → (n : ℕ) → n ≤ length ws →
      sum (map (running_share a ws) (range_with_len 0 n)) ≡ share_up_to a ws n
  unfolding running_share
  sum_first h zero le = sym share_up_to-zero
  sum_first h (suc n) le =
      let before = sum_first h n (omega arith) in
      let rises = share_up_to_rises h n (omega arith) in
      let one = sum_by-map-range_with_len_more (λ x. x) (running_share a ws) 0 n n (omega arith) in
      subst (λ m. sum (map (running_share a ws) (range_with_len 0 m)) ≡ share_up_to a ws m)
      (add-one n) (omega arith)

pub running_places : GivesOneEach running_shares
unfolding running_shares
running_places a ws = length-map-range_with_len (running_share a ws) 0 (length ws)

pub running_at : (a : ℕ) (ws : List ℕ) (i : ℕ) → i < length ws →
    slice_index (running_shares a ws) i ≡ running_share a ws i
unfolding running_shares
running_at a ws i h =
    get_or-map-range_with_len (running_share a ws) 0 (length ws) i i 0 h (omega arith)

pub running_whole : SharesWhole running_shares
unfolding running_shares
running_whole a ws h =
    let p = fair_parts a ws h in
    sum_first a ws p.some (length ws) (omega arith) ∙ share_up_to-length a ws p.some

pub running_near : SharesNear running_shares
running_near a ws i h in' =
    rw (running_at a ws i in') (running_share_near a ws (fair_parts a ws h).some i in')

pub running_idle : SharesIdle running_shares
running_idle a ws i h in' z = running_at a ws i in' ∙ running_share_idle a ws i in' z

pub running_laws : SharesFairly running_shares
running_laws = record { places = running_places; whole = running_whole; near = running_near }
