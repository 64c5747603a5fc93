-- The turns of the running rule's loop.
use Rattle.std.proofs.Common.{◌≡◌, ℕ, ◌+◌, ◌-◌, ◌*◌, ◌/◌, ◌<◌, ◌≤◌, true, List, length, take, sum, sym, ap, ◌∙◌, arith}
use Rattle.std.specs.Prelude.{slice_index}
use Rattle.std.proofs.lemmas.List.Sums.{sum_by_more}
use Rattle.std.proofs.lemmas.List.FromFn.{fill_by_all}
use Rattle.shares.specs.Fair.{fair}
use Rattle.shares.specs.Rules.{share_up_to, running_share, running_shares}
use Rattle.shares.specs.Fairness.{fair_parts}
use Rattle.shares.specs.RunningLaws.{share_up_to_rises}

-- s and g are the sum and the litres given before place i, and x what is given with it
pub record RunningTurn (a : ℕ) (ws : List ℕ) (i s g x : ℕ) : Type 0 where
  pub sum_next : s + slice_index ws i ≡ sum (take (i + 1) ws)
  pub given_next : x ≡ share_up_to a ws (i + 1)
  pub rises : g ≤ x
  pub share : x - g ≡ running_share a ws i

pub running_turn : (a : ℕ) (ws : List ℕ) (i s g x : ℕ) → fair a ws ≡ true → i < length ws →
    s ≡ sum (take i ws) → g ≡ share_up_to a ws i → x ≡ a * (s + slice_index ws i) / sum ws →
    RunningTurn a ws i s g x
unfolding share_up_to running_share
running_turn a ws i s g x y in' so_far given is =
    let next : s + slice_index ws i ≡ sum (take (i + 1) ws) =
    omega (arith, sum_by_more (λ x. x) ws i 0 in') in
    let new : x ≡ share_up_to a ws (i + 1) = is ∙ ap (λ x. a * x / sum ws) next in
    record {
      sum_next = next;
      given_next = new;
      rises = omega (arith, share_up_to_rises a ws (fair_parts a ws y).some i in');
      share = ap (λ x. x - g) new ∙ ap (λ x. share_up_to a ws (i + 1) - x) given;
    }

pub running_shares_by_place : (a : ℕ) (ws out : List ℕ) → length ws ≡ length out →
    ((k : ℕ) → k < length ws → slice_index out k ≡ running_share a ws k) → out ≡ running_shares a ws
unfolding running_shares
running_shares_by_place a ws out same h =
    fill_by_all (running_share a ws) out (length ws) 0 (sym same) h
