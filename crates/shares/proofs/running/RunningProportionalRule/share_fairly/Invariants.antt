use Rattle.std.proofs.Common.{◌≡◌, ℕ, ◌<◌, get_or, take, sum}
use Rattle.shares.specs.Rules.{share_up_to, running_share}
use Rattle.shares.proofs.running.RunningProportionalRule.share_fairly.Given as goal

abbrev pub invariant-loop-i : goal.invariant-loop-i
invariant-loop-i l = record {
  sum : l.sum ≡ sum (take l.i l.sharing.weights.now);
  given : l.given ≡ share_up_to l.sharing.quantity l.sharing.weights.now l.i;
  shares : (k : ℕ) → k < l.i →
      get_or l.out k 0 ≡ running_share l.sharing.quantity l.sharing.weights.now k;
}
