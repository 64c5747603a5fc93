use Rattle.std.proofs.Common.{◌≡◌, length}
use Rattle.shares.proofs.LargestTurns.{SharesUpTo}
use Rattle.shares.proofs.largest.LargestRemainderProportionalRule.share_fairly.Given as goal

abbrev pub invariant-loop-i : goal.invariant-loop-i
invariant-loop-i l = record {
  long : length l.out ≡ length l.sharing.weights.now;
  so_far : SharesUpTo l.sharing.quantity l.sharing.weights.now l.cut.at l.i l.more l.out;
}
