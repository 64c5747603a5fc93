use Rattle.std.proofs.Common.{◌≡◌, ℕ, ◌<◌, get_or, take, sum}
use Rattle.shares.specs.Rules.{floors, remainders}
use Rattle.shares.proofs.largest.Rounding.new.Given as goal

abbrev pub invariant-loop-i : goal.invariant-loop-i
invariant-loop-i l = record {
  given : l.given ≡ sum (take l.i (floors l.sharing.quantity l.sharing.weights.now));
  rems : (k : ℕ) → k < l.i →
      get_or l.sheet k 0 ≡ get_or (remainders l.sharing.quantity l.sharing.weights.now) k 0;
}
