use Rattle.std.proofs.Common.{◌≡◌}
use Rattle.ledger.specs.Accounts.{settled_trader}
use Rattle.ledger.proofs.Loops.{partly}
use Rattle.ledger.proofs.ledger.share.settle.Given as goal

abbrev pub invariant-loop-trader : goal.invariant-loop-trader
invariant-loop-trader l = l.traders ≡ partly settled_trader l.initial.traders l.trader-index
