use Rattle.std.proofs.Common.{◌≡◌}
use Rattle.ledger.specs.Accounts.{unmetered_trader}
use Rattle.ledger.proofs.Loops.{partly}
use Rattle.ledger.proofs.book.clear_metered.Given as goal

abbrev pub invariant-loop-trader : goal.invariant-loop-trader
invariant-loop-trader l = l.traders ≡ partly unmetered_trader l.initial.traders l.trader-index
