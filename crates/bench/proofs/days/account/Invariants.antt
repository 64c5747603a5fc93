use Rattle.ledger.specs.Accounts.{new_book}
use Rattle.scenario.specs.Days.{SharesAtMost}
use Rattle.bench.proofs.days.account.Given as goal

abbrev pub invariant-loop-number : goal.invariant-loop-number
invariant-loop-number g l = SharesAtMost l.number (new_book 0) l.ledger.book
