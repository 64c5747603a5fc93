use Rattle.std.proofs.Common.{◌≡◌}
use Rattle.scenario.specs.Days.{SharesAtMost}
use Rattle.scenario.proofs.running.enter_all.Given as goal

abbrev pub invariant-loop-entry : goal.invariant-loop-entry
invariant-loop-entry l = record {
  running : l.ledger.book.phase ≡ l.initial.ledger.book.phase;
  shared : SharesAtMost 0 l.initial.ledger.book l.ledger.book;
}
