use Rattle.scenario.specs.Days.{SharesAtMost}
use Rattle.scenario.proofs.station.admit_traders.Given as goal

abbrev pub invariant-loop : goal.invariant-loop
invariant-loop l = SharesAtMost 0 l.initial.ledger.book l.ledger.book
