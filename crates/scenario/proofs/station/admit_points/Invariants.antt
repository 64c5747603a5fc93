use Rattle.scenario.specs.Days.{SharesAtMost}
use Rattle.scenario.proofs.station.admit_points.Given as goal

abbrev pub invariant-loop-given : goal.invariant-loop-given
invariant-loop-given l = SharesAtMost 0 l.initial.ledger.book l.ledger.book
