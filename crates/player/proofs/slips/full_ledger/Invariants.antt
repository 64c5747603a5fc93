use Rattle.std.proofs.Common.{◌≡◌, length}
use Rattle.player.proofs.slips.full_ledger.Given as goal

abbrev pub invariant-loop : goal.invariant-loop
invariant-loop l = record {
  trader : l.ledger.book.counts.traders ≡ 1;
  points : l.ledger.book.counts.points ≡ l.counter;
  places : length l.sheet ≡ 4096;
}
