use Rattle.std.proofs.Common.{◌≡◌, ◌<◌, ◌≤◌, All, vec_len}
use Rattle.player.specs.Slips.{IsLedgerSlip}
use Rattle.player.proofs.slips.Slips.end.Given as goal

abbrev pub invariant-loop-slip : goal.invariant-loop-slip
invariant-loop-slip l = record {
  made : All IsLedgerSlip l.open.items;
  few : vec_len l.open ≤ vec_len l.initial.open;
  full : 0 < vec_len l.open → vec_len l.places ≡ 4096;
}

abbrev pub decreases-loop-slip : goal.decreases-loop-slip
decreases-loop-slip l = vec_len l.open
