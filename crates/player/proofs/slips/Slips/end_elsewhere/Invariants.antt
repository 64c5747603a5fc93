use Rattle.std.proofs.Common.{All, vec_len}
use Rattle.player.specs.Slips.{IsLedgerSlip}
use Rattle.player.proofs.slips.Slips.end_elsewhere.Given as goal

abbrev pub invariant-loop-slip : goal.invariant-loop-slip
invariant-loop-slip l = All IsLedgerSlip l.open.items

abbrev pub decreases-loop-slip : goal.decreases-loop-slip
decreases-loop-slip l = vec_len l.open
