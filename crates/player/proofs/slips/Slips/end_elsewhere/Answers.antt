use Rattle.std.proofs.lemmas.List.Elements.{All-pop}
use Rattle.player.specs.Slips.{IsLedgerSlip}
use Rattle.player.proofs.slips.Slips.end_elsewhere.Goals as goal

pub loop-slip-preserved : goal.loop-slip-preserved
loop-slip-preserved c = (All-pop IsLedgerSlip _ _ _ c.pop.ensures.items c.loop-slip.invariant).0
