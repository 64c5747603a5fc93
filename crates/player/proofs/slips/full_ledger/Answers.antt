use Rattle.std.proofs.Common.{[], rules}
use Rattle.player.proofs.slips.full_ledger.Goals as goal

pub loop-init : goal.loop-init
loop-init c = let admitted = c.admit_trader-trader.ensures.became [] in search rules
