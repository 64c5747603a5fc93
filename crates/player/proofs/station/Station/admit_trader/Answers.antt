use Rattle.std.proofs.Common.{[], rules}
use Rattle.player.proofs.station.Station.admit_trader.Goals as goal

pub invariant_of-self : goal.invariant_of-self
invariant_of-self c = let admitted = c.admit_trader.ensures.became [] in search rules
