use Rattle.std.proofs.Common.{[], rules}
use Rattle.player.proofs.station.Station.close.Goals as goal

pub returns : goal.returns
returns c = let abandoned = c.abandon-answer.ensures.became [] in search rules
