use Rattle.std.proofs.Common.{[], rules}
use Rattle.player.proofs.station.Station.abandon.Goals as goal

pub invariant_of-self-in-Open : goal.invariant_of-self-in-Open
invariant_of-self-in-Open c = let ended = c.abandon_open.ensures.became [] in search rules

pub unwrap-requires : goal.unwrap-requires
unwrap-requires c = let ended = c.abandon_open.ensures.became [] in search rules

pub invariant_of-self-in-Measured : goal.invariant_of-self-in-Measured
invariant_of-self-in-Measured c =
    let ended = c.abandon_measured.ensures.became [] in search rules

pub unwrap-requires-in-Measured : goal.unwrap-requires-in-Measured
unwrap-requires-in-Measured c =
    let ended = c.abandon_measured.ensures.became [] in search rules

pub returns-in-Open-clause-became : goal.returns-in-Open-clause-became
returns-in-Open-clause-became c s = let ended = c.abandon_open.ensures.became s in search rules

pub returns-in-Measured-clause-became : goal.returns-in-Measured-clause-became
returns-in-Measured-clause-became c s =
    let ended = c.abandon_measured.ensures.became s in search rules
