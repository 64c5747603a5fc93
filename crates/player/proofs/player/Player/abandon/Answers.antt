use Rattle.std.proofs.Common.{rules}
use Rattle.player.specs.Playing.{rows_of}
use Rattle.player.proofs.player.Player.abandon.Goals as goal

pub returns-in_err-print_call : goal.returns-in_err-print_call
returns-in_err-print_call c =
    let became = c.abandon-answer.ensures.became (rows_of c.args.self.now.state) in search rules

pub returns : goal.returns
returns c = let became = c.abandon-answer.ensures.became (rows_of c.args.self.now.state) in
    search rules
