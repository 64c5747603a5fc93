use Rattle.std.proofs.Common.{rules}
use Rattle.player.specs.Playing.{rows_of}
use Rattle.player.proofs.player.Player.admit_trader.Goals as goal

pub returns-in_err-from_slice : goal.returns-in_err-from_slice
returns-in_err-from_slice c =
    let became = c.admit_trader-answer.ensures.became (rows_of c.args.self.now.state) in
    search rules

pub returns-in_err-push : goal.returns-in_err-push
returns-in_err-push c =
    let became = c.admit_trader-answer.ensures.became (rows_of c.args.self.now.state) in
    search rules

pub returns-in_err-print_call : goal.returns-in_err-print_call
returns-in_err-print_call c =
    let became = c.admit_trader-answer.ensures.became (rows_of c.args.self.now.state) in
    search rules

pub returns : goal.returns
returns c =
    let became = c.admit_trader-answer.ensures.became (rows_of c.args.self.now.state) in
    search rules
