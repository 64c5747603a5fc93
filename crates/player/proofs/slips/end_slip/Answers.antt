use Rattle.std.proofs.Common.{arith}
use Rattle.ledger.proofs.HandedBack.{taken}
use Rattle.ledger.proofs.Withdrawals.{withdrawn}
use Rattle.player.proofs.slips.end_slip.Goals as goal

pub unwrap-requires : goal.unwrap-requires
unwrap-requires c =
    let made = c.requires.made in
    let full = c.requires.full in
    taken _ c.args.slip tt _
    (withdrawn 4096 c.args.ledger.now.book _ c.args.slip (omega (arith, full)) (omega arith)
    c.number.ensures made.0 (omega (arith, full, made.1)))
    c.withdraw.ensures.became.answer
