use Rattle.std.proofs.Common.{arith}
use Rattle.ledger.proofs.HandedBack.{taken}
use Rattle.ledger.proofs.Withdrawals.{withdrawn}
use Rattle.ledger_tests.proofs.readings.slips.end_slip.Goals as goal

pub unwrap-requires : goal.unwrap-requires
unwrap-requires c =
    let l = c.args.ledger.now in
    let accepted = withdrawn 4096 l.book _ c.args.slip l.sound.points
    (omega arith) c.number.ensures c.requires.0 c.requires.1 in
    taken _ c.args.slip tt _ accepted c.withdraw.ensures.became.answer
