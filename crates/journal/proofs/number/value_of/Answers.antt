use Rattle.std.proofs.Common.{◌+◌, rules, arith}
use Rattle.journal.proofs.Values.{digit_of, digits_value-take_more, digits_value-take}
use Rattle.journal.proofs.number.value_of.Goals as goal

pub overflow_sub-b : goal.overflow_sub-b
overflow_sub-b c =
    omega (arith, (digit_of c.args.digits.now c.loop-b.b-index c.requires c.loop-b-test.true).low)

pub returns-in_err-checked_mul : goal.returns-in_err-checked_mul
returns-in_err-checked_mul c =
    let more = digits_value-take_more
    c.args.digits.now c.loop-b.b-index c.requires c.loop-b-test.true in
    let front = digits_value-take c.args.digits.now (c.loop-b.b-index + 1) in
    grind (arith, rules, more, front)

pub returns-in_err-n : goal.returns-in_err-n
returns-in_err-n c =
    let more = digits_value-take_more
    c.args.digits.now c.loop-b.b-index c.requires c.loop-b-test.true in
    let front = digits_value-take c.args.digits.now (c.loop-b.b-index + 1) in
    grind (arith, rules, more, front)

pub loop-b-preserved : goal.loop-b-preserved
loop-b-preserved c =
    let more = digits_value-take_more
    c.args.digits.now c.loop-b.b-index c.requires c.loop-b-test.true in
    grind (arith, rules, more)
