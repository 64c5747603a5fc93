use Rattle.std.proofs.Common.{arith}
use Rattle.std.proofs.lemmas.Int.{ints}
use Rattle.rows.proofs.Corrections.{tested_row}
use Rattle.rows.proofs.fit.FitRow.correction.Goals as goal

pub returns : goal.returns
returns c =
    let r = tested_row c.args.self.now.row c.args.self.now.in_range in
    let v = c.kept_consumption.ensures.value in
    let b = c.kept_consumption.ensures.bound in
    omega (arith, ints)
