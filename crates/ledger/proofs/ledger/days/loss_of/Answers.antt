use Rattle.std.proofs.Common.{◌*◌, ◌≤◌, mul-le-mul_left, rules, arith}
use native.Mathlib.Nat.{div-le_of_le-mul}
use Rattle.ledger.specs.Days.{loss_of}
use Rattle.ledger.proofs.ledger.days.loss_of.Goals as goal

pub returns-clause-bound : goal.returns-clause-bound
returns-clause-bound c =
    let g = c.args.inflow in
    let m : g * c.args.rate ≤ g * 1_000_000 = mul-le-mul_left g c.requires.rate in
    let b : loss_of g c.args.rate ≤ g = div-le_of_le-mul 1_000_000 (omega arith) in
    search rules
