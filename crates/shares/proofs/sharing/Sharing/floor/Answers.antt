use Rattle.std.proofs.Common.{arith}
use Rattle.shares.specs.Fairness.{fair_parts}
use Rattle.shares.proofs.Limits.{product_fits, quotient_limit}
use Rattle.shares.proofs.sharing.Sharing.floor.Goals as goal

pub overflow_mul-result : goal.overflow_mul-result
overflow_mul-result c = record { fits = product_fits _ _ _ c.args.self.now.fairly c.requires }

pub nonzero_div-result : goal.nonzero_div-result
nonzero_div-result c =
    let s = c.args.self.now in omega (arith, s.whole, (fair_parts _ _ s.fairly).some)

pub returns-clause-most : goal.returns-clause-most
returns-clause-most c =
    let s = c.args.self.now in rw s.whole (quotient_limit _ _ _ s.fairly c.requires)
