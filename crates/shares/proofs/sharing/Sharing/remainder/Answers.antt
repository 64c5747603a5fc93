use Rattle.std.proofs.Common.{arith}
use Rattle.shares.specs.Fairness.{fair_parts}
use Rattle.shares.proofs.Limits.{product_fits}
use Rattle.shares.proofs.sharing.Sharing.remainder.Goals as goal

pub overflow_mul-result : goal.overflow_mul-result
overflow_mul-result c = record { fits = product_fits _ _ _ c.args.self.now.fairly c.requires }

pub nonzero_rem-result : goal.nonzero_rem-result
nonzero_rem-result c =
    let s = c.args.self.now in omega (arith, s.whole, (fair_parts _ _ s.fairly).some)
