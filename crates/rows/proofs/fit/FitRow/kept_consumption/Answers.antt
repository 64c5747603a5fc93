use Rattle.std.proofs.Common.{◌≡◌, ℕ, ◌*◌, ◌≤◌, sym, subst, arith}
use Rattle.std.proofs.lemmas.Bool.Decides.{nat_tests}
use Rattle.rows.specs.Bookings.{kept_consumption}
use Rattle.rows.proofs.Corrections.{consumption_small}
use Rattle.rows.proofs.fit.FitRow.kept_consumption.Goals as goal

pub dial_advance-requires : goal.dial_advance-requires
dial_advance-requires c =
    let h = c.args.self.now.in_range in
    record {
      few = grind (arith, nat_tests);
      most = grind (arith, nat_tests);
      old = grind (arith, nat_tests);
      new = grind (arith, nat_tests);
    }

pub returns-clause-bound : goal.returns-clause-bound
returns-clause-bound c =
    let same : c.from.result * c.from-2.result ≡ kept_consumption c.args.self.now.row = cc in
    subst (λ (n : ℕ). n ≤ 200_000_000_000) (sym same)
    (consumption_small c.args.self.now.row c.args.self.now.in_range)
