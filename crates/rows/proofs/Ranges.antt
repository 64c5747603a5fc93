-- What the tests of a row say.
use Rattle.std.proofs.Common.{◌≡◌, ℕ, ◌≤◌, true, arith}
use Rattle.std.proofs.lemmas.Bool.{ltb-true, and_parts}
use Rattle.std.proofs.lemmas.Bool.Decides.{nat_tests}
use Rattle.rows.specs.declared.point.Point.{Point}
use Rattle.rows.specs.Limits.{max_open_sum}
use Rattle.rows.specs.Rows.{IsShareable, row_fits, may_share, is_summable, open_sum_of}
use Rattle.rows.proofs.Corrections.{tested_row}

-- a trader's row that can be summed has an open sum within its limit
pub open_sum_small : (t : ℕ) (p : Point) → is_summable t p ≡ true → open_sum_of t p ≤ max_open_sum
open_sum_small t p e = grind (arith, nat_tests)

-- a row that may be shared out to
pub shareable : (traders : ℕ) (p : Point) → may_share traders p ≡ true → IsShareable traders p
shareable traders p e =
    let a = and_parts (row_fits p) _ e in
    let b = and_parts _ _ a.1 in
    let r = tested_row p a.0 in
    record {
      owned = ltb-true _ _ b.0;
      segment = r.particulars.segments;
      open_sum = r.open_sum;
      period_sum = r.period_sum;
    }
