use Rattle.std.proofs.Common.{◌≡◌, ◌*◌, ◌^◌, ◌≤◌, take, sum}
use Rattle.rows.specs.Rows.{factors_at, profile_consumptions}
use Rattle.ledger.proofs.ledger.share.weigh.Given as goal

abbrev pub invariant-loop-i : goal.invariant-loop-i
invariant-loop-i l =
    record {
      written : take l.i l.uses ≡ profile_consumptions (factors_at l.factors) (take l.i l.rows);
      total : l.total ≡ sum (profile_consumptions (factors_at l.factors) (take l.i l.rows));
      small : l.total ≤ 2 ^ 41 * l.i;
    }
