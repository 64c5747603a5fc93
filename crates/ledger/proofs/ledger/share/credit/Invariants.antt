use Rattle.std.proofs.Common.{◌≡◌}
use Rattle.ledger.specs.Accounts.{with_shares}
use Rattle.rows.specs.Rows.{factors_at, shared_rows}
use Rattle.ledger.proofs.ledger.share.credit.Given as goal

abbrev pub invariant-loop-i : goal.invariant-loop-i
invariant-loop-i l =
    record {
      traders : l.traders ≡ with_shares l.initial.traders l.initial.rows l.shares l.i;
      rows : l.rows ≡ shared_rows (factors_at l.factors) l.initial.rows l.shares l.i;
    }
