use Rattle.std.proofs.Common.{◌≡◌, take}
use Rattle.std.specs.List.{list_all}
use Rattle.rows.specs.Rows.{may_share, is_free, is_served}
use Rattle.ledger.proofs.ledger.share.test_rows.Given as goal

abbrev pub invariant-loop-row : goal.invariant-loop-row
invariant-loop-row l =
    let front = take l.row-index l.rows in
    record {
      share : l.may_share ≡ list_all (may_share l.traders) front;
      free : l.free ≡ list_all is_free front;
      served : l.served ≡ list_all (is_served l.segments) front;
    }
