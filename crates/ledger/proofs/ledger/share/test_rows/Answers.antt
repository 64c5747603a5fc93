use Rattle.std.proofs.Common.{◌<◌, length, ap, ◌∙◌, arith}
use Rattle.std.specs.List.{list_all}
use Rattle.std.proofs.lemmas.List.{take_all}
use Rattle.rows.specs.Rows.{may_share, is_free, is_served}
use Rattle.rows.proofs.Rows.{list_all-take-more}
use Rattle.ledger.proofs.ledger.share.test_rows.Goals as goal

pub loop-row-preserved : goal.loop-row-preserved
loop-row-preserved c =
    let s = c.args.rows.now in
    let i = c.loop-row.row-index in
    let inside : i < length s = omega arith in
    let own = list_all-take-more (may_share c.args.traders) s i inside in
    let free = list_all-take-more is_free s i inside in
    let served = list_all-take-more (is_served c.args.segments) s i inside in
    record { share = cc; free = cc; served = cc }

pub returns : goal.returns
returns c =
    let s = c.args.rows.now in
    let all = take_all c.loop-row.row-index s (omega arith) in
    record {
      share = c.loop-row.invariant.share ∙ ap (list_all (may_share c.args.traders)) all;
      free = c.loop-row.invariant.free ∙ ap (list_all is_free) all;
      served = c.loop-row.invariant.served ∙ ap (list_all (is_served c.args.segments)) all;
    }
