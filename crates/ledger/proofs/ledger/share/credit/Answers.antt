use Rattle.std.proofs.Common.{set, ap}
use Rattle.rows.specs.Rows.{row_at, factors_at}
use Rattle.ledger.proofs.Crediting.{turn, credit_step, row_step}
use Rattle.rows.proofs.Rows.{shared_rows_none}
use Rattle.ledger.proofs.Traders.{credited_to_none}
use Rattle.ledger.proofs.ledger.share.credit.Goals as goal

pub loop-i-init : goal.loop-i-init
loop-i-init c =
    let s = c.args.rows.now in
    let ss = c.args.shares.now in
    record {
      traders = credited_to_none c.args.traders.now s ss;
      rows = shared_rows_none (factors_at c.args.factors.now) s ss;
    }

pub bounds-traders-row : goal.bounds-traders-row
bounds-traders-row c =
    let t = turn (factors_at c.args.factors.now) c.args.traders.now c.args.rows.now
    c.args.shares.now c.requires c.loop-i.traders c.loop-i.rows c.loop-i.i c.loop-i-test.true
    c.loop-i.invariant.traders c.loop-i.invariant.rows in
    t.may.owned

pub credit-requires : goal.credit-requires
credit-requires c =
    let t = turn (factors_at c.args.factors.now) c.args.traders.now c.args.rows.now
    c.args.shares.now c.requires c.loop-i.traders c.loop-i.rows c.loop-i.i c.loop-i-test.true
    c.loop-i.invariant.traders c.loop-i.invariant.rows in
    record { account = t.account; litres = t.share }

pub bounds-factors-row : goal.bounds-factors-row
bounds-factors-row c =
    let t = turn (factors_at c.args.factors.now) c.args.traders.now c.args.rows.now
    c.args.shares.now c.requires c.loop-i.traders c.loop-i.rows c.loop-i.i c.loop-i-test.true
    c.loop-i.invariant.traders c.loop-i.invariant.rows in
    t.may.segment

pub shared-requires : goal.shared-requires
shared-requires c =
    let t = turn (factors_at c.args.factors.now) c.args.traders.now c.args.rows.now
    c.args.shares.now c.requires c.loop-i.traders c.loop-i.rows c.loop-i.i c.loop-i-test.true
    c.loop-i.invariant.traders c.loop-i.invariant.rows in
    record { open_sum = t.may.open_sum; period_sum = t.may.period_sum; share = t.share }

pub loop-i-preserved : goal.loop-i-preserved
loop-i-preserved c =
    let f = factors_at c.args.factors.now in
    let ts = c.args.traders.now in
    let s = c.args.rows.now in
    let ss = c.args.shares.now in
    record {
      traders = credit_step f ts s ss c.requires c.loop-i.traders _ c.loop-i.rows c.loop-i.i
          c.loop-i.invariant.traders c.loop-i.invariant.rows
          (ap (set c.loop-i.traders (row_at c.loop-i.rows c.loop-i.i).trader) c.credit.ensures);
      rows = row_step f ts s ss c.requires c.loop-i.rows c.loop-i.i c.shared.result
          c.loop-i.invariant.rows c.shared.ensures;
    }
