use Rattle.std.proofs.Common.{◌≡◌, false, ◌&&◌, eqb, ltb, length, None, sym, subst, ⊎_elim}
use Rattle.std.proofs.lemmas.Bool.{and_right, and_left, le-ltb, ne_eqb}
use Rattle.ledger.specs.Sharing.{IsWeighable, inputs_of, early_fault}
use Rattle.ledger.proofs.Grounds.{refused_by, passed_by}
use Rattle.ledger.proofs.ShareOut.{passed, passed_room, passed_running, turned_away, weightless, shared_out}
use Rattle.ledger.proofs.ledger.Ledger.share_out.Given as given
use Rattle.ledger.proofs.ledger.Ledger.share_out.Goals as goal
use Rattle.ledger.proofs.ledger.Ledger.share_out.Goals.{In-Err, In_default}

-- after the tests, none of the first grounds is met
unmet : (g : given.Over) (c : In_default g) → early_fault c.args.self.now.book c.args.sheet.now
    c.args.day (inputs_of (g.P.Profile.tells c.args.profile.now) g.P.Profile.segments
    g.R.ShareRule.shares c.args.uses.now c.args.shares.now) ≡ None
unmet g c = (passed_by (early_fault c.args.self.now.book c.args.sheet.now c.args.day
    (inputs_of (g.P.Profile.tells c.args.profile.now) g.P.Profile.segments g.R.ShareRule.shares
    c.args.uses.now c.args.shares.now)) tt tt c.in_default.ensures).0

pub returns-in-Err : goal.returns-in-Err
returns-in-Err g c =
    let l = c.args.self.now.book in
    let s = c.args.sheet.now in
    let m = inputs_of (g.P.Profile.tells c.args.profile.now) g.P.Profile.segments
    g.R.ShareRule.shares c.args.uses.now c.args.shares.now in
    let some = refused_by (early_fault l s c.args.day m) tt c.in-Err.why c.in-Err.ensures in
    let d = turned_away l s c.args.day m c.in-Err.why some in
    record {
      became = d;
      run = record {
        profile = g.met.P.Profile.are_factors c.args.profile.now;
        rule = g.met.R.ShareRule.laws;
        shares_out = d;
      };
    }

pub weigh_day-total-requires : goal.weigh_day-total-requires
weigh_day-total-requires g c =
    let none = unmet g (goal.at.weigh_day-total-requires g c).In_default in
    passed c.args.self.now.book c.args.sheet.now c.args.day g.P.Profile.segments
    (length c.args.uses.now) (length c.args.shares.now) none

pub returns-then-total-eq0 : goal.returns-then-total-eq0
returns-then-total-eq0 g c =
    let m = inputs_of (g.P.Profile.tells c.args.profile.now) g.P.Profile.segments
    g.R.ShareRule.shares c.args.uses.now c.args.shares.now in
    let none = unmet g (goal.at.returns-then-total-eq0 g c).In_default in
    let w = c.weigh_day-total.ensures in
    let d = weightless c.args.self.now.book c.args.sheet.now c.args.day m c.weigh_day-total.new.uses
    _ _ none w.written w.total c.quantity-quantity.ensures c.if-quantity-gt0.true
    c.if-total-eq0.true in
    record {
      became = d;
      run = record {
        profile = g.met.P.Profile.are_factors c.args.profile.now;
        rule = g.met.R.ShareRule.laws;
        shares_out = d;
      };
    }

pub close_day-requires : goal.close_day-requires
close_day-requires g c =
    let l = c.args.self.now.book in
    let s = c.args.sheet.now in
    let n = g.P.Profile.segments in
    let us = c.args.uses.now in
    let ss = c.args.shares.now in
    let none = unmet g (goal.at.close_day-requires g c).In_default in
    record {
      weighed = subst (IsWeighable l s) (sym c.weigh_day-total.auto.uses)
          (passed l s c.args.day n (length us) (length ss) none);
      room = passed_room l s c.args.day n (length us) (length ss) none;
      running = passed_running l s c.args.day n (length us) (length ss) none;
    }

pub returns : goal.returns
returns g c =
    let l = c.args.self.now.book in
    let s = c.args.sheet.now in
    let m = inputs_of (g.P.Profile.tells c.args.profile.now) g.P.Profile.segments
    g.R.ShareRule.shares c.args.uses.now c.args.shares.now in
    let none = unmet g (goal.at.returns g c).In_default in
    let w = c.weigh_day-total.ensures in
    let b = c.close_day.ensures in
    let quantity = c.quantity-quantity.result in
    let total = c.weigh_day-total.result.total in
    let some : (ltb 0 quantity && eqb total 0) ≡ false =
    ⊎_elim (λ h. and_right (ltb 0 quantity) (eqb total 0) (ne_eqb total 0 h.1))
    (λ h. and_left (ltb 0 quantity) (eqb total 0) (le-ltb 0 quantity h))
    c.else-quantity-gt0.either in
    let d = shared_out l s c.args.day m c.weigh_day-total.new.uses total quantity none w.written
    w.total c.quantity-quantity.ensures
    c.loss-loss.result c.weigh_day-total.result.factors c.close_day.new.self.book
    c.close_day.new.sheet c.close_day.new.shares c.loss-loss.ensures w.factors some b.given
    b.state b.rows in
    record {
      became = d;
      run = record {
        profile = g.met.P.Profile.are_factors c.args.profile.now;
        rule = g.met.R.ShareRule.laws;
        shares_out = d;
      };
    }
