use Rattle.std.proofs.Common.{sym, subst}
use Rattle.ledger.specs.Accounts.{IsSound}
use Rattle.rows.specs.Rows.{factors_at}
use Rattle.ledger.proofs.ShareOut.{creditable, ready, closed_book, closed_rows, closed_sound}
use Rattle.shares.specs.Laws.{IsShareRule}
use Rattle.ledger.proofs.ledger.Ledger.close_day.Given as given
use Rattle.ledger.proofs.ledger.Ledger.close_day.Goals as goal

law-of : (g : given.Over) → IsShareRule g.R.ShareRule.shares
law-of g = g.met.R.ShareRule.laws

pub credit-requires : goal.credit-requires
credit-requires g c =
    let l = c.args.self.now.book in
    let s = c.args.sheet.now in
    creditable l s g.R.ShareRule.shares (law-of g) c.args.self.now.sound c.args.uses.now
    c.args.shares.now c.divide.new.shares c.requires.weighed c.requires.room c.quantity.result
    c.quantity.ensures c.divide.ensures

pub settle-requires : goal.settle-requires
settle-requires g c =
    let l = c.args.self.now.book in
    let s = c.args.sheet.now in
    ready l s g.R.ShareRule.shares (law-of g) c.args.self.now.sound c.args.uses.now
    c.args.shares.now c.divide.new.shares c.requires.weighed c.requires.room c.quantity.result
    c.quantity.ensures c.divide.ensures
    c.credit.new.traders c.credit.ensures.traders

pub invariant_of-self : goal.invariant_of-self
invariant_of-self g c =
    let l = c.args.self.now.book in
    let s = c.args.sheet.now in
    let state = closed_book l s g.R.ShareRule.shares
    (law-of g) c.args.self.now.sound c.args.uses.now c.args.shares.now c.divide.new.shares
    c.requires.weighed c.requires.room c.quantity.result c.quantity.ensures c.divide.ensures
    c.loss-loss.result c.credit.new.traders c.settle.new.traders c.loss-loss.ensures
    c.credit.ensures.traders c.settle.ensures in
    let sound = closed_sound l s g.R.ShareRule.shares
    (law-of g) c.args.self.now.sound c.args.uses.now c.args.shares.now c.divide.new.shares
    c.requires.weighed c.requires.room c.quantity.result c.quantity.ensures c.divide.ensures
    c.requires.running in
    record { sound = subst IsSound (sym state) sound }

pub returns-clause-state : goal.returns-clause-state
returns-clause-state g c =
    let l = c.args.self.now.book in
    let s = c.args.sheet.now in
    closed_book l s g.R.ShareRule.shares (law-of g) c.args.self.now.sound c.args.uses.now
    c.args.shares.now c.divide.new.shares c.requires.weighed c.requires.room c.quantity.result
    c.quantity.ensures c.divide.ensures
    c.loss-loss.result c.credit.new.traders c.settle.new.traders c.loss-loss.ensures
    c.credit.ensures.traders c.settle.ensures

pub returns-clause-rows : goal.returns-clause-rows
returns-clause-rows g c =
    let l = c.args.self.now.book in
    let s = c.args.sheet.now in
    closed_rows l s g.R.ShareRule.shares (law-of g) c.args.self.now.sound c.args.uses.now
    c.args.shares.now c.divide.new.shares c.requires.weighed c.requires.room c.quantity.result
    c.quantity.ensures c.divide.ensures
    (factors_at c.args.factors.now) c.credit.new.rows c.credit.ensures.rows
