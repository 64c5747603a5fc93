use Rattle.std.proofs.Common.{sym, subst, rules}
use Rattle.ledger.specs.Accounts.{IsSound}
use Rattle.ledger.proofs.KeepReadings.{booked_sound, account_sum_fits, rest_difference_fits, row_booked}
use Rattle.ledger.proofs.ledger.Ledger.book_row.Goals as goal

pub overflow_add-self : goal.overflow_add-self
overflow_add-self c =
    let l = c.args.self.now.book in
    account_sum_fits l c.args.self.now.sound c.args.fit.now.row c.args.fit.now.in_range
    c.requires.left c.correction-by.result c.correction-by.ensures (search rules) (search rules)
    (search rules)

pub overflow_sub-self : goal.overflow_sub-self
overflow_sub-self c =
    let l = c.args.self.now.book in
    rest_difference_fits l c.args.self.now.sound c.args.fit.now.row c.args.fit.now.in_range
    c.requires.left c.correction-by.result c.correction-by.ensures (search rules) (search rules)
    (search rules)

pub invariant_of-self : goal.invariant_of-self
invariant_of-self c =
    let l = c.args.self.now.book in
    let state = row_booked l c.args.self.now.sound c.args.fit.now.row c.args.fit.now.in_range
    c.requires.left c.correction-by.result c.correction-by.ensures (search rules) (search rules)
    (search rules) in
    record {
      sound = subst IsSound (sym state) (booked_sound l c.args.fit.now.row
          c.args.self.now.sound c.args.fit.now.in_range c.requires.left);
    }

pub returns-clause-state : goal.returns-clause-state
returns-clause-state c =
    let l = c.args.self.now.book in
    row_booked l c.args.self.now.sound c.args.fit.now.row c.args.fit.now.in_range c.requires.left
    c.correction-by.result c.correction-by.ensures (search rules) (search rules) (search rules)
