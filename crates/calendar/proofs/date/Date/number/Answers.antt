use Rattle.std.proofs.Common.{◌≡◌, true, rules}
use Rattle.calendar.specs.Days.{is_day}
use Rattle.calendar.proofs.Dates.{days_before-at_most, is_date_of-days_before}
use Rattle.calendar.proofs.date.Date.number.Goals as goal

pub returns-clause-back : goal.returns-clause-back
returns-clause-back c =
    let h : is_day c.args.self ≡ true = search rules in
    rw c.days_before.ensures
    (days_before-at_most c.args.self h, is_date_of-days_before c.args.self h)
