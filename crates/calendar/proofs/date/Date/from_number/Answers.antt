use Rattle.std.proofs.Common.{arith}
use Rattle.calendar.proofs.Dates.{date_of_parts}
use Rattle.calendar.proofs.date.Date.from_number.Goals as goal

pub returns : goal.returns
returns c =
    let at = c.from_number-at in
    let month = c.of_day-month.ensures in
    let before = rw month.leap at c.days_before.ensures.value in (
      omega arith,
      date_of_parts _ _ _ _ _ _ c.is_leap.ensures before at.result.in_century
          c.of_day-month.result.in_year at.ensures month.from month.to,
    )
