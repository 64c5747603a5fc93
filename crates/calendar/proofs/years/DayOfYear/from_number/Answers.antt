use Rattle.std.proofs.Common.{◌+◌, ◌*◌, ◌/◌, arith}
use Rattle.calendar.proofs.Counting.{days_before_year_lem}
use Rattle.calendar.proofs.years.DayOfYear.from_number.Goals as goal
use Rattle.calendar.proofs.years.DayOfYear.from_number.Goals.{then-rest-lt366, else-rest-lt366}

pub returns : goal.returns
returns c =
    let n = c.args.number in
    let leap_year = n / 1461 * 4 in
    elim c.if-rest-lt366.branch [
      | then-rest-lt366 w ↦ rw w.result-is (omega (arith, days_before_year_lem leap_year))
      | else-rest-lt366 w ↦
          rw w.result-is (omega (arith, days_before_year_lem (leap_year + 1 + w.from.result)))
    ]
