use Rattle.std.proofs.Common.{refl}
use Rattle.calendar.proofs.Rows.{row_of_kind, get_or-is_row}
use Rattle.calendar.proofs.months.Month.days_before.Goals as goal

pub returns-clause-value : goal.returns-clause-value
returns-clause-value c =
    let month = c.args.self in
    get_or-is_row _ month.leap month.index
    (row_of_kind _ _ _ month.leap _ c.from.ensures refl refl) month.in_year
