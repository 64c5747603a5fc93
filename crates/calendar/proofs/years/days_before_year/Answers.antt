use Rattle.std.proofs.Common.{sym}
use Rattle.calendar.proofs.Counting.{days_before_year_lem}
use Rattle.calendar.proofs.years.days_before_year.Goals as goal

pub returns-clause-value : goal.returns-clause-value
returns-clause-value c = sym (days_before_year_lem c.args.year)
