use Rattle.calendar.proofs.Spread.{sums_to_month, differs_by_one_at_most}
use Rattle.calendar.proofs.flat_rate.flat_rate_day.Goals as goal

pub returns-clause-sum : goal.returns-clause-sum
returns-clause-sum c = sums_to_month c.args.litres c.args.date

pub returns-clause-difference : goal.returns-clause-difference
returns-clause-difference c = differs_by_one_at_most c.args.litres c.args.date
