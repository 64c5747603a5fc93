use Rattle.std.proofs.Common.{leb, refl, rules, tests}
use Rattle.std.proofs.lemmas.List.Sorted.{IsPartitionPoint-from_clause}
use Rattle.calendar.proofs.Rows.{LiesInLast, row_of_kind, lies_in_last}
use Rattle.calendar.proofs.months.Month.of_day.Goals as goal
use Rattle.calendar.proofs.months.Month.of_day.Goals.{After-partition_point-begun}

place :
    (c : After-partition_point-begun)
    → LiesInLast c.args.leap c.args.day c.partition_point-begun.result
place c =
    let day = c.args.day in
    let begun = c.partition_point-begun.ensures in
    let row_is = row_of_kind _ _ _ c.args.leap _ c.from.ensures refl refl in
    lies_in_last _ c.args.leap day _ row_is c.requires begun.bound
    (λ sorted.
    IsPartitionPoint-from_clause (λ b. leb b day) _ _ begun.partitioned sorted
    (λ a r q k. search (rules, tests)))

pub overflow_sub-result : goal.overflow_sub-result
overflow_sub-result c =
    (place (goal.at.overflow_sub-result c).After-partition_point-begun).some

pub returns-clause-from : goal.returns-clause-from
returns-clause-from c =
    (place (goal.at.returns-clause-from c).After-partition_point-begun).from

pub returns-clause-to : goal.returns-clause-to
returns-clause-to c =
    (place (goal.at.returns-clause-to c).After-partition_point-begun).to
