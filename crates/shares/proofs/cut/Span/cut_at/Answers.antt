use Rattle.std.proofs.Common.{sym, ap, ◌∙◌, add-one}
use Rattle.std.proofs.lemmas.Map.Lookups.{exact_unsigned}
use Rattle.shares.specs.Counts.{count_from}
use Rattle.shares.proofs.Cutting.{cut_exact}
use Rattle.shares.proofs.cut.Span.cut_at.Goals as goal

pub returns-in-Equal-clause-cut : goal.returns-in-Equal-clause-cut
returns-in-Equal-clause-cut c =
    let same = exact_unsigned _ _ (sym c.cmp.ensures ∙ c.in-Equal.is) in
    cut_exact _ _ _ (sym same ∙ c.above-above.ensures)

-- those above a mark are those that reach the next one
pub invariant_of-self-in-Greater-clause-reached : goal.invariant_of-self-in-Greater-clause-reached
invariant_of-self-in-Greater-clause-reached c =
    c.above-above.ensures ∙ ap (count_from c.args.self.now.rems.now) (sym (add-one c.args.mark))
