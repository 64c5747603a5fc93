use Rattle.std.proofs.Common.{ℕ, Result, subst, rules}
use Rattle.std.proofs.lemmas.Result.{MatchResult-weaker}
use Rattle.journal.specs.declared.fault.Fault.{Fault}
use Rattle.journal.specs.Numbers.{Narrows}
use Rattle.journal.proofs.number.read.Goals as goal

pub returns : goal.returns
returns g c =
    subst (λ (s : Result ℕ Fault). Narrows g.N.TryFrom.try_from_gives s c.map_err.result)
    c.in_ok-number.ensures.value (
      c.try_from.result,
      c.try_from.ensures,
      MatchResult-weaker c.try_from.result
          c.map_err.ensures.cases (λ x e. e) (λ e h. search rules),
    )
