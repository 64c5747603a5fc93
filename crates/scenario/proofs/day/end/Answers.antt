use Rattle.std.proofs.Common.{[], Option, ap, ◌∙◌}
use Rattle.refusals.specs.declared.Refusal.{Refusal}
use Rattle.ledger.specs.Days.{ended_book}
use Rattle.ledger.specs.Grounds.{unless}
use Rattle.ledger.proofs.HandedBack.{taken}
use Rattle.scenario.proofs.Answering.{no_ground}
use Rattle.scenario.proofs.day.end.Goals as goal

pub unwrap-requires : goal.unwrap-requires
unwrap-requires g c =
    taken _ c.args.day tt _ (no_ground c.args.ledger.now.book (g.D.Day.token c.args.day) c.requires)
    (c.abandon_on.ensures []).answer

pub returns : goal.returns
returns g c =
    let l = c.args.ledger.now.book in
    (c.abandon_on.ensures []).book
    ∙ ap (λ (o : Option Refusal). unless o (ended_book l) l)
    (no_ground l (g.D.Day.token c.args.day) c.requires)
