use Rattle.std.proofs.Common.{ℕ, List, ◌∷◌, subst}
use Rattle.player.specs.Printed.{Adds, separator}
use Rattle.player.proofs.Adding.{adds_both}
use Rattle.player.proofs.report.Report.field.Goals as goal

pub returns : goal.returns
returns g c =
    let old = c.args.self.now in
    let named = c.text.new.self in
    adds_both c.number.result old named _ (separator old.csv ∷ c.args.name.now)
    (λ csv. separator csv ∷ g.N.Integer.text c.args.n)
    (subst (λ (t : List ℕ). Adds old named (separator old.csv ∷ t)) c.as_bytes.ensures.value
    c.in_ok-text.ensures)
    c.number.ensures
