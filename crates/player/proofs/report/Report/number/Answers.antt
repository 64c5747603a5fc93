use Rattle.std.proofs.Common.{[], ◌∷◌, refl}
use Rattle.player.specs.Printed.{separator}
use Rattle.player.proofs.Adding.{adds_both, adds_bytes}
use Rattle.player.proofs.report.Report.number.Goals as goal

pub returns : goal.returns
returns g c =
    let old = c.args.self.now in
    let apart = c.separate.new.self in
    let digits = g.N.Integer.text c.args.n in
    adds_both c.put_number.result old apart _ (separator old.csv ∷ []) (λ _. digits)
    c.in_ok-separate.ensures
    (adds_bytes c.put_number.result apart _ digits c.put_number.ensures refl refl)
