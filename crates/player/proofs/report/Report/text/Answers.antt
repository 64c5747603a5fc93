use Rattle.std.proofs.Common.{[], ◌∷◌, refl}
use Rattle.player.specs.Printed.{separator}
use Rattle.player.proofs.Adding.{adds_both, adds_extension}
use Rattle.player.proofs.report.Report.text.Goals as goal

pub returns : goal.returns
returns c =
    let old = c.args.self.now in
    let apart = c.separate.new.self in
    let added = c.extend_from_slice.ensures.items in
    adds_both c.extend_from_slice.result old apart _ (separator old.csv ∷ [])
    (λ _. c.args.text.now) c.in_ok-separate.ensures
    (adds_extension c.extend_from_slice.result apart _ c.args.text.now added refl refl)
