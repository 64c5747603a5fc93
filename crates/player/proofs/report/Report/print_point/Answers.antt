use Rattle.std.proofs.Common.{ℕ, Bool, List, [], ◌∷◌, ◌++◌, codes, decimal, refl}
use Rattle.player.specs.declared.report.Report.{Report}
use Rattle.player.specs.Printed.{field_of}
use Rattle.player.proofs.Adding.{adds_both}
use Rattle.player.proofs.report.Report.print_point.Goals as goal

pub returns : goal.returns
returns c =
    let r = c.end.result in
    let old = c.args.self.now in
    -- the report once the line's number is written
    let numbered : Report = record old { bytes = c.put_number.new.out } in
    let one = c.field.new.self in
    let two = c.field-2.new.self in
    let three = c.field-3.new.self in
    let first : Bool → List ℕ = λ csv. field_of csv (codes "point") c.args.point in
    let second : Bool → List ℕ = λ csv. field_of csv (codes "consumption") c.args.consumption in
    let third : Bool → List ℕ = λ csv. field_of csv (codes "share") c.args.share in
    adds_both r old numbered _ (decimal old.line)
    (λ csv. first csv ++ (second csv ++ (third csv ++ (10 ∷ []))))
    (record { bytes = c.in_ok-put_number.ensures; form = refl; line = refl })
    (adds_both r numbered one _ (first old.csv) (λ csv. second csv ++ (third csv ++ (10 ∷ [])))
    c.in_ok-field.ensures
    (adds_both r one two _ (second one.csv) (λ csv. third csv ++ (10 ∷ [])) c.in_ok-field-2.ensures
    (adds_both r two three _ (third two.csv) (λ _. 10 ∷ []) c.in_ok-field-3.ensures c.end.ensures)))
