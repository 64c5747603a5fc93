use Rattle.std.proofs.Common.{ℕ, ℤ, Ok, Option, Result, refl, ap, ◌∙◌, arith, lit<, w16, SFits, rules}
use Rattle.std.proofs.lemmas.Int.{to_z-of_z}
use Rattle.std.specs.Option.{ok_or}
use Rattle.std.specs.Result.{result_ok}
use Rattle.journal.specs.declared.fault.Fault.{Fault}
use Rattle.journal.specs.declared.fault.Fault.TheVariants.{NotTemperature}
use Rattle.journal.specs.declared.kind.Kind.TheVariants as of
use Rattle.journal.specs.Numbers.{and_then, number_of, tenths_of}
use Rattle.journal.specs.Calls as calls
use Rattle.journal.specs.Calls.{PlainCall}
use Rattle.journal.proofs.NumberLists.{plain_result-err, and_then-ok}
use Rattle.journal.proofs.Narrowing.{number_of-from_Narrows, ok-from_map_err}
use Rattle.journal.proofs.Texts.{text_at, result_for_count-at}
use Rattle.journal.proofs.call.weather.Goals as goal

-- what the words say, once it is known what they read as
abbrev form : Option ℤ → Result ℕ Fault → Result PlainCall Fault
form t s = and_then (ok_or t NotTemperature) (λ d. and_then s (λ n. Ok (calls.opens d n)))

pub returns-in_err-season : goal.returns-in_err-season
returns-in_err-season c =
    let w = text_at c.args.args.now in
    let t = c.in_ok-temperature.temperature in
    let warm = ok-from_map_err _ c.tenths.result c.map_err.result t c.map_err.ensures.cases
    c.in_ok-temperature.was in
    plain_result-err c.from_residual-in_err-season.result (number_of 255 (w 1))
    (λ n. Ok (calls.opens t n)) c.in_err-season.field-0.0
    c.from_residual-in_err-season.ensures.1
    (number_of-from_Narrows 8 255 (w 1) _ refl (lit< tt) c.in_err-season.ensures)
    ∙ ap (λ (r : Result ℤ Fault). form (result_ok r) (number_of 255 (w 1)))
    (warm ∙ c.tenths.ensures)
    ∙ result_for_count-at of.Open 2 c.args.args.now
    (λ v. form (result_ok (tenths_of (v 0))) (number_of 255 (v 1))) (omega arith)

pub returns : goal.returns
returns c =
    let w = text_at c.args.args.now in
    let t = c.in_ok-temperature.temperature in
    let fits : SFits w16 t = search rules in
    let warm = ok-from_map_err _ c.tenths.result c.map_err.result t c.map_err.ensures.cases
    c.in_ok-temperature.was in
    ap (λ (z : ℤ). Ok (calls.opens z c.in_ok-season.season)) (to_z-of_z w16 t fits)
    ∙ and_then-ok (number_of 255 (w 1)) (λ n. Ok (calls.opens t n)) c.in_ok-season.season
    (number_of-from_Narrows 8 255 (w 1) _ refl (lit< tt) c.in_ok-season.ensures)
    ∙ ap (λ (r : Result ℤ Fault). form (result_ok r) (number_of 255 (w 1)))
    (warm ∙ c.tenths.ensures)
    ∙ result_for_count-at of.Open 2 c.args.args.now
    (λ v. form (result_ok (tenths_of (v 0))) (number_of 255 (v 1))) (omega arith)
