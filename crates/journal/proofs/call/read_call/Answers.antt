use Rattle.std.proofs.Common.{◌∷◌, [], refl, lit<, ◌∙◌, rules}
use Rattle.journal.specs.declared.kind.Kind.TheVariants as of
use Rattle.journal.specs.Words.{texts_of}
use Rattle.journal.specs.Numbers.{numbers_of}
use Rattle.journal.specs.Calls as calls
use Rattle.journal.specs.Calls.{max32, max64}
use Rattle.journal.proofs.Pairs.{pair-from_NarrowsPair, plain_result-pair, two_number_call-kind_call}
use Rattle.journal.proofs.call.read_call.Goals as goal

pub returns-in-Enter : goal.returns-in-Enter
returns-in-Enter c =
    let ws = c.args.args.now in
    let read = pair-from_NarrowsPair c.args.kind 32 64 max32 max64 ws c.two.result refl (lit< tt)
    refl (lit< tt) c.two.ensures.form c.two.ensures.pair in
    plain_result-pair _ calls.enter (numbers_of c.args.kind (max32 ∷ max64 ∷ []) (texts_of ws))
    c.two.result c.map-in-Enter.result read c.map-in-Enter.ensures.cases (λ x y p. search rules)
    ∙ two_number_call-kind_call c.args.kind of.Enter max32 max64 calls.enter (texts_of ws)
    c.in-Enter.is refl

pub returns-in-Inflow : goal.returns-in-Inflow
returns-in-Inflow c =
    let ws = c.args.args.now in
    let read = pair-from_NarrowsPair c.args.kind 64 32 max64 max32 ws c.two-in-Inflow.result refl
    (lit< tt) refl (lit< tt) c.two-in-Inflow.ensures.form c.two-in-Inflow.ensures.pair in
    plain_result-pair _ calls.inflow (numbers_of c.args.kind (max64 ∷ max32 ∷ []) (texts_of ws))
    c.two-in-Inflow.result c.map-in-Inflow.result read c.map-in-Inflow.ensures.cases
    (λ x y p. search rules)
    ∙ two_number_call-kind_call c.args.kind of.Inflow max64 max32 calls.inflow (texts_of ws)
    c.in-Inflow.is refl

pub returns-in-Read : goal.returns-in-Read
returns-in-Read c =
    let ws = c.args.args.now in
    let read = pair-from_NarrowsPair c.args.kind 32 32 max32 max32 ws c.two-in-Read.result refl
    (lit< tt) refl (lit< tt) c.two-in-Read.ensures.form c.two-in-Read.ensures.pair in
    plain_result-pair _ calls.read (numbers_of c.args.kind (max32 ∷ max32 ∷ []) (texts_of ws))
    c.two-in-Read.result c.map-in-Read.result read c.map-in-Read.ensures.cases
    (λ x y p. search rules)
    ∙ two_number_call-kind_call c.args.kind of.Read max32 max32 calls.read (texts_of ws)
    c.in-Read.is refl

pub returns-in-HandOver : goal.returns-in-HandOver
returns-in-HandOver c =
    let ws = c.args.args.now in
    let read = pair-from_NarrowsPair c.args.kind 32 32 max32 max32 ws c.two-in-HandOver.result refl
    (lit< tt) refl (lit< tt) c.two-in-HandOver.ensures.form c.two-in-HandOver.ensures.pair in
    plain_result-pair _ calls.hand_over (numbers_of c.args.kind (max32 ∷ max32 ∷ []) (texts_of ws))
    c.two-in-HandOver.result c.map-in-HandOver.result read c.map-in-HandOver.ensures.cases
    (λ x y p. search rules)
    ∙ two_number_call-kind_call c.args.kind of.HandOver max32 max32 calls.hand_over (texts_of ws)
    c.in-HandOver.is refl
