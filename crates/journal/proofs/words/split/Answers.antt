use Rattle.std.proofs.Common.{not, ◌==◌, ◌++◌, length, rules, tests, ap, ◌∙◌}
use Rattle.std.proofs.lemmas.Iterator.Adapters.{fact_from_extend}
use Rattle.std.proofs.lemmas.Iterator.Consumers.{YieldsList-at}
use Rattle.journal.proofs.Pieces.{YieldsList-pieces, YieldsList-kept}
use Rattle.journal.specs.Words.{is_blank_byte, texts_of}
use Rattle.journal.proofs.words.split.Goals as goal

pub returns : goal.returns
returns c =
    let cut = YieldsList-pieces is_blank_byte c.args.line.now c.split.ensures.runs
    c.split.ensures.rest c.split.ensures.done c.split.ensures.closure
    (λ x v q k. search rules) in
    let words = YieldsList-kept (λ w. not (length w == 0)) c.filter.ensures.runs
    (YieldsList-at c.filter.ensures.source cut) c.filter.ensures.closure
    (λ x v q k. search (rules, tests)) in
    fact_from_extend (λ y. y.now) c.extend.result c.extend.ensures.ran
    (λ it b. YieldsList-at b words)
    (λ xs e h. ap texts_of (h.0 ∙ ap (λ ws. ws ++ xs) c.clear.ensures.items) ∙ e)
