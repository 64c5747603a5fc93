use Rattle.std.proofs.Common.{◌≡◌, None, Some, ap, ◌∙◌, rules}
use Rattle.std.specs.Option.{option_map}
use Rattle.journal.specs.declared.table.Row.{Row}
use Rattle.journal.specs.Vocabulary.{item_by_word, kind_by_word, kind_by_word-kind_word}
use Rattle.journal.proofs.Tables.{option_map-kind}
use Rattle.journal.proofs.kind.KindFromWord.from_word.Goals as goal

pub returns-clause-value : goal.returns-clause-value
returns-clause-value c =
    let rows = c.calls.result.now in
    let word = c.args.word.now in
    let found : Some c.in_ok-row.row ≡ item_by_word (λ row. row.word.now) rows word =
    search rules in
    ap (option_map (λ (row : Row). row.kind)) found
    ∙ option_map-kind rows word c.calls.ensures.kinds c.calls.ensures.words

pub returns-clause-own : goal.returns-clause-own
returns-clause-own c kind e =
    returns-clause-value c ∙ ap kind_by_word e ∙ kind_by_word-kind_word kind

pub returns-in_err-row-clause-value : goal.returns-in_err-row-clause-value
returns-in_err-row-clause-value c =
    let rows = c.calls.result.now in
    let word = c.args.word.now in
    let found : None ≡ item_by_word (λ row. row.word.now) rows word = search rules in
    let none : c.from_residual.result ≡ None = search rules in
    none
    ∙ ap (option_map (λ (row : Row). row.kind)) found
    ∙ option_map-kind rows word c.calls.ensures.kinds c.calls.ensures.words

pub returns-in_err-row-clause-own : goal.returns-in_err-row-clause-own
returns-in_err-row-clause-own c kind e =
    returns-in_err-row-clause-value c ∙ ap kind_by_word e ∙ kind_by_word-kind_word kind
