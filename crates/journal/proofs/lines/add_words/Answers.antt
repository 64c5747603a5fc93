use Rattle.std.proofs.Common.{◌≡◌, ℕ, ◌+◌, ◌<◌, List, length, drop, vec_items, refl, sym, ap, ◌∙◌, arith, lit<, rules}
use Rattle.std.proofs.lemmas.List.{length-map}
use Rattle.journal.specs.declared.lines.SheetFault.TheVariants.{Malformed}
use Rattle.journal.specs.Words.{texts_of}
use Rattle.journal.specs.Numbers.{number_of, sheet_numbers, numbers_after}
use Rattle.journal.specs.Calls.{max32}
use Rattle.journal.proofs.NumberLists.{sheet_numbers-more, sheet_numbers-fault, AddsNumbers-err}
use Rattle.journal.proofs.Narrowing.{number_of-from_Narrows, err-from_map_err, ok-from_map_err}
use Rattle.journal.proofs.Texts.{text_at, get_or-texts_of}
use Rattle.journal.proofs.lines.add_words.Goals as goal

pub returns-in_err-n : goal.returns-in_err-n
returns-in_err-n c =
    let ws = c.args.words.now in
    let i = c.loop-word.word-index in
    let lw = length-map ws (λ w. w.now) in
    let h : i < length (texts_of ws) = omega arith in
    let read = number_of-from_Narrows 32 max32 (text_at ws i) c.read.result refl (lit< tt)
    c.read.ensures in
    let m = err-from_map_err _ c.read.result c.map_err.result c.in_err-n.field-0.0
    c.map_err.ensures.cases c.in_err-n.was in
    let is : c.in_err-n.field-0.0 ≡ Malformed c.args.line m.0 = let p = m.2 in search rules in
    AddsNumbers-err c.from_residual.result c.in_err-n.field-0.0 c.args.line m.0
    (vec_items c.args.sheet.now) (texts_of ws) (vec_items c.loop-word.sheet)
    c.from_residual.ensures.1 is
    (c.loop-word.invariant ∙ sheet_numbers-fault (texts_of ws) i (vec_items c.loop-word.sheet) m.0 h
    (m.1 ∙ read ∙ sym (ap (number_of max32) (get_or-texts_of ws i))))

pub loop-word-preserved : goal.loop-word-preserved
loop-word-preserved c =
    let ws = c.args.words.now in
    let i = c.loop-word.word-index in
    let lw = length-map ws (λ w. w.now) in
    let h : i < length (texts_of ws) = omega arith in
    let read = number_of-from_Narrows 32 max32 (text_at ws i) c.read.result refl (lit< tt)
    c.read.ensures in
    let n = ok-from_map_err _ c.read.result c.map_err.result c.in_ok-n.n c.map_err.ensures.cases
    c.in_ok-n.was in
    c.loop-word.invariant
    ∙ sheet_numbers-more (texts_of ws) i c.in_ok-n.n (vec_items c.loop-word.sheet) h
    (n ∙ read ∙ sym (ap (number_of max32) (get_or-texts_of ws i)))
    ∙ sym (ap (λ (ns : List ℕ). numbers_after ns (sheet_numbers (drop (i + 1) (texts_of ws))))
    c.in_ok-push.ensures.items)
