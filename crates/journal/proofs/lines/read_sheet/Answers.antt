use Rattle.std.proofs.Common.{◌≡◌, ℕ, List, [], ◌∷◌, length, vec_items, inl, inr, Ok, refl, sym, ap, ◌∙◌, append-nil, arith}
use Rattle.std.specs.Iterator.Adapters.{zip_first, zip_second}
use Rattle.journal.specs.Words.{lines_of, text_before_comment, words_in, words_of, words_of_lines}
use Rattle.journal.specs.Numbers.{sheet_numbers, numbers_after}
use Rattle.journal.proofs.LineCuts.{length-lines_of, words_in-lines_of}
use Rattle.journal.proofs.NumberLists.{numbers_after-nil, sheet_numbers-line, ReadsSheet-stop, ReadsSheet-err}
use Rattle.journal.proofs.lines.read_sheet.Goals as goal

pub loop-before-init : goal.loop-before-init
loop-before-init c =
    let t = c.args.text.now in
    let first : (zip_first c.into_iter-before-iterator.result).start ≡ 0 =
    rw (c.into_iter-before-iterator.ensures.into_iter_gives, c.zip-before-items.ensures.first)
    refl in
    let rest : lines_of (zip_second c.into_iter-before-iterator.result).rest.now ≡ lines_of t =
    rw (c.into_iter-before-iterator.ensures.into_iter_gives, c.zip-before-items.ensures.second)
    c.of.ensures in (
      omega (arith, length-lines_of t, ap length rest),
      sym
          (numbers_after-nil (sheet_numbers (words_of_lines (lines_of t))))
          ∙ (λ j. numbers_after (sym c.new-sheet.ensures.items j)
          (sheet_numbers (words_of_lines (sym rest j)))),
    )

pub loop-before-preserved : goal.loop-before-preserved
loop-before-preserved c =
    let s = c.in-Some.ensures.steps in
    let have = vec_items c.loop-before.sheet in
    let behind = words_of_lines (lines_of (zip_second c.next.new.self).rest.now) in (
      omega (arith, c.loop-before.invariant.0, ap length s.1, s.0.0, s.0.1),
      c.loop-before.invariant.1
          ∙ ap (λ (ls : List (List ℕ)). numbers_after have (sheet_numbers (words_of_lines ls))) s.1
          ∙ sheet_numbers-line have (vec_items c.add_line.new.sheet)
          (words_of (text_before_comment c.in-Some.line.now)) behind c.in_ok-add_line.ensures,
    )

pub returns-in_err-add_line : goal.returns-in_err-add_line
returns-in_err-add_line c =
    let s = c.in-Some.ensures.steps in
    let t = c.args.text.now in
    let have = vec_items c.loop-before.sheet in
    let behind = words_of_lines (lines_of (zip_second c.next.new.self).rest.now) in
    ReadsSheet-err c.from_residual.result c.in_err-add_line.field-0.0 (words_in t)
    c.from_residual.ensures.1
    (ReadsSheet-stop c.in_err-add_line.field-0.0 have
    (words_of (text_before_comment c.in-Some.line.now)) behind (vec_items c.add_line.new.sheet)
    (words_in t) c.in_err-add_line.ensures
    (ap sheet_numbers (words_in-lines_of t) ∙ c.loop-before.invariant.1
    ∙ ap (λ (ls : List (List ℕ)). numbers_after have (sheet_numbers (words_of_lines ls))) s.1))

none : {X : Type 0} (xs : List X) → length xs ≡ 0 → xs ≡ []
none [] h = refl
none (x ∷ xs) h = absurd (omega arith)

pub returns : goal.returns
returns c =
    let have = vec_items c.loop-before.sheet in
    let rest = lines_of (zip_second c.loop-before.before-iterator).rest.now in
    let end : rest ≡ [] = elim c.in-None.ensures.steps
    [ inl w ↦ none rest (omega (arith, c.loop-before.invariant.0, w.1.0)) | inr w ↦ w.1.0 ] in
    ap sheet_numbers (words_in-lines_of c.args.text.now)
    ∙ c.loop-before.invariant.1
    ∙ ap (λ (ls : List (List ℕ)). numbers_after have (sheet_numbers (words_of_lines ls))) end
    ∙ ap (λ (ns : List ℕ). Ok ns) (append-nil have)
