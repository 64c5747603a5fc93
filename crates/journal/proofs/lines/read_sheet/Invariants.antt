use Rattle.std.proofs.Common.{◌≡◌, ◌+◌, ◌≤◌, length, vec_items}
use Rattle.std.specs.Iterator.Adapters.{zip_first, zip_second}
use Rattle.journal.specs.Words.{lines_of, words_of_lines}
use Rattle.journal.specs.Numbers.{sheet_numbers, numbers_after}
use Rattle.journal.proofs.lines.read_sheet.Given as goal

abbrev pub invariant-loop-before : goal.invariant-loop-before
invariant-loop-before l =
    ((zip_first l.before-iterator).start + length (lines_of (zip_second l.before-iterator).rest.now)
    ≤ length l.text)
    × (sheet_numbers (words_of_lines (lines_of l.text))
    ≡ numbers_after (vec_items l.sheet)
    (sheet_numbers (words_of_lines (lines_of (zip_second l.before-iterator).rest.now))))
