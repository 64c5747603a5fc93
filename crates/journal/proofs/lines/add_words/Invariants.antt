use Rattle.std.proofs.Common.{◌≡◌, drop, vec_items}
use Rattle.journal.specs.Words.{texts_of}
use Rattle.journal.specs.Numbers.{sheet_numbers, numbers_after}
use Rattle.journal.proofs.lines.add_words.Given as goal

abbrev pub invariant-loop-word : goal.invariant-loop-word
invariant-loop-word l =
    numbers_after (vec_items l.initial.sheet) (sheet_numbers (texts_of l.words))
    ≡ numbers_after (vec_items l.sheet) (sheet_numbers (drop l.word-index (texts_of l.words)))
