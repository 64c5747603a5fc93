-- What a file of numbers holds.
use Rattle.std.specs.Prelude.{◌≡◌, ℕ, List, Ok, Err, vec_items, Result, Vec}
use Rattle.std.specs.declared.alloc.Global.{Global}
use Rattle.journal.specs.declared.lines.SheetFault.{SheetFault}
use Rattle.journal.specs.declared.lines.SheetFault.TheVariants.{Memory, Malformed}
use Rattle.journal.specs.Numbers.{sheet_numbers, numbers_after}

-- a sheet after the numbers of more words: they stand behind what it had, or one of them is no
-- number
abbrev pub AddsNumbers : Result Unit SheetFault → List ℕ → List (List ℕ) → List ℕ → Type 0
AddsNumbers (Ok done) was words now = numbers_after was (sheet_numbers words) ≡ Ok now
AddsNumbers (Err Memory) was words now = Unit {0}
AddsNumbers (Err (Malformed line fault)) was words now =
    numbers_after was (sheet_numbers words) ≡ Err fault

-- the sheet of a whole file
abbrev pub ReadsSheet : Result (Vec ℕ Global) SheetFault → List (List ℕ) → Type 0
ReadsSheet (Ok sheet) words = sheet_numbers words ≡ Ok (vec_items sheet)
ReadsSheet (Err Memory) words = Unit {0}
ReadsSheet (Err (Malformed line fault)) words = sheet_numbers words ≡ Err fault
