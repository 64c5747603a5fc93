-- Which sheets are taken.
use Rattle.std.specs.Prelude.{ℕ, Bool, ◌&&◌, List, length, Ok, Err, Result, ◌==◌, nat_le, if◌then◌else◌}
use Rattle.std.specs.List.{list_all}
use Rattle.refusals.specs.declared.Refusal.{Refusal}
use Rattle.refusals.specs.declared.Refusal.TheVariants.{ProfileSheet}

-- as many numbers as there are cells, and none above the limit
abbrev pub fits : ℕ → ℕ → List ℕ → Bool
fits cells limit xs = length xs == cells && list_all (λ x. nat_le x limit) xs

-- the answer when a sheet is filled in
abbrev pub fill_answer : ℕ → ℕ → List ℕ → Result (Unit {0}) Refusal
fill_answer cells limit xs = if fits cells limit xs then Ok tt else Err ProfileSheet
