-- How far an integer is from zero.
use Rattle.std.specs.Prelude.{ℕ, ℤ, pos, ◌+ℤ◌, ◌≤ℤ◌}

-- an integer at most b from zero
pub record IsWithin (z : ℤ) (b : ℕ) : Type 0 where
  pub high : z ≤ℤ pos b
  pub low : pos 0 ≤ℤ (z +ℤ pos b)
