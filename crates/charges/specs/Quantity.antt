-- Quantities in MJ, as plain numbers.
use Rattle.std.specs.Prelude.{ℕ, Bool, if◌then◌else◌, ◌&&◌, Ok, Err, Result, nat_le}
use Rattle.refusals.specs.declared.Refusal.{Refusal}
use Rattle.refusals.specs.declared.Refusal.TheVariants.{Energy}

-- The largest quantity.
abbrev pub max_mj : ℕ
max_mj = 1_000_000_000_000

-- A quantity is in its limit.
abbrev pub fits : ℕ → Bool
fits mj = nat_le mj max_mj

-- Two quantities are in their limit.
abbrev pub both_fit : ℕ → ℕ → Bool
both_fit a b = fits a && fits b

-- The value, where all numbers that it is made of are in their limits; else the refusal.
abbrev pub ok_or_energy : {A : Type 0} → Bool → A → Result A Refusal
ok_or_energy all_fit value = if all_fit then Ok value else Err Energy

-- The value itself, where it is in its limits by their test; else the refusal.
abbrev pub value_in_limits : {A : Type 0} → (A → Bool) → A → Result A Refusal
value_in_limits is_in_limits value = ok_or_energy (is_in_limits value) value
