-- A tariff's rate, and the count of its settings.
use Rattle.std.specs.Prelude.{ℕ, ◌+◌, min, Bool, nat_le}

-- The highest rate, in thousandths of a forint for each MJ.
abbrev pub max_rate : ℕ
max_rate = 1_000_000

-- A rate is in its limit.
abbrev pub rate_fits : ℕ → Bool
rate_fits rate = nat_le rate max_rate

-- One setting more: the count stays at 4,294,967,295 once there.
abbrev pub next_count : ℕ → ℕ
next_count settings = min (settings + 1) 4_294_967_295
