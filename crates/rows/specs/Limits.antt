-- The limits of rows and of their sheet: the numbers of src/limits.rt, stated apart from it.
use Rattle.std.specs.Prelude.{ℕ}

abbrev pub max_traders : ℕ
max_traders = 64

abbrev pub max_points : ℕ
max_points = 4096

abbrev pub max_scale_factor : ℕ
max_scale_factor = 2_000_000

-- of a row's open sum and period sum
abbrev pub max_open_sum : ℕ
max_open_sum = 5_000_000_000_000

abbrev pub max_period_sum : ℕ
max_period_sum = 40_000_000_000

-- what the two may be before one more day is shared out
abbrev pub full_open_sum : ℕ
full_open_sum = 4_500_000_000_000

abbrev pub full_period_sum : ℕ
full_period_sum = 39_990_000_000

-- what one booking can move at the most
abbrev pub max_correction : ℕ
max_correction = 5_000_000_000_000
