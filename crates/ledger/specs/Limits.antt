-- The limits of the ledger: the numbers of src/limits.rt, stated apart from it.
use Rattle.std.specs.Prelude.{ℕ}

-- of a day's inflow, of one entry, and of a day's metered litres together
abbrev pub max_litres : ℕ
max_litres = 1_000_000_000

-- of a loss rate, in millionths: all of the inflow
abbrev pub max_rate : ℕ
max_rate = 1_000_000

abbrev pub max_shared : ℕ
max_shared = 4000

abbrev pub max_opened : ℕ
max_opened = 1_000_000

abbrev pub max_readings : ℕ
max_readings = 1_000_000

-- 31 December 2099
abbrev pub last_day : ℕ
last_day = 36524
