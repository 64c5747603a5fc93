-- What a profile may be asked, and where a weather stands in a sheet. Temperatures are tenths of a
-- degree Celsius.
--
-- The limits in specs/ are the rules' own numbers (docs/RULES.md). The code has constants of the
-- same names, in capitals: the contracts say nothing of those, and the proofs show that they are
-- these.
use Rattle.std.specs.Prelude.{ℕ, ◌+◌, ◌*◌, Bool, ◌&&◌, ℤ, pos, negsuc, ◌+ℤ◌, ◌-ℤ◌, int_le, int_lt, nat_lt, unsigned_abs, if◌then◌else◌}
use Rattle.profiles.specs.declared.weather.Weather.{Weather}

-- -40.0 and 50.0 degrees
abbrev pub coldest : ℤ
coldest = negsuc 399

abbrev pub hottest : ℤ
hottest = pos 500

-- winter, transition in heating time, transition outside it, summer
abbrev pub seasons : ℕ
seasons = 4

-- a weather that a profile may be asked about
abbrev pub is_in_range : Weather → Bool
is_in_range w =
    int_le coldest w.temperature && int_le w.temperature hottest && nat_lt w.season seasons

-- a segment that is served, in such a weather
abbrev pub is_asked : ℕ → ℕ → Weather → Bool
is_asked segments segment w = nat_lt segment segments && is_in_range w

-- a sheet has one column for each tenth from -8.0 to 30.0 degrees
abbrev pub first_tenth : ℤ
first_tenth = negsuc 79

abbrev pub last_tenth : ℤ
last_tenth = pos 300

abbrev pub columns : ℕ
columns = 381

abbrev pub last_column : ℕ
last_column = 380

-- the weather w, but at the temperature of column k
abbrev pub weather_at : ℕ → Weather → Weather
weather_at k w = record w { temperature = first_tenth +ℤ pos k }

-- the column of a temperature: colder or warmer than the sheet goes, that of the nearer end
abbrev pub column : ℤ → ℕ
column t =
    if int_lt t first_tenth then 0
    else (if int_lt last_tenth t then last_column else unsigned_abs (t -ℤ first_tenth))

-- where a weather stands in a row of a sheet
abbrev pub place : ℕ → Weather → ℕ
place row w = row * columns + column w.temperature
