-- The table profile, and how its sheet is read.
use Rattle.std.specs.Prelude.{◌≡◌, ℕ, ◌+◌, ◌*◌, ◌<◌, List, ◌≤ℤ◌, ◌<ℤ◌, slice_index}
use Rattle.profiles.specs.declared.factors.Factors.{Factors}
use Rattle.profiles.specs.declared.weather.Weather.{Weather}
use Rattle.profiles.specs.Asked.{coldest, hottest, seasons, first_tenth, last_tenth, columns, weather_at, place}
use Rattle.profiles.specs.Laws.{factors_of, Tells, factors_where_asked}

-- residential and business
abbrev pub table_segments : ℕ
table_segments = 2

abbrev pub table_cells : ℕ
table_cells = table_segments * columns

-- a cell's number, as multiplier and as day factor
abbrev pub cell_factors : List ℕ → ℕ → Factors
cell_factors numbers cell = factors_of (slice_index numbers cell) (slice_index numbers cell)

-- the meaning of a table of these numbers
abbrev pub table_tells : List ℕ → Tells
table_tells numbers segment w =
    factors_where_asked table_segments segment w (cell_factors numbers (place segment w))

-- a sheet as it is published: at its k-th tenth, from -8.0 degrees on, both numbers are the
-- segment's k-th, and colder or warmer than the sheet goes, they are those of the nearer end
pub record Reads (sheet : List ℕ) (tells : Tells) : Type 0 where
  pub inside : (segment k : ℕ) (w : Weather) →
      segment < table_segments → k < columns → w.season < seasons →
      tells segment (weather_at k w) ≡ cell_factors sheet (segment * columns + k)
  pub colder : (segment : ℕ) (w : Weather) →
      coldest ≤ℤ w.temperature → w.temperature <ℤ first_tenth →
      tells segment w ≡ tells segment (record w { temperature = first_tenth })
  pub warmer : (segment : ℕ) (w : Weather) →
      last_tenth <ℤ w.temperature → w.temperature ≤ℤ hottest →
      tells segment w ≡ tells segment (record w { temperature = last_tenth })
