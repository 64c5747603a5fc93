-- The season layer, and what it changes.
use Rattle.std.specs.Prelude.{◌≡◌, ℕ, ◌+◌, ◌*◌, ◌/◌, ◌<◌, min, List, ◌<ℤ◌, ◌==◌, ◌≢◌, slice_index, if◌then◌else◌}
use Rattle.profiles.specs.declared.factors.Factors.{Factors}
use Rattle.profiles.specs.declared.weather.Weather.{Weather}
use Rattle.profiles.specs.Asked.{seasons, first_tenth, last_tenth, columns, last_column, weather_at, place}
use Rattle.profiles.specs.Laws.{whole, Tells}

-- the segments are 0 to 7
abbrev pub last_segment : ℕ
last_segment = 7

abbrev pub layer_cells : ℕ
layer_cells = seasons * columns

-- a season number is at most twice the whole
abbrev pub max_season_number : ℕ
max_season_number = 2 * whole

-- a day factor times a season number, rounded down and at most the whole
abbrev pub scaled_factor : ℕ → ℕ → ℕ
scaled_factor day number = min whole (day * number / whole)

-- the same factors, but with the day factor scaled
abbrev pub with_scaled_day : ℕ → Factors → Factors
with_scaled_day number f = record f { day = scaled_factor f.day number }

-- what a layer makes of the factors below it: only its own segment's day factor is scaled
abbrev pub layer_factors : ℕ → List ℕ → ℕ → Weather → Factors → Factors
layer_factors own numbers segment w f =
    if segment == own then with_scaled_day (slice_index numbers (place w.season w)) f else f

-- the meaning of a layer over that of the profile below it
abbrev pub layer_tells : ℕ → List ℕ → Tells → Tells
layer_tells own numbers below segment w = layer_factors own numbers segment w (below segment w)

-- a layer passes multipliers and the other segments on; its own segment's day factor is scaled by
-- the season's k-th number at the k-th tenth, and by that of the nearer end colder or warmer than
-- the sheet goes
pub record Scales (own : ℕ) (sheet : List ℕ) (below tells : Tells) : Type 0 where
  pub multipliers : (segment : ℕ) (w : Weather) →
      (tells segment w).multiplier ≡ (below segment w).multiplier
  pub others : (segment : ℕ) (w : Weather) → (segment ≢ own) → tells segment w ≡ below segment w
  pub inside : (k : ℕ) (w : Weather) → k < columns → w.season < seasons →
      (tells own (weather_at k w)).day ≡
      scaled_factor (below own (weather_at k w)).day (slice_index sheet (w.season * columns + k))
  pub colder : (w : Weather) → w.temperature <ℤ first_tenth → w.season < seasons →
      (tells own w).day ≡ scaled_factor (below own w).day (slice_index sheet (w.season * columns))
  pub warmer : (w : Weather) → last_tenth <ℤ w.temperature → w.season < seasons →
      (tells own w).day ≡
      scaled_factor (below own w).day (slice_index sheet (w.season * columns + last_column))
