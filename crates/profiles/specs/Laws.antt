-- What a profile gives.
use Rattle.std.specs.Prelude.{◌≡◌, ℕ, ◌≤◌, false, if◌then◌else◌}
use Rattle.profiles.specs.declared.factors.Factors.{Factors}
use Rattle.profiles.specs.declared.weather.Weather.{Weather}
use Rattle.profiles.specs.Asked.{is_asked}

-- the factor one, in ten-millionths
abbrev pub whole : ℕ
whole = 10_000_000

-- a multiplier and a day factor
abbrev pub factors_of : ℕ → ℕ → Factors
factors_of m d = record { multiplier = m; day = d }

-- both numbers are factors
abbrev pub AreFactors : Factors → Type 0
AreFactors f = (f.multiplier ≤ whole) × (f.day ≤ whole)

-- the meaning of a profile: the factors of a segment in a weather
abbrev pub Tells : Type 0
Tells = ℕ → Weather → Factors

-- whatever is asked, both numbers are factors
abbrev pub TellsFactors : Tells → Type 0
TellsFactors tells = (segment : ℕ) (w : Weather) → AreFactors (tells segment w)

-- outside its segments, the temperatures and the seasons, a profile gives 0 and 0
abbrev pub TellsZeroOutside : ℕ → Tells → Type 0
TellsZeroOutside segments tells =
    (segment : ℕ) (w : Weather) → is_asked segments segment w ≡ false →
    tells segment w ≡ factors_of 0 0

-- whatever is asked, both give the same
abbrev pub SameTells : Tells → Tells → Type 0
SameTells p q = (segment : ℕ) (w : Weather) → p segment w ≡ q segment w

-- these factors where a profile of so many segments may be asked, and else 0 and 0
abbrev pub factors_where_asked : ℕ → ℕ → Weather → Factors → Factors
factors_where_asked segments segment w f = if is_asked segments segment w then f else factors_of 0 0
