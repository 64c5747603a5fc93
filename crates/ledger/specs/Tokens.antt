-- The tokens of the running day, and what they say of its phase.
use Rattle.std.specs.Prelude.{ℕ, Bool, true, false, pos, ◌==◌, Ok, Err, Result}
use Rattle.refusals.specs.declared.Refused.{Refused}
use Rattle.profiles.specs.declared.weather.Weather.{Weather}
use Rattle.ledger.specs.declared.day.OpenDay.{OpenDay}
use Rattle.ledger.specs.declared.measured.MeasuredDay.{MeasuredDay}
use Rattle.ledger.specs.declared.day.Phase.{Phase}
use Rattle.ledger.specs.declared.day.Phase.TheVariants.{Idle, Open, Measured}

-- a day's token, of any kind
pub data DayToken : Type 0 where
  OpenToken : OpenDay → DayToken
  MeasuredToken : MeasuredDay → DayToken

abbrev pub is_idle : Phase → Bool
is_idle Idle = true
is_idle ph = false

-- the running day is open and has this number
abbrev pub is_open : Phase → ℕ → Bool
is_open (Open n w) k = n == k
is_open ph k = false

-- the running day is measured and has this number
abbrev pub is_measured : Phase → ℕ → Bool
is_measured (Measured n w g x q) k = n == k
is_measured ph k = false

-- the running day is the token's, and in the token's phase
abbrev pub is_running : Phase → DayToken → Bool
is_running ph (OpenToken day) = is_open ph day.number
is_running ph (MeasuredToken day) = is_measured ph day.number

-- what the running day's opening took; 0.0 degrees in winter where no day runs
abbrev pub weather_of : Phase → Weather
weather_of Idle = record { temperature = pos 0; season = 0 }
weather_of (Open n w) = w
weather_of (Measured n w g x q) = w

-- the answer of a call on a day, with the day that a refusal hands back as a token of any kind
abbrev pub answer_with_day_token : {A T : Type 0} → (T → DayToken) → Result A (Refused T) →
    Result A (Refused DayToken)
answer_with_day_token day (Ok x) = Ok x
answer_with_day_token day (Err e) = Err (record { why = e.why; given = day e.given })
