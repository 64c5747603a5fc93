-- The token that a station holds of its ledger's running day.
use Rattle.std.specs.Prelude.{ℕ, Bool, Some, None, Option}
use Rattle.refusals.specs.declared.Refusal.{Refusal}
use Rattle.refusals.specs.declared.Refusal.TheVariants.{NotRunning}
use Rattle.ledger.specs.declared.day.OpenDay.{OpenDay}
use Rattle.ledger.specs.declared.day.Phase.{Phase}
use Rattle.ledger.specs.Tokens.{OpenToken, MeasuredToken, is_idle, is_running}
use Rattle.player.specs.declared.station.RunningDay.{RunningDay}
use Rattle.player.specs.declared.station.RunningDay.TheVariants.{Idle, Open, Measured}

-- the token is that of the ledger's running day, and there is none where no day runs
abbrev pub is_tied : Phase → RunningDay → Bool
is_tied phase Idle = is_idle phase
is_tied phase (Open day) = is_running phase (OpenToken day)
is_tied phase (Measured day) = is_running phase (MeasuredToken day)

-- the day's number by openings, which are numbered from 1; 0 where no day runs
abbrev pub number_of : RunningDay → ℕ
number_of Idle = 0
number_of (Open day) = day.number
number_of (Measured day) = day.number

-- the open day; where there is none, a day that no ledger runs
abbrev pub open_day : RunningDay → OpenDay
open_day (Open day) = day
open_day running = record { number = 0 }

-- why there is no day to abandon
abbrev pub idle_fault : RunningDay → Option Refusal
idle_fault Idle = Some NotRunning
idle_fault running = None
