-- A flat-rate customer's litres, day by day.
use Rattle.std.specs.Prelude.{◌≡◌, ℕ, ◌+◌, ◌-◌, ◌*◌, ◌/◌, ◌≤◌, IsTrue, if◌then◌else◌, List, map, sum_by, Ok, Err, Result, nat_le}
use Rattle.std.specs.List.{range_with_len}
use Rattle.std.specs.Result.{result_unwrap_or}
use Rattle.refusals.specs.declared.Refusal.{Refusal}
use Rattle.refusals.specs.declared.Refusal.TheVariants.{Litres, NoSuchDay}
use Rattle.calendar.specs.Days.{is_day, days_in_month}
use Rattle.calendar.specs.declared.date.Date.{Date}

-- The most litres of one month.
abbrev pub max_litres : ℕ
max_litres = 1_000_000_000

-- The litres of day d in a month of n days: what is due by the end of the day, rounded down, less
-- what was due before it.
abbrev pub day_litres : ℕ → ℕ → ℕ → ℕ
day_litres litres n d = litres * d / n - litres * (d - 1) / n

-- The litres of a date's day, or the refusal of a date that is no day.
abbrev pub date_litres : ℕ → Date → Result ℕ Refusal
date_litres litres date =
    if is_day date
    then Ok (day_litres litres (days_in_month date) date.day)
    else Err NoSuchDay

-- The same, refusing too many litres first.
abbrev pub flat_rate_day : ℕ → Date → Result ℕ Refusal
flat_rate_day litres date =
    if nat_le litres max_litres then date_litres litres date else Err Litres

-- Day d of a date's month.
abbrev pub day_of_month : Date → ℕ → Date
day_of_month date d = record date { day = d }

-- The first n days of a date's month.
abbrev pub first_days : Date → ℕ → List Date
first_days date n = map (day_of_month date) (range_with_len 1 n)

-- The litres of some days together.
abbrev pub total_litres : ℕ → List Date → ℕ
total_litres litres days = sum_by (λ date. result_unwrap_or (flat_rate_day litres date) 0) days

-- The days of a date's month sum to the month's litres.
abbrev pub SumsToMonth : ℕ → Date → Type 0
SumsToMonth litres date =
    litres ≤ max_litres
    → IsTrue (is_day date)
    → total_litres litres (first_days date (days_in_month date)) ≡ litres

-- No two days of a date's month differ by more than one litre.
abbrev pub DiffersByOneAtMost : ℕ → Date → Type 0
DiffersByOneAtMost litres date =
    (d e more less : ℕ)
    → flat_rate_day litres (day_of_month date d) ≡ Ok more
    → flat_rate_day litres (day_of_month date e) ≡ Ok less
    → more ≤ less + 1
