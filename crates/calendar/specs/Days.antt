-- The days of the years 2000 to 2099, by counting: day 0 is 1 January 2000.
use Rattle.std.specs.Prelude.{◌≡◌, ℕ, zero, suc, ◌+◌, ◌-◌, ◌%◌, ◌<◌, ◌≤◌, Bool, if◌then◌else◌, ◌&&◌, [], ◌∷◌, Ok, Err, Result, MatchResult, ◌==◌, nat_le, slice_index}
use Rattle.refusals.specs.declared.Refusal.{Refusal}
use Rattle.refusals.specs.declared.Refusal.TheVariants.{NoSuchDay}
use Rattle.calendar.specs.declared.date.Date.{Date}

-- The number of 31 December 2099.
abbrev pub last_day : ℕ
last_day = 36_524

-- Whether a year, counted from 2000, is a leap year: in these years each fourth one, 2000 first.
abbrev pub is_leap : ℕ → Bool
is_leap year = year % 4 == 0

-- The days of a leap or a common year.
abbrev pub year_length : Bool → ℕ
year_length leap = if leap then 366 else 365

-- The days of February in such a year.
abbrev pub february_length : Bool → ℕ
february_length leap = if leap then 29 else 28

-- The days of a month, counted from 0 for January, in a leap or a common year.
abbrev pub month_length : Bool → ℕ → ℕ
month_length leap month =
    slice_index
    (31 ∷ february_length leap ∷ 31 ∷ 30 ∷ 31 ∷ 30 ∷ 31 ∷ 31 ∷ 30 ∷ 31 ∷ 30 ∷ 31 ∷ [])
    month

-- The days of the months before a month.
unfoldable pub days_before_month : Bool → ℕ → ℕ
days_before_month leap zero = 0
days_before_month leap (suc month) = days_before_month leap month + month_length leap month

-- The days of the years from 2000 on before a year.
unfoldable pub days_before_year : ℕ → ℕ
days_before_year zero = 0
days_before_year (suc year) = days_before_year year + year_length (is_leap year)

-- A date's year, counted from 2000.
abbrev pub year_index : Date → ℕ
year_index date = date.year - 2000

-- A date's month, counted from 0.
abbrev pub month_index : Date → ℕ
month_index date = date.month - 1

-- The days of a date's month.
abbrev pub days_in_month : Date → ℕ
days_in_month date = month_length (is_leap (year_index date)) (month_index date)

-- A date is a day where its year is 2000 to 2099, its month 1 to 12, and its day one of that
-- month's.
abbrev pub is_day : Date → Bool
is_day date =
    nat_le 2000 date.year && nat_le date.year 2099
    && nat_le 1 date.month && nat_le date.month 12
    && nat_le 1 date.day && nat_le date.day (days_in_month date)

-- The days before a date: those of the years before, of the months before, and of its month.
abbrev pub days_before : Date → ℕ
days_before date =
    days_before_year (year_index date)
    + days_before_month (is_leap (year_index date)) (month_index date)
    + (date.day - 1)

-- The number of a date's day, or the refusal of a date that is no day.
abbrev pub day_number : Date → Result ℕ Refusal
day_number date = if is_day date then Ok (days_before date) else Err NoSuchDay

-- The date has the number n, and no other date has it.
pub record IsDateOf (date : Date) (n : ℕ) : Type 0 where
  pub number : day_number date ≡ Ok n
  pub only : (other : Date) → day_number other ≡ Ok n → other ≡ date

-- The one date that has the number; or, of a number past the last day, the refusal.
abbrev pub FindsDate : ℕ → Result Date Refusal → Type 0
FindsDate number result =
    MatchResult result
    (λ date. (number ≤ last_day) × IsDateOf date number)
    (λ e. (last_day < number) × (e ≡ NoSuchDay))
