-- Dates and their numbers: what a date that is a day has, and that its number is its own.
use Rattle.std.proofs.Common.{◌≡◌, ℕ, ◌+◌, ◌-◌, ◌<◌, ◌≤◌, Bool, true, false, cond, Ok, Err, refl, arith}
use Rattle.std.proofs.lemmas.Bool.{and_parts, and_from, leb-true, le-leb}
use Rattle.refusals.specs.declared.Refusal.{Refusal}
use Rattle.calendar.specs.Days.{last_day, is_leap, month_length, days_before_month, days_before_year, year_index, month_index, days_in_month, is_day, days_before, IsDateOf}
use Rattle.calendar.specs.declared.date.Date.{Date}
use Rattle.calendar.proofs.Counting.{in_year, in_range, one_day}

-- the six tests of a date that is a day
pub record IsDay (date : Date) : Type 0 where
  pub year_from : 2000 ≤ date.year
  pub year_to : date.year ≤ 2099
  pub month_from : 1 ≤ date.month
  pub month_to : date.month ≤ 12
  pub day_from : 1 ≤ date.day
  pub day_to : date.day ≤ days_in_month date

pub from_is_day : (date : Date) → is_day date ≡ true → IsDay date
from_is_day date h =
    let p5 = and_parts _ _ h in
    let p4 = and_parts _ _ p5.0 in
    let p3 = and_parts _ _ p4.0 in
    let p2 = and_parts _ _ p3.0 in
    let p1 = and_parts _ _ p2.0 in
    record {
      year_from = leb-true _ _ p1.0;
      year_to = leb-true _ _ p1.1;
      month_from = leb-true _ _ p2.1;
      month_to = leb-true _ _ p3.1;
      day_from = leb-true _ _ p4.1;
      day_to = leb-true _ _ p5.1;
    }

pub to_is_day : (date : Date) → IsDay date → is_day date ≡ true
to_is_day date d =
    let year = and_from _ _ (le-leb _ _ d.year_from) (le-leb _ _ d.year_to) in
    let month =
    and_from _ _ (and_from _ _ year (le-leb _ _ d.month_from)) (le-leb _ _ d.month_to)
    in
    and_from _ _ (and_from _ _ month (le-leb _ _ d.day_from)) (le-leb _ _ d.day_to)

-- an accepted value is given where the test passed, and only there
pub accepted :
    {X : Type 0} (b : Bool) (x y : X) (e : Refusal)
    → cond b (Ok x) (Err e) ≡ Ok y
    → (b ≡ true) × (x ≡ y)
accepted true x y e h = (refl, cc)
accepted false x y e h = let z : ◌≡◌ {A = ℕ} 0 1 = cc in absurd (omega arith)

same_fields :
    (y m d y' m' d' : ℕ)
    → y ≡ y'
    → m ≡ m'
    → d ≡ d'
    → ◌≡◌ {A = Date}
    (record { year = y; month = m; day = d }) (record { year = y'; month = m'; day = d' })
same_fields y m d y' m' d' ey em ed = rw (ey, em, ed)

same_date : (a b : Date) → a.year ≡ b.year → a.month ≡ b.month → a.day ≡ b.day → a ≡ b
same_date a b y m d = same_fields a.year a.month a.day b.year b.month b.day y m d

pub days_before-at_most : (date : Date) → is_day date ≡ true → days_before date ≤ last_day
days_before-at_most date h =
    let d = from_is_day date h in
    let leap = is_leap (year_index date) in
    let within =
    in_year leap (month_index date) (date.day - 1) (omega arith) (omega arith)
    in
    let of_year = days_before_month leap (month_index date) + (date.day - 1) in
    omega (arith, in_range (year_index date) of_year (omega arith) within)

-- a day has its number for itself
pub is_date_of-days_before : (date : Date) → is_day date ≡ true → IsDateOf date (days_before date)
is_date_of-days_before date h =
    let d = from_is_day date h in
    record {
      number = rw h;
      only = λ other eq.
          let g : (is_day other ≡ true) × (days_before other ≡ days_before date) =
          accepted (is_day other) (days_before other) (days_before date) _ eq
          in
          let o = from_is_day other g.0 in
          let same :
          (year_index other ≡ year_index date)
          × (month_index other ≡ month_index date)
          × (other.day - 1 ≡ date.day - 1) =
          one_day (year_index other) (month_index other) (other.day - 1)
          (year_index date) (month_index date) (date.day - 1)
          (omega arith) (omega arith) (omega arith) (omega arith) g.1
          in
          same_date other date (omega arith) (omega arith) (omega arith);
    }

-- the date made of a year and a day of it has their number
pub date_of_parts :
    (n y rest m before : ℕ) (leap : Bool)
    → leap ≡ is_leap y
    → before ≡ days_before_month leap m
    → y < 100
    → m < 12
    → days_before_year y + rest ≡ n
    → days_before_month leap m ≤ rest
    → rest < days_before_month leap m + month_length leap m
    → IsDateOf (record { year = y + 2000; month = m + 1; day = rest - before + 1 }) n
date_of_parts n y rest m before leap el eb hy hm sum from to =
    let date : Date = record { year = y + 2000; month = m + 1; day = rest - before + 1 } in
    let ey : y + 2000 - 2000 ≡ y = omega arith in
    let em : m + 1 - 1 ≡ m = omega arith in
    let length : days_in_month date ≡ month_length leap m = rw (ey, em, el) in
    let right : is_day date ≡ true =
    to_is_day date
    (record {
      year_from = omega arith;
      year_to = omega arith;
      month_from = omega arith;
      month_to = omega arith;
      day_from = omega arith;
      day_to = omega (arith, length);
    })
    in
    let number : days_before date ≡ n = rw (ey, em, ← el) (omega arith) in
    rw number at (is_date_of-days_before date right)
