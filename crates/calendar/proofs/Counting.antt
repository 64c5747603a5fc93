-- The days before a year and before a month: closed forms, bounds, and that no two days have one
-- number.
use Rattle.std.proofs.Common.{◌≡◌, ℕ, zero, suc, ◌+◌, ◌*◌, ◌/◌, ◌<◌, ◌≤◌, Bool, true, false, refl, ap, ◌∙◌, ⊎_elim, add-one, arith}
use Rattle.std.proofs.lemmas.Bool.{cases_lt}
use Rattle.std.proofs.lemmas.Bool.Decides.{nat_tests}
use Rattle.calendar.specs.Days.{last_day, is_leap, year_length, month_length, days_before_month, days_before_year}

closed_form-suc :
    (y : ℕ) → 365 * y + (y + 3) / 4 + year_length (is_leap y) ≡ 365 * suc y + (suc y + 3) / 4
closed_form-suc y = grind (arith, nat_tests)

pub days_before_year_lem : (y : ℕ) → days_before_year y ≡ 365 * y + (y + 3) / 4
unfolding days_before_year
days_before_year_lem zero = refl
days_before_year_lem (suc y) =
    ap (λ n. n + year_length (is_leap y)) (days_before_year_lem y) ∙ closed_form-suc y

pub days_before_month-zero : (leap : Bool) → days_before_month leap 0 ≡ 0
unfolding days_before_month
days_before_month-zero leap = refl

pub days_before_month-add_one :
    (leap : Bool) (m : ℕ)
    → days_before_month leap (m + 1) ≡ days_before_month leap m + month_length leap m
unfolding days_before_month
days_before_month-add_one leap m = rw add-one

pub days_before_december : (leap : Bool) → days_before_month leap 11 + 31 ≡ year_length leap
unfolding days_before_month
days_before_december true = refl
days_before_december false = refl

days_before_month-twelve : (leap : Bool) → days_before_month leap 12 ≡ year_length leap
unfolding days_before_month
days_before_month-twelve true = refl
days_before_month-twelve false = refl

year_by_year :
    (y z : ℕ) → y < z → days_before_year y + year_length (is_leap y) ≤ days_before_year z
year_by_year y z h =
    omega (arith, days_before_year_lem y, days_before_year_lem z, closed_form-suc y)

pub month_by_month :
    (leap : Bool) (m n : ℕ)
    → m < n
    → days_before_month leap m + month_length leap m ≤ days_before_month leap n
unfolding days_before_month
month_by_month leap m zero h = absurd (omega arith)
month_by_month leap m (suc n) h =
    ⊎_elim
    (λ lt. omega (arith, month_by_month leap m n lt))
    (λ (le : n ≤ m). let e : m ≡ n = omega arith in rw e (omega arith))
    (cases_lt m n)

pub in_year :
    (leap : Bool) (m d : ℕ)
    → m < 12
    → d < month_length leap m
    → days_before_month leap m + d < year_length leap
in_year leap m d hm hd =
    omega (arith, month_by_month leap m 12 hm, days_before_month-twelve leap)

pub in_range :
    (y d : ℕ) → y < 100 → d < year_length (is_leap y) → days_before_year y + d ≤ last_day
unfolding days_before_year
in_range y d hy hd =
    ⊎_elim
    (λ lt. omega (arith, year_by_year y 99 lt))
    (λ (le : 99 ≤ y). let e : y ≡ 99 = omega arith in rw e (omega (arith, rw e at hd)))
    (cases_lt y 99)

neither_below : (a b : ℕ) → (a < b → ⊥) → (b < a → ⊥) → a ≡ b
neither_below a b p q =
    ⊎_elim
    (λ lt. absurd (p lt))
    (λ ge. ⊎_elim (λ lt. absurd (q lt)) (λ le. omega arith) (cases_lt b a))
    (cases_lt a b)

same_year :
    (y z d e : ℕ)
    → d < year_length (is_leap y)
    → e < year_length (is_leap z)
    → days_before_year y + d ≡ days_before_year z + e
    → y ≡ z
same_year y z d e hd he eq =
    neither_below y z
    (λ lt. omega (arith, year_by_year y z lt))
    (λ lt. omega (arith, year_by_year z y lt))

same_month :
    (leap : Bool) (m n d e : ℕ)
    → d < month_length leap m
    → e < month_length leap n
    → days_before_month leap m + d ≡ days_before_month leap n + e
    → m ≡ n
same_month leap m n d e hd he eq =
    neither_below m n
    (λ lt. omega (arith, month_by_month leap m n lt))
    (λ lt. omega (arith, month_by_month leap n m lt))

-- the number of day d, counted from 0, of a month of a year
abbrev pub number : ℕ → ℕ → ℕ → ℕ
number y m d = days_before_year y + days_before_month (is_leap y) m + d

-- two days of one number are one day
pub one_day :
    (y m d z n e : ℕ)
    → m < 12
    → n < 12
    → d < month_length (is_leap y) m
    → e < month_length (is_leap z) n
    → number y m d ≡ number z n e
    → (y ≡ z) × (m ≡ n) × (d ≡ e)
one_day y m d z n e hm hn hd he eq =
    let leap = is_leap z in
    let yz : y ≡ z =
    same_year y z (days_before_month (is_leap y) m + d) (days_before_month leap n + e)
    (in_year (is_leap y) m d hm hd) (in_year leap n e hn he) (omega arith)
    in
    let hd' : d < month_length leap m = rw yz at hd in
    let eq' : number z m d ≡ number z n e = rw yz at eq in
    let mn : m ≡ n = same_month leap m n d e hd' he (omega arith) in
    let eq'' : number z n d ≡ number z n e = rw mn at eq' in
    (yz, mn, omega arith)
