-- A whole number spread over n days by rounding down what is due so far: the days sum to it and no
-- two differ by more than one.
use Rattle.std.proofs.Common.{◌≡◌, ℕ, zero, suc, ◌+◌, ◌-◌, ◌*◌, ◌/◌, ◌<◌, ◌≤◌, true, false, cond, leb, Ok, Err, sym, ap, ◌∙◌, le_trans, div-lt_iff_lt-mul, add-mul, mul-le-mul_left, mul-zero, le-div_iff_mul-le, mul-suc, div-mul-le_self, mul-div_cancel, arith}
use native.Mathlib.Nat.{lt-div-mul-add, zero-div}
use Rattle.std.specs.Result.{result_unwrap_or}
use Rattle.std.proofs.lemmas.Bool.{le-leb}
use Rattle.std.proofs.lemmas.List.FromFn.{sum_by-map-range_with_len_more}
use Rattle.refusals.specs.declared.Refusal.TheVariants.{Litres, NoSuchDay}
use Rattle.calendar.specs.Days.{is_day, days_in_month}
use Rattle.calendar.specs.FlatRate.{max_litres, day_litres, flat_rate_day, day_of_month, first_days, total_litres, SumsToMonth, DiffersByOneAtMost}
use Rattle.calendar.specs.declared.date.Date.{Date}
use Rattle.calendar.proofs.Dates.{from_is_day, to_is_day, accepted}

div-le : {a b n : ℕ} → 0 < n → a ≤ b → a / n ≤ b / n
div-le {a} {b} {n} h le = (le-div_iff_mul-le h).1 (le_trans (div-mul-le_self a n) le)

-- adding x moves a quotient by x / n, or by one more
div-add_at_least : (x y n : ℕ) → 0 < n → y / n + x / n ≤ (y + x) / n
div-add_at_least x y n h =
    (le-div_iff_mul-le h).1 (rw add-mul (omega (arith, div-mul-le_self x n, div-mul-le_self y n)))

div-add_at_most : (x y n : ℕ) → 0 < n → (y + x) / n < y / n + x / n + 2
div-add_at_most x y n h =
    (div-lt_iff_lt-mul h).1
    (omega (
      arith,
      add-mul (y / n + x / n) 2 n,
      add-mul (y / n) (x / n) n,
      lt-div-mul-add {a = x} h,
      lt-div-mul-add {a = y} h,
    ))

day_litres-suc :
    (litres n d : ℕ)
    → day_litres litres n (suc d) ≡ (litres * d + litres) / n - litres * d / n
day_litres-suc litres n d = let e : suc d - 1 ≡ d = omega arith in rw (e, mul-suc)

-- each day has the whole part of an equal share, or one litre more
near_equal :
    (litres n d : ℕ)
    → 0 < n
    → 1 ≤ d
    → (litres / n ≤ day_litres litres n d) × (day_litres litres n d ≤ litres / n + 1)
near_equal litres n zero h one = absurd (omega arith)
near_equal litres n (suc d) h one = (
  omega (arith, day_litres-suc litres n d, div-add_at_least litres (litres * d) n h),
  omega (arith, day_litres-suc litres n d, div-add_at_most litres (litres * d) n h),
)

-- what a day that is one of the month's is given
flat_rate_day-of_month :
    (litres : ℕ) (date : Date) (d : ℕ)
    → litres ≤ max_litres
    → is_day date ≡ true
    → 1 ≤ d
    → d ≤ days_in_month date
    → flat_rate_day litres (day_of_month date d) ≡ Ok (day_litres litres (days_in_month date) d)
flat_rate_day-of_month litres date d hl hd low high =
    let f = from_is_day date hd in
    let t : is_day (day_of_month date d) ≡ true =
    to_is_day (day_of_month date d)
    (record {
      year_from = f.year_from;
      year_to = f.year_to;
      month_from = f.month_from;
      month_to = f.month_to;
      day_from = low;
      day_to = high;
    })
    in
    rw (le-leb litres max_litres hl, t)

-- after n days what is due by their end has been given
total_litres-first_days :
    (litres : ℕ) (date : Date) (n : ℕ)
    → litres ≤ max_litres
    → is_day date ≡ true
    → n ≤ days_in_month date
    → total_litres litres (first_days date n) ≡ litres * n / days_in_month date
total_litres-first_days litres date zero hl hd h =
    sym (ap (λ n. n / days_in_month date) (mul-zero litres) ∙ zero-div (days_in_month date))
total_litres-first_days litres date (suc n) hl hd h =
    let days = days_in_month date in
    let given : Date → ℕ = λ day. result_unwrap_or (flat_rate_day litres day) 0 in
    let so_far = total_litres litres (first_days date n) in
    let one_more : n + 1 ≡ suc n = omega arith in
    let longer :
    total_litres litres (first_days date (n + 1)) ≡ so_far + given (day_of_month date (suc n)) =
    sum_by-map-range_with_len_more given (day_of_month date) 1 n (suc n) (omega arith)
    in
    let today : given (day_of_month date (suc n)) ≡ day_litres litres days (suc n) =
    ap (λ r. result_unwrap_or r 0)
    (flat_rate_day-of_month litres date (suc n) hl hd (omega arith) h)
    in
    let grows : litres * n / days ≤ litres * suc n / days =
    div-le (omega arith) (mul-le-mul_left litres (omega arith))
    in
    let before : suc n - 1 ≡ n = omega arith in
    let due : so_far + day_litres litres days (suc n) ≡ litres * suc n / days =
    rw (total_litres-first_days litres date n hl hd (omega arith), before) (omega arith)
    in
    ap (λ k. total_litres litres (first_days date k)) (sym one_more) ∙ longer
    ∙ ap (λ l. so_far + l) today ∙ due

pub sums_to_month : (litres : ℕ) (date : Date) → SumsToMonth litres date
sums_to_month litres date hl hd =
    let f = from_is_day date hd in
    total_litres-first_days litres date (days_in_month date) hl hd (omega arith)
    ∙ mul-div_cancel litres (omega arith)

-- a day that is given litres is one of the month's
given_day :
    (litres : ℕ) (date : Date) (d given : ℕ)
    → flat_rate_day litres (day_of_month date d) ≡ Ok given
    → (1 ≤ d) × (d ≤ days_in_month date) × (day_litres litres (days_in_month date) d ≡ given)
given_day litres date d given h =
    let day = day_of_month date d in
    let days = days_in_month date in
    elim (leb litres max_litres) as
    (λ b.
    cond b (cond (is_day day) (Ok (day_litres litres days d)) (Err NoSuchDay)) (Err Litres)
    ≡ Ok given
    → (1 ≤ d) × (d ≤ days) × (day_litres litres days d ≡ given)) [
      | true ↦ λ e.
          let g = accepted (is_day day) (day_litres litres days d) given _ e in
          let f = from_is_day day g.0 in
          (f.day_from, f.day_to, g.1)
      | false ↦ λ e. let z : ◌≡◌ {A = ℕ} 0 1 = cc in absurd (omega arith)
    ]
    h

pub differs_by_one_at_most : (litres : ℕ) (date : Date) → DiffersByOneAtMost litres date
differs_by_one_at_most litres date d e more less hm hl =
    let days = days_in_month date in
    let m = given_day litres date d more hm in
    let l = given_day litres date e less hl in
    omega (
      arith,
      near_equal litres days d (omega arith) m.0,
      near_equal litres days e (omega arith) l.0,
    )
