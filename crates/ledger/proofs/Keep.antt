-- Every call keeps what always holds of a ledger, whatever is handed in.
use Rattle.std.proofs.Common.{◌≡◌, ℕ, ◌+◌, ◌-◌, ◌*◌, ◌≤◌, true, ◌&&◌, eqb, leb, List, map, length, ℤ, pos, sum, sym, refl, ap, ◌∙◌, subst, ⊎_elim, arith}
use Rattle.std.proofs.lemmas.List.{length-set, length-map}
use Rattle.std.proofs.lemmas.List.Folds.{sum_by-replicate}
use Rattle.std.proofs.lemmas.List.Sums.{sum_by-take-le}
use Rattle.std.proofs.lemmas.Int.{ints}
use Rattle.std.proofs.lemmas.Bool.{leb-true, eqb-true, le-leb, eq-eqb, and_parts, and_from, cases_Bool, false≢true}
use Rattle.shares.specs.Fair.{fair}
use Rattle.ledger.specs.declared.book.Book.{Book}
use Rattle.ledger.specs.declared.book.Trader.{Trader}
use Rattle.ledger.specs.declared.day.OpenDay.{OpenDay}
use Rattle.ledger.specs.declared.measured.MeasuredDay.{MeasuredDay}
use Rattle.ledger.specs.declared.day.Phase.{Phase}
use Rattle.ledger.specs.declared.day.Phase.TheVariants.{Idle, Open, Measured}
use Rattle.rows.specs.declared.point.Particulars.{Particulars}
use Rattle.rows.specs.declared.point.Point.{Point}
use Rattle.rows.specs.Limits.{max_traders}
use Rattle.ledger.specs.Limits.{max_litres, max_shared, max_opened, last_day}
use Rattle.ledger.specs.Accounts.{no_trader, account_at, metered_at, metered_sum, new_book, unmetered_trader, settled_trader, with_shares, account_limit, day_figures_fit, running_days, IsSound, CanSettle}
use Rattle.ledger.specs.Days.{trader_admission_fault, trader_admission, point_admission_fault, point_admission, opening_fault, opening, entry_fault, metered_entry, loss_of, quantity_of, measurement_fault, measurement, ended_book, abandonment_fault, abandonment}
use Rattle.ledger.specs.Sharing.{ShareOutInputs, day_quantity, day_loss, day_consumptions, day_shares, share_out_fault, shared_book, share_out}
use Rattle.ledger.proofs.Grounds.{by_unless}
use Rattle.ledger.proofs.Accepted.{admits, point_fits, day_opens, enters, takes_inflow, shares_out}
use Rattle.ledger.proofs.Traders.{near_none, near_pos, near_more, near_add, account_entered, metered_sum-entered, metered_sum_none, metered_le, account_unmetered, account_settled, new_at, length_credited_to, metered_credited_to, near_credited_to}
use Rattle.rows.specs.Within.{IsWithin}
use Rattle.ledger.specs.Tokens.{DayToken, is_open, is_measured}
use Rattle.profiles.specs.declared.weather.Weather.{Weather}
use Rattle.shares.specs.Laws.{Rule, IsShareRule}

-- A new ledger.

pub new_sound : (first : ℕ) → IsSound (new_book first)
new_sound first =
    record {
      places = refl;
      traders = omega arith;
      points = omega arith;
      metered = let e = sum_by-replicate (λ (u : Trader). u.metered) max_traders no_trader in
          omega arith;
      day = eq-eqb _ 0 (sum_by-replicate (λ (u : Trader). u.metered) max_traders no_trader);
      opened = omega arith;
      shared = omega arith;
      readings = omega arith;
      bookings = omega arith;
      losses = omega arith;
      accounts = λ t. subst (λ (u : Trader). IsWithin u.account 0)
          (sym (new_at max_traders t)) near_none;
      corrections = near_none;
    }

-- A trader.

pub admit_sound : (l : Book) (s : List Point) → IsSound l → IsSound (trader_admission l s).book
admit_sound l s h =
    by_unless IsSound (trader_admission_fault l) _ l
    (λ e.
    let a = (admits l e).room in
    record {
      places = h.places;
      traders = omega arith;
      points = h.points;
      metered = h.metered;
      day = h.day;
      opened = h.opened;
      shared = h.shared;
      readings = h.readings;
      bookings = h.bookings;
      losses = h.losses;
      accounts = h.accounts;
      corrections = h.corrections;
    })
    h

-- A point.

pub point_sound : (l : Book) (s : List Point) (g : Particulars) → IsSound l →
    IsSound (point_admission l s g).book
point_sound l s g h =
    by_unless IsSound (point_admission_fault l s g) _ l
    (λ e.
    let f = point_fits l s g e in
    let short = f.short in
    let room = f.room in
    record {
      places = h.places;
      traders = h.traders;
      points = omega arith;
      metered = h.metered;
      day = h.day;
      opened = h.opened;
      shared = h.shared;
      readings = h.readings;
      bookings = h.bookings;
      losses = h.losses;
      accounts = h.accounts;
      corrections = h.corrections;
    })
    h

-- A day opened.

pub open_sound : (l : Book) (s : List Point) (weather : Weather) → IsSound l →
    IsSound (opening l s weather).book
open_sound l s weather h =
    by_unless IsSound (opening_fault l weather) _ l
    (λ e.
    let o = day_opens l weather e in
    let few = o.shared in
    let less = o.opened in
    record {
      places = h.places;
      traders = h.traders;
      points = h.points;
      metered = h.metered;
      day = le-leb _ _ o.calendar;
      opened = omega arith;
      shared = omega arith;
      readings = h.readings;
      bookings = h.bookings;
      losses = h.losses;
      accounts = h.accounts;
      corrections = h.corrections;
    })
    h

-- Litres entered.

-- an open day's figures do not hang on what was metered
open_holds : (ph : Phase) (k m m' next : ℕ) → is_open ph k ≡ true → day_figures_fit ph m next ≡ true →
    day_figures_fit ph m' next ≡ true
open_holds Idle k m m' next e h = absurd (false≢true e)
open_holds (Open n w) k m m' next e h = h
open_holds (Measured n w g x q) k m m' next e h = absurd (false≢true e)

pub enter_sound : (l : Book) (s : List Point) (day : OpenDay) (t litres : ℕ) → IsSound l →
    IsSound (metered_entry l s day t litres).book
enter_sound l s day t litres h =
    by_unless IsSound (entry_fault l day t litres) _ l
    (λ e.
    let n = enters l day t litres e in
    let own = n.trader in
    let room = n.room in
    let known = h.traders in
    let places = h.places in
    let more = metered_sum-entered l.traders t litres (omega arith) in
    record {
      places = length-set l.traders t _ ∙ places;
      traders = known;
      points = h.points;
      metered = omega arith;
      day = open_holds l.phase day.number _ _ _ n.running h.day;
      opened = h.opened;
      shared = h.shared;
      readings = h.readings;
      bookings = h.bookings;
      losses = h.losses;
      accounts = λ u. subst (λ (z : ℤ). IsWithin z (account_limit l.counts))
          (sym (account_entered l.traders t litres u)) (h.accounts u);
      corrections = h.corrections;
    })
    h

-- The inflow taken.

-- an open day lies in the calendar, and is to be ended
pub open_calendar : (ph : Phase) (k m next : ℕ) → is_open ph k ≡ true →
    day_figures_fit ph m next ≡ true → leb next last_day ≡ true
open_calendar Idle k m next e h = absurd (false≢true e)
open_calendar (Open n w) k m next e h = h
open_calendar (Measured n w g x q) k m next e h = absurd (false≢true e)

pub open_pending : (ph : Phase) (k : ℕ) → is_open ph k ≡ true → running_days ph ≡ 1
open_pending Idle k e = absurd (false≢true e)
open_pending (Open n w) k e = refl
open_pending (Measured n w g x q) k e = absurd (false≢true e)

-- loss, metered litres and what is left of the inflow are the inflow
whole_again : (g x m : ℕ) → x + m ≤ g → g - x - m + x + m ≡ g
whole_again g x m h = omega arith

pub inflow_sound : (l : Book) (s : List Point) (day : OpenDay) (inflow rate : ℕ) → IsSound l →
    IsSound (measurement l s day inflow rate).book
inflow_sound l s day inflow rate h =
    by_unless IsSound (measurement_fault l day inflow rate) _ l
    (λ e.
    let t = takes_inflow l day inflow rate e in
    let m = metered_sum l.traders in
    let one = open_pending l.phase day.number t.running in
    let few = h.shared in
    record {
      places = h.places;
      traders = h.traders;
      points = h.points;
      metered = h.metered;
      day =
          and_from (eqb (quantity_of inflow rate m + loss_of inflow rate + m) inflow)
          (leb inflow max_litres && leb l.next_day last_day)
          (eq-eqb _ _ (whole_again inflow (loss_of inflow rate) m t.enough))
          (and_from (leb inflow max_litres) (leb l.next_day last_day) (le-leb _ _ t.small)
          (open_calendar l.phase day.number m l.next_day t.running h.day));
      opened = h.opened;
      shared = omega arith;
      readings = h.readings;
      bookings = h.bookings;
      losses = h.losses;
      accounts = h.accounts;
      corrections = h.corrections;
    })
    h

-- A day ended.

-- between days: no trader has metered litres, and the accounts are in their reach
idle_sound : (f : Trader → Trader) → ((t : Trader) → (f t).metered ≡ 0) →
    (ts : List Trader) (l : Book) → length ts ≡ max_traders → l.traders ≡ map f ts →
    l.phase ≡ Idle → l.counts.traders ≤ max_traders → l.counts.points ≤ 4096 →
    l.counts.opened ≤ max_opened → l.counts.shared ≤ max_shared → l.counts.readings ≤ 1_000_000 →
    l.counts.bookings ≤ l.counts.readings → l.loss ≤ l.counts.shared * max_litres →
    ((t : ℕ) → IsWithin (account_at (map f ts) t) (account_limit l.counts)) →
    IsWithin l.correction (l.counts.bookings * 5_000_000_000_000) → IsSound l
idle_sound f z ts l places e i traders points opened shared readings bookings losses accounts
    corrections =
    let none : metered_sum l.traders ≡ 0 = ap metered_sum e ∙ metered_sum_none f z ts in
    let due : running_days l.phase ≡ 0 = ap running_days i in
    record {
      places = ap length e ∙ length-map ts f ∙ places;
      traders = traders;
      points = points;
      metered = omega arith;
      day = ap (λ (ph : Phase). day_figures_fit ph (metered_sum l.traders) l.next_day) i
          ∙ eq-eqb _ 0 none;
      opened = opened;
      shared = omega arith;
      readings = readings;
      bookings = bookings;
      losses = losses;
      accounts = λ t. subst (λ u. IsWithin (account_at u t) (account_limit l.counts)) (sym e)
          (accounts t);
      corrections = corrections;
    }

pub ended_sound : (l : Book) → IsSound l → IsSound (ended_book l)
ended_sound l h =
    let few = h.shared in
    idle_sound unmetered_trader (λ t. refl) l.traders
    (ended_book l) h.places refl refl h.traders h.points h.opened (omega arith)
    h.readings h.bookings h.losses
    (λ t. subst (λ (z : ℤ). IsWithin z (account_limit l.counts))
    (sym (account_unmetered l.traders t)) (h.accounts t))
    h.corrections

pub abandon_sound : (l : Book) (s : List Point) (day : DayToken) → IsSound l →
    IsSound (abandonment l s day day).book
abandon_sound l s day h = by_unless IsSound (abandonment_fault l day) (ended_book l) l
    (λ e. ended_sound l h) h

-- A day shared out.

-- a rule never gives more than there is
pub shares_within : {rule : Rule} → IsShareRule rule → (q : ℕ) (ws : List ℕ) → sum (rule q ws) ≤ q
shares_within {rule} law q ws =
    ⊎_elim
    (λ yes. let e = law.whole q ws yes in omega arith)
    (λ no. let e : sum (rule q ws) ≡ length ws * 0 = ap sum (law.refused q ws no)
    ∙ sum_by-replicate (λ (n : ℕ). n) (length ws) 0 in omega arith)
    (cases_Bool (fair q ws))

-- what is known of a measured day
pub record DayIs (ph : Phase) (m next : ℕ) : Type 0 where
  pub whole : day_quantity ph + day_loss ph + m ≤ max_litres
  pub calendar : next ≤ last_day
  pub due : running_days ph ≡ 1

pub measured_is : (ph : Phase) (k m next : ℕ) → is_measured ph k ≡ true →
    day_figures_fit ph m next ≡ true → DayIs ph m next
measured_is Idle k m next e h = absurd (false≢true e)
measured_is (Open n w) k m next e h = absurd (false≢true e)
measured_is (Measured n w g x q) k m next e h =
    let a = and_parts (eqb (q + x + m) g) _ h in
    let b = and_parts (leb g max_litres) _ a.1 in
    let whole = eqb-true _ _ a.0 in
    let small = leb-true _ _ b.0 in
    record { whole = omega arith; calendar = leb-true _ _ b.1; due = refl }

-- the accounts before the metered sums are settled
pub settling : (l : Book) (s : List Point) (shares : List ℕ) (i : ℕ) → IsSound l →
    sum shares ≤ max_litres → CanSettle (with_shares l.traders s shares i)
settling l s shares i h few =
    let ts = l.traders in
    record {
      places = length_credited_to ts s shares i ∙ h.places;
      small =
          λ t.
          let e = metered_credited_to ts s shares i t in
          let a = metered_le ts t in
          let b = h.metered in
          omega arith;
      within =
          λ t.
          let a = (near_credited_to ts s shares i (account_limit l.counts) h.accounts t).high in
          let b = sum_by-take-le (λ (n : ℕ). n) shares i in
          let c = h.shared in
          let d = h.bookings in
          let r = h.readings in
          omega (arith, ints);
    }

pub shared_sound : (l : Book) (s : List Point) (shares : List ℕ) → IsSound l →
    running_days l.phase ≡ 1 → sum shares + day_loss l.phase + metered_sum l.traders ≤ max_litres →
    IsSound (shared_book l s shares)
shared_sound l s shares h due total =
    let ts = l.traders in
    let n = l.counts.points in
    let credits = with_shares ts s shares n in
    let few = h.shared in
    let lost = h.losses in
    let up : account_limit l.counts + max_litres ≤ account_limit
    (shared_book l s shares).counts = omega arith in
    idle_sound settled_trader (λ t. refl) credits (shared_book l s shares)
    (length_credited_to ts s shares n ∙ h.places) refl refl h.traders
    h.points h.opened (omega arith) h.readings h.bookings (omega arith)
    (λ t.
    let a = near_credited_to ts s shares n (account_limit l.counts) h.accounts t in
    let b = sum_by-take-le (λ (n : ℕ). n) shares n in
    let e = metered_credited_to ts s shares n t in
    let c = metered_le ts t in
    let y = metered_at credits t in
    subst (λ (z : ℤ). IsWithin z (account_limit (shared_book l s shares).counts))
    (sym (account_settled credits t))
    (near_more _ _ _ (near_add (account_at credits t) (pos y) _ y a (near_pos y)) (omega arith)))
    h.corrections

pub share_sound : (l : Book) (s : List Point) (day : MeasuredDay) (m : ShareOutInputs) →
    IsShareRule m.rule → IsSound l → IsSound (share_out l s day m).book
share_sound l s day m law h =
    let shares = day_shares l s m.tells m.rule in
    by_unless IsSound (share_out_fault l s day m) (shared_book l s shares) l
    (λ e.
    let o = shares_out l s day m e in
    let is = measured_is l.phase day.number _ _ o.0.running h.day in
    let whole = is.whole in
    let most = shares_within law (day_quantity l.phase) (day_consumptions l s m.tells) in
    shared_sound l s shares h is.due (omega arith))
    h
