-- What a ledger and its sheet have in common with the settlements and the last day of their
-- history, call by call.
use Rattle.std.proofs.Common.{ℕ, ◌+◌, List, [], ◌∷◌, pos, arith}
use Rattle.ledger.specs.declared.book.Book.{Book}
use Rattle.ledger.specs.declared.day.OpenDay.{OpenDay}
use Rattle.rows.specs.declared.point.Particulars.{Particulars}
use Rattle.rows.specs.declared.point.Point.{Point}
use Rattle.ledger.specs.Accounts.{new_book, IsSound}
use Rattle.ledger.specs.Days.{trader_admission_fault, accepted_trader_admission, trader_admission, point_admission_fault, accepted_point_admission, point_admission, opening_fault, accepted_opening, opening, entry_fault, accepted_entry, metered_entry, measurement_fault, accepted_measurement, measurement, abandonment_fault, accepted_abandonment, abandonment}
use Rattle.ledger.specs.Outcomes.{call_outcome, token_outcome}
use Rattle.ledger.proofs.Accepted.{point_fits, day_opens, enters, takes_inflow}
use Rattle.ledger.proofs.Grounds.{by_option}
use Rattle.year.specs.Settlements.{Day, Settlement, Joined, unless_refused, new_day, with_entry, with_inflow}
use Rattle.year.specs.Law.{AreFairDays}
use Rattle.year.proofs.Today.{Today, today_opened, today_entered, today_measured}
use Rattle.year.proofs.Sheets.{Sheet, sheet_new, sheet_traders, sheet_joined}
use Rattle.year.proofs.Consumption.{Consumed, consumed_none, consumed_joined}
use Rattle.year.proofs.Money.{Money, money_new, money_joined, money_entered, money_ended}
use Rattle.ledger.specs.Tokens.{DayToken}
use Rattle.profiles.specs.declared.weather.Weather.{Weather}

-- c: the settlements, d: the day opened last, taken: the reading taken last at each point
pub record Agrees (c : List Settlement) (d : Day) (taken : ℕ → ℕ) (l : Book)
    (s : List Point) : Type 0 where
  pub today : Today l.phase l.traders d
  pub sheet : Sheet c taken l.counts.points l.counts.traders l.counts.shared s
  pub money : Money c l.traders l.loss l.correction
  pub fair : AreFairDays c
  pub consumed : Consumed c

pub new_agrees : (first : ℕ) (s : List Point) → Agrees []
    (new_day (record { temperature = pos 0; season = 0 })) (λ j. 0) (new_book first) s
new_agrees first s = record {
  today = tt;
  sheet = sheet_new _ s;
  money = money_new;
  fair = tt;
  consumed = consumed_none;
}

module _ (c : List Settlement) (d : Day) (taken : ℕ → ℕ) (l : Book) (s : List Point) (h : IsSound l)
    (a : Agrees c d taken l s) where
  pub admit_agrees : let r = trader_admission l s in Agrees c d taken r.book r.rows
  admit_agrees =
      by_option (λ o. let r = call_outcome o l s (accepted_trader_admission l s) in
      Agrees c d taken r.book r.rows) (trader_admission_fault l)
      (λ e. record {
        today = a.today;
        sheet = sheet_traders _ _ _ _ _ _ a.sheet;
        money = a.money;
        fair = a.fair;
        consumed = a.consumed;
      })
      (λ w. a)

  pub point_agrees : (g : Particulars) → let r = point_admission l s g in
      Agrees (unless_refused r.answer (Joined g ∷ c) c) d taken r.book r.rows
  point_agrees g =
      by_option
      (λ o. let r = call_outcome o l s (accepted_point_admission l s g) in
      Agrees (unless_refused r.answer (Joined g ∷ c) c) d taken r.book r.rows)
      (point_admission_fault l s g)
      (λ e.
      let f = point_fits l s g e in
      record {
        today = a.today;
        sheet = sheet_joined c taken _ _ _ s a.sheet g f.room f.trader f.particulars;
        money = money_joined g c l.traders l.loss l.correction a.money;
        fair = a.fair;
        consumed = consumed_joined g c a.consumed;
      })
      (λ w. a)

  pub open_agrees : (weather : Weather) → let r = opening l s weather in
      Agrees c (unless_refused r.answer (new_day weather) d) taken r.book r.rows
  open_agrees weather =
      by_option
      (λ o. let r = call_outcome o l s (accepted_opening l s weather) in
      Agrees c (unless_refused r.answer (new_day weather) d) taken r.book r.rows)
      (opening_fault l weather)
      (λ e.
      let f = day_opens l weather e in
      record {
        today = today_opened l.phase l.traders l.next_day
            (l.counts.opened + 1) weather f.idle h.day;
        sheet = a.sheet;
        money = a.money;
        fair = a.fair;
        consumed = a.consumed;
      })
      (λ w. a)

  pub enter_agrees : (day : OpenDay) (t q : ℕ) → let r = metered_entry l s day t q in
      Agrees c (unless_refused r.answer (with_entry d t q) d) taken r.book r.rows
  enter_agrees day t q =
      by_option
      (λ o. let r = call_outcome o l s (accepted_entry l s t q) in
      Agrees c (unless_refused r.answer (with_entry d t q) d) taken r.book r.rows)
      (entry_fault l day t q)
      (λ e.
      let f = enters l day t q e in
      let own = f.trader in
      let few = h.traders in
      let places = h.places in
      record {
        today = today_entered l.phase day.number l.traders d t q f.running (omega arith) a.today;
        sheet = a.sheet;
        money = money_entered c l.traders l.loss l.correction t q a.money;
        fair = a.fair;
        consumed = a.consumed;
      })
      (λ w. a)

  pub inflow_agrees : (day : OpenDay) (g x : ℕ) → let r = measurement l s day g x in
      Agrees c (unless_refused r.answer (with_inflow d g x) d) taken r.book r.rows
  inflow_agrees day g x =
      by_option
      (λ o. let r = token_outcome day o l s (accepted_measurement l s day g x) in
      Agrees c (unless_refused r.answer (with_inflow d g x) d) taken r.book r.rows)
      (measurement_fault l day g x)
      (λ e.
      let f = takes_inflow l day g x e in
      record {
        today = today_measured l.phase day.number l.traders d day.number g x f.running a.today;
        sheet = a.sheet;
        money = a.money;
        fair = a.fair;
        consumed = a.consumed;
      })
      (λ w. a)

  pub abandon_agrees : (day : DayToken) → let r = abandonment l s day day in
      Agrees c d taken r.book r.rows
  abandon_agrees day =
      by_option (λ o. let r = token_outcome day o l s (accepted_abandonment l s) in
      Agrees c d taken r.book r.rows) (abandonment_fault l day)
      (λ e.
      record {
        today = tt;
        sheet = a.sheet;
        money = money_ended c l.traders l.loss l.correction a.money;
        fair = a.fair;
        consumed = a.consumed;
      })
      (λ w. a)
