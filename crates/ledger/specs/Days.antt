-- The calls of a ledger but for the share-out and the readings: when each is refused, and its
-- outcome.
use Rattle.std.specs.Prelude.{ℕ, ◌+◌, ◌-◌, ◌*◌, ◌/◌, not, ◌||◌, List, [], ◌∷◌, map, length, take, ℤ, Option, Result, nat_le, nat_lt, slice_set, sum_by}
use Rattle.std.specs.List.{list_all}
use Rattle.refusals.specs.declared.Refusal.{Refusal}
use Rattle.refusals.specs.declared.Refusal.TheVariants.{PointSheetLength, NoSuchTrader, Weather, Litres, Particulars, ForeignSheet, NotRunning, DayRunning, NoMoreDays, TooMuchMetered, InflowTooSmall, NoPlace}
use Rattle.refusals.specs.declared.Refused.{Refused}
use Rattle.profiles.specs.declared.weather.Weather.{Weather as DayWeather}
use Rattle.profiles.specs.Asked.{is_in_range}
use Rattle.rows.specs.declared.point.Particulars.{Particulars as Given}
use Rattle.rows.specs.declared.point.Point.{Point}
use Rattle.rows.specs.Limits.{max_traders}
use Rattle.rows.specs.Rows.{sheet_fits, particulars_fit, admitted_row, is_summable, open_sum_of}
use Rattle.ledger.specs.declared.book.Book.{Book}
use Rattle.ledger.specs.declared.day.OpenDay.{OpenDay}
use Rattle.ledger.specs.declared.measured.MeasuredDay.{MeasuredDay}
use Rattle.ledger.specs.declared.day.Phase.TheVariants.{Idle, Open, Measured}
use Rattle.ledger.specs.Accounts.{account_at, metered_at, metered_sum, with_metered, unmetered_trader}
use Rattle.ledger.specs.Grounds.{first_ground, call_answer}
use Rattle.ledger.specs.Limits.{max_litres, max_rate, max_shared, max_opened, last_day}
use Rattle.ledger.specs.Outcomes.{Outcome, call_outcome, token_outcome}
use Rattle.ledger.specs.Tokens.{DayToken, is_running, is_open, is_idle, weather_of}

-- Admitting a trader.

abbrev pub trader_admission_fault : Book → Option Refusal
trader_admission_fault l = first_ground ((nat_le max_traders l.counts.traders, NoPlace) ∷ [])

abbrev pub accepted_trader_admission : Book → List Point → Outcome ℕ
accepted_trader_admission l s =
    record {
      answer = l.counts.traders;
      book = record l { counts = record l.counts { traders = l.counts.traders + 1 } };
      rows = s;
    }

abbrev pub trader_admission : Book → List Point → Outcome (Result ℕ Refusal)
trader_admission l s = call_outcome (trader_admission_fault l) l s (accepted_trader_admission l s)

-- Admitting a point.

abbrev pub point_admission_fault : Book → List Point → Given → Option Refusal
point_admission_fault l s given =
    first_ground
    ((not (sheet_fits l.counts.points s), PointSheetLength)
    ∷ (nat_le l.counts.traders given.trader, NoSuchTrader)
    ∷ (not (particulars_fit given), Particulars)
    ∷ (nat_le (length s) l.counts.points, NoPlace)
    ∷ [])

abbrev pub accepted_point_admission : Book → List Point → Given → Outcome ℕ
accepted_point_admission l s given =
    record {
      answer = l.counts.points;
      book = record l { counts = record l.counts { points = l.counts.points + 1 } };
      rows = slice_set s l.counts.points (admitted_row given);
    }

abbrev pub point_admission : Book → List Point → Given → Outcome (Result ℕ Refusal)
point_admission l s given =
    call_outcome (point_admission_fault l s given) l s (accepted_point_admission l s given)

-- Opening a day.

abbrev pub opening_fault : Book → DayWeather → Option Refusal
opening_fault l weather =
    let full = nat_le max_shared l.counts.shared || nat_le max_opened l.counts.opened in
    first_ground
    ((not (is_in_range weather), Weather)
    ∷ (not (is_idle l.phase), DayRunning)
    ∷ (full || nat_lt last_day l.next_day, NoMoreDays)
    ∷ [])

abbrev pub accepted_opening : Book → List Point → DayWeather → Outcome OpenDay
accepted_opening l s weather =
    let number = l.counts.opened + 1 in
    record {
      answer = record { number = number };
      book = record l { counts = record l.counts { opened = number }; phase = Open number weather };
      rows = s;
    }

abbrev pub opening : Book → List Point → DayWeather → Outcome (Result OpenDay Refusal)
opening l s weather = call_outcome (opening_fault l weather) l s (accepted_opening l s weather)

-- Entering metered litres.

abbrev pub entry_fault : Book → OpenDay → ℕ → ℕ → Option Refusal
entry_fault l day t litres =
    first_ground
    ((nat_le l.counts.traders t, NoSuchTrader)
    ∷ (nat_lt max_litres litres, Litres)
    ∷ (not (is_open l.phase day.number), NotRunning)
    ∷ (nat_lt max_litres (metered_sum l.traders + litres), TooMuchMetered)
    ∷ [])

abbrev pub accepted_entry : Book → List Point → ℕ → ℕ → Outcome Unit
accepted_entry l s t litres =
    record { answer = tt; book = record l { traders = with_metered l.traders t litres }; rows = s }

abbrev pub metered_entry : Book → List Point → OpenDay → ℕ → ℕ → Outcome (Result Unit Refusal)
metered_entry l s day t litres =
    call_outcome (entry_fault l day t litres) l s (accepted_entry l s t litres)

-- Taking the inflow, which measures the day.

-- the network loss of an inflow at a rate in millionths
abbrev pub loss_of : ℕ → ℕ → ℕ
loss_of inflow rate = inflow * rate / 1_000_000

-- the quantity to be shared: the inflow less loss and metered litres
abbrev pub quantity_of : ℕ → ℕ → ℕ → ℕ
quantity_of inflow rate metered = inflow - loss_of inflow rate - metered

abbrev pub measurement_fault : Book → OpenDay → ℕ → ℕ → Option Refusal
measurement_fault l day inflow rate =
    first_ground
    ((nat_lt max_litres inflow || nat_lt max_rate rate, Litres)
    ∷ (not (is_open l.phase day.number), NotRunning)
    ∷ (nat_lt inflow (loss_of inflow rate + metered_sum l.traders), InflowTooSmall)
    ∷ [])

abbrev pub accepted_measurement : Book → List Point → OpenDay → ℕ → ℕ → Outcome MeasuredDay
accepted_measurement l s day inflow rate =
    let loss = loss_of inflow rate in
    let quantity = quantity_of inflow rate (metered_sum l.traders) in
    record {
      answer = record { number = day.number };
      book = record l { phase = Measured day.number (weather_of l.phase) inflow loss quantity };
      rows = s;
    }

abbrev pub measurement : Book → List Point → OpenDay → ℕ → ℕ →
    Outcome (Result MeasuredDay (Refused OpenDay))
measurement l s day inflow rate =
    token_outcome day (measurement_fault l day inflow rate) l s
    (accepted_measurement l s day inflow rate)

-- Abandoning a day.

-- between days: no metered litres, no running day
abbrev pub ended_book : Book → Book
ended_book l = record l { traders = map unmetered_trader l.traders; phase = Idle }

abbrev pub abandonment_fault : Book → DayToken → Option Refusal
abandonment_fault l day = first_ground ((not (is_running l.phase day), NotRunning) ∷ [])

abbrev pub accepted_abandonment : Book → List Point → Outcome Unit
accepted_abandonment l s = record { answer = tt; book = ended_book l; rows = s }

-- day: what the token stands for; a refusal hands the token back
abbrev pub abandonment : {T : Type 0} → Book → List Point → DayToken → T →
    Outcome (Result Unit (Refused T))
abandonment l s day token =
    token_outcome token (abandonment_fault l day) l s (accepted_abandonment l s)

-- What a trader has.

abbrev pub trader_fault : Book → ℕ → Option Refusal
trader_fault l t = first_ground ((nat_le l.counts.traders t, NoSuchTrader) ∷ [])

abbrev pub account_answer : Book → ℕ → Result ℤ Refusal
account_answer l t = call_answer (trader_fault l t) (account_at l.traders t)

abbrev pub metered_answer : Book → ℕ → Result ℕ Refusal
metered_answer l t = call_answer (trader_fault l t) (metered_at l.traders t)

abbrev pub open_quantity_fault : Book → List Point → ℕ → Option Refusal
open_quantity_fault l s t =
    first_ground
    ((not (sheet_fits l.counts.points s), PointSheetLength)
    ∷ (nat_le l.counts.traders t, NoSuchTrader)
    ∷ (not (list_all (is_summable t) (take l.counts.points s)), ForeignSheet)
    ∷ [])

-- the open sums of a trader's points together
abbrev pub open_quantity : Book → List Point → ℕ → Result ℕ Refusal
open_quantity l s t =
    call_answer (open_quantity_fault l s t) (sum_by (open_sum_of t) (take l.counts.points s))
