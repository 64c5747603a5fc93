-- The calls of a ledger's life, each with what was handed in and what was returned, and the ledgers
-- and sheets that they lead to.
use Rattle.std.specs.Prelude.{ℕ, List, [], ◌∷◌, ℤ, Result}
use Rattle.refusals.specs.declared.Refusal.{Refusal}
use Rattle.refusals.specs.declared.Refused.{Refused}
use Rattle.profiles.specs.declared.weather.Weather.{Weather}
use Rattle.profiles.specs.Laws.{TellsFactors}
use Rattle.shares.specs.Laws.{IsShareRule}
use Rattle.rows.specs.declared.point.Particulars.{Particulars}
use Rattle.rows.specs.declared.point.Point.{Point}
use Rattle.ledger.specs.declared.book.Book.{Book}
use Rattle.ledger.specs.declared.day.OpenDay.{OpenDay}
use Rattle.ledger.specs.declared.measured.MeasuredDay.{MeasuredDay}
use Rattle.ledger.specs.declared.day.SharedOut.{SharedOut}
use Rattle.ledger.specs.declared.slip.Slip.{Slip}
use Rattle.ledger.specs.Accounts.{new_book}
use Rattle.ledger.specs.Days.{trader_admission, point_admission, opening, metered_entry, measurement, abandonment}
use Rattle.ledger.specs.Outcomes.{Became}
use Rattle.ledger.specs.Readings.{reading_at, booking, hand_over, withdrawal}
use Rattle.ledger.specs.Sharing.{ShareOutInputs, WorkSheets, SharesOut}
use Rattle.ledger.specs.Tokens.{DayToken}

-- one call: what was handed in, and its answer. A day or a slip stands there as its token, which is
-- its number (and its point).
pub data Event : Type 0 where
  TraderAdmitted : Result ℕ Refusal → Event
  PointAdmitted : Particulars → Result ℕ Refusal → Event
  Opened : Weather → Result OpenDay Refusal → Event
  -- the trader and the litres
  Entered : OpenDay → ℕ → ℕ → Result Unit Refusal → Event
  -- the inflow and the rate
  InflowTaken : OpenDay → ℕ → ℕ → Result MeasuredDay (Refused OpenDay) → Event
  -- the last: the work sheets as the call left them
  Shared : MeasuredDay → ShareOutInputs → Result SharedOut (Refused MeasuredDay) → WorkSheets →
      Event
  Abandoned : DayToken → Result Unit (Refused DayToken) → Event
  -- the point and the reading
  PointRead : ℕ → ℕ → Result Slip Refusal → Event
  Booked : Slip → Result ℤ (Refused Slip) → Event
  HandedOver : Slip → ℕ → Result ℤ (Refused Slip) → Event
  Withdrawn : Slip → Result Unit (Refused Slip) → Event

-- the calls of a ledger's life, the newest first
abbrev pub History : Type 0
History = List Event

-- a share-out by a profile that gives factors, whatever is asked, and by a lawful share rule
pub record LawfulShareOut (l : Book) (s : List Point) (day : MeasuredDay) (m : ShareOutInputs)
    (r : Result SharedOut (Refused MeasuredDay)) (l' : Book) (s' : List Point) (w : WorkSheets)
    : Type 0 where
  pub profile : TellsFactors m.tells
  pub rule : IsShareRule m.rule
  pub shares_out : SharesOut l s day m r l' s' w

-- the call e takes the ledger l and the sheet s to l' and s'
abbrev pub Step : Event → Book → List Point → Book → List Point → Type 0
Step (TraderAdmitted r) l s l' s' = Became (trader_admission l s) r l' s'
Step (PointAdmitted given r) l s l' s' = Became (point_admission l s given) r l' s'
Step (Opened weather r) l s l' s' = Became (opening l s weather) r l' s'
Step (Entered day t litres r) l s l' s' = Became (metered_entry l s day t litres) r l' s'
Step (InflowTaken day g rate r) l s l' s' = Became (measurement l s day g rate) r l' s'
Step (Shared day m r w) l s l' s' = LawfulShareOut l s day m r l' s' w
Step (Abandoned day r) l s l' s' = Became (abandonment l s day day) r l' s'
Step (PointRead k reading r) l s l' s' = Became (reading_at l s k reading) r l' s'
Step (Booked slip r) l s l' s' = Became (booking l s slip) r l' s'
Step (HandedOver slip t r) l s l' s' = Became (hand_over l s slip t) r l' s'
Step (Withdrawn slip r) l s l' s' = Became (withdrawal l s slip) r l' s'

-- h is a history of the ledger l and the sheet s: it begins with a new ledger and any sheet, an
-- unused one as well, and each of its calls takes the two on
pub data IsHistoryOf : History → Book → List Point → Type 0 where
  start : (first : ℕ) (s : List Point) → IsHistoryOf [] (new_book first) s
  next : {h : History} {e : Event} {l l' : Book} {s s' : List Point} →
      IsHistoryOf h l s → Step e l s l' s' → IsHistoryOf (e ∷ h) l' s'
