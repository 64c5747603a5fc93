-- What the playing of a call makes of the state.
use Rattle.std.specs.Prelude.{◌≡◌, Bool, true, false, List, vec_items}
use Rattle.journal.specs.declared.call.Call.{Call}
use Rattle.journal.specs.declared.call.Call.TheVariants as call
use Rattle.rows.specs.declared.point.Point.{Point}
use Rattle.ledger.specs.declared.book.Book.{Book}
use Rattle.ledger.specs.Days.{trader_admission, point_admission, opening, metered_entry, measurement}
use Rattle.ledger.specs.Outcomes.{Outcome}
use Rattle.player.specs.declared.state.State.{State}
use Rattle.player.specs.RunningDay.{open_day}
use Rattle.player.specs.Station.{day_abandonment}

abbrev pub book_of : State → Book
book_of state = state.station.ledger.book

abbrev pub rows_of : State → List Point
rows_of state = vec_items state.sheets.points

-- the call on the running day or on a slip
abbrev pub is_day_or_slip_call : Call → Bool
is_day_or_slip_call (call.Open t s) = true
is_day_or_slip_call (call.Inflow l r) = true
is_day_or_slip_call (call.Share p r) = true
is_day_or_slip_call call.Abandon = true
is_day_or_slip_call (call.Read p r) = true
is_day_or_slip_call (call.Book p) = true
is_day_or_slip_call (call.HandOver p t) = true
is_day_or_slip_call (call.Withdraw p) = true
is_day_or_slip_call c = false

-- the ledger and the sheet of a state are what a call with this outcome leaves
pub record Leaves {A : Type 0} (o : Outcome A) (new : State) : Type 0 where
  pub book : book_of new ≡ o.book
  pub rows : rows_of new ≡ o.rows

-- the state after a call has what the ledger's own definition makes of the old one; a share-out is
-- pinned where its profile is at hand, a reading, a booking and a hand-over where the slip is
abbrev pub Plays : Call → State → State → Type 0
Plays (call.Trader n) old new = Leaves (trader_admission (book_of old) (rows_of old)) new
Plays (call.Point t s d l r f) old new =
    Leaves (point_admission (book_of old) (rows_of old)
    (record {
      trader = t;
      segment = s;
      digits = d;
      litres_per_unit = l;
      reading = r;
      scale_factor = f;
    }))
    new
Plays (call.Open t s) old new =
    Leaves (opening (book_of old) (rows_of old) (record { temperature = t; season = s })) new
Plays (call.Enter t l) old new =
    Leaves (metered_entry (book_of old) (rows_of old) (open_day old.station.running) t l) new
Plays (call.Inflow l r) old new =
    Leaves (measurement (book_of old) (rows_of old) (open_day old.station.running) l r) new
Plays (call.Share p r) old new = Unit {0}
Plays call.Abandon old new =
    Leaves (day_abandonment (book_of old) (rows_of old) old.station.running) new
Plays (call.Read p r) old new = Unit {0}
Plays (call.Book p) old new = Unit {0}
Plays (call.HandOver p t) old new = Unit {0}
Plays c old new = book_of new ≡ book_of old
