-- What of a history counts: the points that joined, the days that were shared out and the readings
-- that were booked, from the accepted calls alone.
use Rattle.std.specs.Prelude.{ℕ, ◌+◌, cond, ◌&&◌, List, [], ◌∷◌, take, ℤ, pos, is_ok, Ok, Err, Result, ◌==◌}
use Rattle.profiles.specs.declared.weather.Weather.{Weather}
use Rattle.profiles.specs.Laws.{Tells}
use Rattle.rows.specs.declared.point.Particulars.{Particulars}
use Rattle.ledger.specs.History.{History, PointAdmitted, Opened, Entered, InflowTaken, Shared, PointRead, Booked, HandedOver}

-- what an accepted call changes, and what stays as it was after a refused one
abbrev pub unless_refused : {A B C : Type 0} → Result A B → C → C → C
unless_refused r new old = cond (is_ok r) new old

-- one metered entry: the trader and the litres
pub record MeteredEntry : Type 0 where
  pub trader : ℕ
  pub litres : ℕ

-- a day by its accepted calls: what its opening took, its entries, the inflow and the rate last
-- taken
pub record Day : Type 0 where
  pub weather : Weather
  pub entries : List MeteredEntry
  pub inflow : ℕ
  pub rate : ℕ

abbrev pub new_day : Weather → Day
new_day weather = record { weather = weather; entries = []; inflow = 0; rate = 0 }

abbrev pub with_entry : Day → ℕ → ℕ → Day
with_entry d t q = record d { entries = record { trader = t; litres = q } ∷ d.entries }

abbrev pub with_inflow : Day → ℕ → ℕ → Day
with_inflow d inflow rate = record d { inflow = inflow; rate = rate }

-- the day opened last; before the first, one at 0.0 degrees in winter
abbrev pub latest_day : History → Day
latest_day [] = new_day (record { temperature = pos 0; season = 0 })
latest_day (Opened weather r ∷ h) = unless_refused r (new_day weather) (latest_day h)
latest_day (Entered day t q r ∷ h) = unless_refused r (with_entry (latest_day h) t q) (latest_day h)
latest_day (InflowTaken day g x r ∷ h) =
    unless_refused r (with_inflow (latest_day h) g x) (latest_day h)
latest_day (e ∷ h) = latest_day h

-- the reading taken last at a point: that of its open slip, while it has one
abbrev pub latest_reading : History → ℕ → ℕ
latest_reading [] j = 0
latest_reading (PointRead k v r ∷ h) j = cond (is_ok r && k == j) v (latest_reading h j)
latest_reading (e ∷ h) j = latest_reading h j

-- the correction that a booking returned
abbrev pub correction_in : {B : Type 0} → Result ℤ B → ℤ
correction_in (Ok z) = z
correction_in (Err e) = pos 0

-- a day shared out: by what profile, and the shares that were written for the points
pub record SharedDay : Type 0 where
  pub day : Day
  pub tells : Tells
  pub shares : List ℕ

-- a reading booked: the point, the reading, the trader whose the point is then (another one after a
-- hand-over), and the correction
pub record Booking : Type 0 where
  pub point : ℕ
  pub reading : ℕ
  pub trader : ℕ
  pub correction : ℤ

-- a point joined with its particulars; or a day was shared out; or a reading was booked
pub data Settlement : Type 0 where
  Joined : Particulars → Settlement
  DayShared : SharedDay → Settlement
  ReadingBooked : Booking → Settlement

-- how many points had joined
abbrev pub points_in : List Settlement → ℕ
points_in [] = 0
points_in (Joined g ∷ c) = points_in c + 1
points_in (e ∷ c) = points_in c

-- whose a point is: the trader that it joined with, or the one that it was booked to last
abbrev pub trader_of : List Settlement → ℕ → ℕ
trader_of [] j = 0
trader_of (Joined g ∷ c) j = cond (j == points_in c) g.trader (trader_of c j)
trader_of (ReadingBooked b ∷ c) j = cond (j == b.point) b.trader (trader_of c j)
trader_of (e ∷ c) j = trader_of c j

-- the days shared out, and the readings booked, the newest first
abbrev pub days_in : List Settlement → List SharedDay
days_in [] = []
days_in (DayShared d ∷ c) = d ∷ days_in c
days_in (e ∷ c) = days_in c

abbrev pub bookings_in : List Settlement → List Booking
bookings_in [] = []
bookings_in (ReadingBooked b ∷ c) = b ∷ bookings_in c
bookings_in (e ∷ c) = bookings_in c

-- the settlements of a history, the newest first. Of the second work sheet only the places of the
-- points that had joined count.
abbrev pub settlements : History → List Settlement
settlements [] = []
settlements (PointAdmitted given r ∷ h) =
    unless_refused r (Joined given ∷ settlements h) (settlements h)
settlements (Shared day m r sheets ∷ h) =
    let c = settlements h in
    let shares = take (points_in c) sheets.shares in
    let shared : SharedDay = record { day = latest_day h; tells = m.tells; shares = shares } in
    unless_refused r (DayShared shared ∷ c) c
settlements (Booked slip r ∷ h) =
    let c = settlements h in
    let booked : Booking =
    record {
      point = slip.point;
      reading = latest_reading h slip.point;
      trader = trader_of c slip.point;
      correction = correction_in r;
    } in
    unless_refused r (ReadingBooked booked ∷ c) c
settlements (HandedOver slip t r ∷ h) =
    let c = settlements h in
    let booked : Booking =
    record {
      point = slip.point;
      reading = latest_reading h slip.point;
      trader = t;
      correction = correction_in r;
    } in
    unless_refused r (ReadingBooked booked ∷ c) c
settlements (e ∷ h) = settlements h
