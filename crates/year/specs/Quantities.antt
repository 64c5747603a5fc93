-- The quantities of the trade, worked out from the settlements alone.
use Rattle.std.specs.Prelude.{ℕ, ◌+◌, ◌-◌, cond, List, [], ◌∷◌, map, ℤ, pos, ◌+ℤ◌, sum, sum_by, ◌==◌, nat_lt, slice_index}
use Rattle.std.specs.List.{range_with_len}
use Rattle.profiles.specs.declared.factors.Factors.{Factors}
use Rattle.rows.specs.declared.point.Particulars.{Particulars}
use Rattle.rows.specs.Bookings.{consumption_to, scale_factor_after}
use Rattle.rows.specs.Rows.{profile_consumption}
use Rattle.ledger.specs.Accounts.{signed_sum_by}
use Rattle.ledger.specs.Days.{loss_of}
use Rattle.year.specs.Settlements.{Day, MeteredEntry, SharedDay, Booking, Settlement, Joined, DayShared, ReadingBooked, points_in, trader_of, days_in, bookings_in}

-- A day's figures.

-- the litres entered for one trader, and for all
abbrev pub entered_by : ℕ → List MeteredEntry → ℕ
entered_by t entries = sum_by (λ (e : MeteredEntry). cond (e.trader == t) e.litres 0) entries

abbrev pub entered_in : List MeteredEntry → ℕ
entered_in entries = sum_by (λ (e : MeteredEntry). e.litres) entries

-- the network loss, and the quantity to be shared
abbrev pub loss_on : Day → ℕ
loss_on d = loss_of d.inflow d.rate

abbrev pub quantity_on : Day → ℕ
quantity_on d = d.inflow - loss_on d - entered_in d.entries

-- The points, numbered from 0 as they joined.

abbrev pub no_particulars : Particulars
no_particulars =
    record {
      trader = 0;
      segment = 0;
      digits = 0;
      litres_per_unit = 0;
      reading = 0;
      scale_factor = 0;
    }

-- what was given when a point joined
unfoldable pub given_for : List Settlement → ℕ → Particulars
given_for [] j = no_particulars
given_for (Joined g ∷ c) j = cond (j == points_in c) g (given_for c j)
given_for (e ∷ c) j = given_for c j

-- a point's factors on a day
abbrev pub factors_for : List Settlement → SharedDay → ℕ → Factors
factors_for c d j = d.tells (given_for c j).segment d.day.weather

-- all its shares, and its shares since its last booking
abbrev pub shares_of : List Settlement → ℕ → ℕ
shares_of c j = sum_by (λ (d : SharedDay). slice_index d.shares j) (days_in c)

unfoldable pub shares_since : List Settlement → ℕ → ℕ
shares_since [] j = 0
shares_since (DayShared d ∷ c) j = shares_since c j + slice_index d.shares j
shares_since (ReadingBooked b ∷ c) j = cond (j == b.point) 0 (shares_since c j)
shares_since (e ∷ c) j = shares_since c j

-- its multipliers, of the days shared out since it joined or was booked last
unfoldable pub period_of : List Settlement → ℕ → ℕ
period_of [] j = 0
period_of (DayShared d ∷ c) j =
    cond (nat_lt j (points_in c)) (period_of c j + (factors_for c d j).multiplier) (period_of c j)
period_of (ReadingBooked b ∷ c) j = cond (j == b.point) 0 (period_of c j)
period_of (e ∷ c) j = period_of c j

-- its dial reading: the one booked last, else the admitted one
unfoldable pub reading_of : List Settlement → ℕ → ℕ
reading_of [] j = 0
reading_of (Joined g ∷ c) j = cond (j == points_in c) g.reading (reading_of c j)
reading_of (ReadingBooked b ∷ c) j = cond (j == b.point) b.reading (reading_of c j)
reading_of (e ∷ c) j = reading_of c j

-- the litres between that reading and the next
abbrev pub consumption_at : List Settlement → ℕ → ℕ → ℕ
consumption_at c j reading =
    consumption_to (record (given_for c j) { reading = reading_of c j }) reading

-- its scale factor: by the rule of its last booking, else as admitted
unfoldable pub scale_factor_of : List Settlement → ℕ → ℕ
scale_factor_of [] j = 0
scale_factor_of (Joined g ∷ c) j = cond (j == points_in c) g.scale_factor (scale_factor_of c j)
scale_factor_of (ReadingBooked b ∷ c) j =
    let k = b.point in
    let consumption = consumption_at c k b.reading in
    let new = scale_factor_after (scale_factor_of c k) consumption (period_of c k) in
    cond (j == k) new (scale_factor_of c j)
scale_factor_of (e ∷ c) j = scale_factor_of c j

-- the consumption of its booked readings
unfoldable pub consumption_of : List Settlement → ℕ → ℕ
consumption_of [] j = 0
consumption_of (ReadingBooked b ∷ c) j =
    let consumption = consumption_at c b.point b.reading in
    cond (j == b.point) (consumption_of c j + consumption) (consumption_of c j)
consumption_of (e ∷ c) j = consumption_of c j

-- the corrections returned for it
abbrev pub corrections_of : List Settlement → ℕ → ℤ
corrections_of c j =
    signed_sum_by (λ (b : Booking). cond (j == b.point) b.correction (pos 0)) (bookings_in c)

-- Proportions.

-- its weight on a day: its profile consumption
abbrev pub weight_of : List Settlement → SharedDay → ℕ → ℕ
weight_of c d k = profile_consumption (scale_factor_of c k) (factors_for c d k).day

-- the weights of all points together
abbrev pub weight_sum : List Settlement → SharedDay → ℕ
weight_sum c d = sum (map (weight_of c d) (range_with_len 0 (points_in c)))

-- The totals.

-- the shares, among those of the first n points, of the points that are the trader's
abbrev pub shares_to : List Settlement → List ℕ → ℕ → ℕ → ℕ
shares_to c shares t n =
    let share : ℕ → ℕ = λ k. cond (trader_of c k == t) (slice_index shares k) 0 in
    sum (map share (range_with_len 0 n))

-- what a trader has: his metered entries of the days shared out, and the shares and corrections of
-- points, each while the point was his
unfoldable pub account_of : List Settlement → ℕ → ℤ
account_of [] t = pos 0
account_of (DayShared d ∷ c) t =
    account_of c t +ℤ pos (shares_to c d.shares t (points_in c)) +ℤ pos (entered_by t d.day.entries)
account_of (ReadingBooked b ∷ c) t =
    cond (trader_of c b.point == t) (account_of c t +ℤ b.correction) (account_of c t)
account_of (e ∷ c) t = account_of c t

-- all corrections returned
abbrev pub corrections_in : List Settlement → ℤ
corrections_in c = signed_sum_by (λ (b : Booking). b.correction) (bookings_in c)

-- the inflow of the days shared out, and their loss
abbrev pub inflow_of : List Settlement → ℕ
inflow_of c = sum_by (λ (d : SharedDay). d.day.inflow) (days_in c)

abbrev pub losses_of : List Settlement → ℕ
losses_of c = sum_by (λ (d : SharedDay). loss_on d.day) (days_in c)
