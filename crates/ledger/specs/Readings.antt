-- Readings: a slip is opened, and ended by a booking, a hand-over or a withdrawal.
use Rattle.std.specs.Prelude.{ℕ, ◌+◌, Bool, not, ◌||◌, List, [], ◌∷◌, ℤ, ◌-ℤ◌, Option, Result, ◌==◌, nat_le, slice_set}
use Rattle.refusals.specs.declared.Refusal.{Refusal}
use Rattle.refusals.specs.declared.Refusal.TheVariants.{PointSheetLength, NoSuchTrader, NoSuchPoint, Particulars, ForeignSheet, NotOpenSlip, SlipOpen, NoMoreReadings, SameTrader}
use Rattle.refusals.specs.declared.Refused.{Refused}
use Rattle.rows.specs.declared.point.Point.{Point}
use Rattle.rows.specs.Bookings.{row_with_slip, kept_correction, booked_row, is_slip_of, may_book}
use Rattle.rows.specs.Rows.{row_at, sheet_fits, dial_fits, row_fits}
use Rattle.ledger.specs.declared.book.Book.{Book}
use Rattle.ledger.specs.declared.slip.Slip.{Slip}
use Rattle.ledger.specs.Accounts.{with_credit}
use Rattle.ledger.specs.Grounds.{first_ground}
use Rattle.ledger.specs.Limits.{max_readings}
use Rattle.ledger.specs.Outcomes.{Outcome, call_outcome, token_outcome}

-- why there is no row of a point to be had: the sheet does not fit the n points admitted, or the
-- point is none of them
abbrev pub row_fault : ℕ → List Point → ℕ → Option Refusal
row_fault n s k =
    first_ground ((not (sheet_fits n s), PointSheetLength) ∷ (nat_le n k, NoSuchPoint) ∷ [])

-- Reading a point.

abbrev pub reading_fault : Book → List Point → ℕ → ℕ → Option Refusal
reading_fault l s k reading =
    first_ground
    ((not (sheet_fits l.counts.points s), PointSheetLength)
    ∷ (nat_le l.counts.points k, NoSuchPoint)
    ∷ (not (row_fits (row_at s k)), ForeignSheet)
    ∷ (not (dial_fits (row_at s k).digits reading), Particulars)
    ∷ (not ((row_at s k).slip == 0), SlipOpen)
    ∷ (nat_le max_readings l.counts.readings, NoMoreReadings)
    ∷ [])

abbrev pub accepted_reading : Book → List Point → ℕ → ℕ → Outcome Slip
accepted_reading l s k reading =
    let number = l.counts.readings + 1 in
    record {
      answer = record { number = number; point = k };
      book = record l { counts = record l.counts { readings = number } };
      rows = slice_set s k (row_with_slip (row_at s k) number reading);
    }

abbrev pub reading_at : Book → List Point → ℕ → ℕ → Outcome (Result Slip Refusal)
reading_at l s k reading =
    call_outcome (reading_fault l s k reading) l s (accepted_reading l s k reading)

-- Booking a slip.

-- the ledger after a row was booked: the correction is added to its trader's account and taken from
-- the distributor's
abbrev pub booked_book : Book → Point → Book
booked_book l p =
    record l {
      traders = with_credit l.traders p.trader (kept_correction p);
      counts = record l.counts { bookings = l.counts.bookings + 1 };
      correction = l.correction -ℤ kept_correction p;
    }

-- the slip is not its point's open one, or there have been as many bookings as readings
abbrev pub is_unbookable : Book → List Point → Slip → Bool
is_unbookable l s slip =
    not (is_slip_of (row_at s slip.point) slip.number)
    || nat_le l.counts.readings l.counts.bookings

abbrev pub booking_fault : Book → List Point → Slip → Option Refusal
booking_fault l s slip =
    first_ground
    ((not (sheet_fits l.counts.points s), PointSheetLength)
    ∷ (nat_le l.counts.points slip.point, NoSuchPoint)
    ∷ (not (may_book l.counts.traders (row_at s slip.point)), ForeignSheet)
    ∷ (is_unbookable l s slip, NotOpenSlip)
    ∷ [])

-- the row of the slip's point booked, and the point then trader t's
abbrev pub accepted_booking : Book → List Point → Slip → ℕ → Outcome ℤ
accepted_booking l s slip t =
    let row = row_at s slip.point in
    record {
      answer = kept_correction row;
      book = booked_book l row;
      rows = slice_set s slip.point (booked_row row t);
    }

abbrev pub booking : Book → List Point → Slip → Outcome (Result ℤ (Refused Slip))
booking l s slip =
    token_outcome slip (booking_fault l s slip) l s
    (accepted_booking l s slip (row_at s slip.point).trader)

-- Handing a point over: a booking for the old trader, then the new trader.

abbrev pub hand_over_fault : Book → List Point → Slip → ℕ → Option Refusal
hand_over_fault l s slip t =
    first_ground
    ((not (sheet_fits l.counts.points s), PointSheetLength)
    ∷ (nat_le l.counts.traders t, NoSuchTrader)
    ∷ (nat_le l.counts.points slip.point, NoSuchPoint)
    ∷ (not (may_book l.counts.traders (row_at s slip.point)), ForeignSheet)
    ∷ (is_unbookable l s slip, NotOpenSlip)
    ∷ (((row_at s slip.point).trader == t), SameTrader)
    ∷ [])

abbrev pub hand_over : Book → List Point → Slip → ℕ → Outcome (Result ℤ (Refused Slip))
hand_over l s slip t =
    token_outcome slip (hand_over_fault l s slip t) l s (accepted_booking l s slip t)

-- Withdrawing a reading.

abbrev pub withdrawal_fault : Book → List Point → Slip → Option Refusal
withdrawal_fault l s slip =
    first_ground
    ((not (sheet_fits l.counts.points s), PointSheetLength)
    ∷ (nat_le l.counts.points slip.point, NoSuchPoint)
    ∷ (not (is_slip_of (row_at s slip.point) slip.number), NotOpenSlip)
    ∷ [])

abbrev pub accepted_withdrawal : Book → List Point → Slip → Outcome Unit
accepted_withdrawal l s slip =
    record {
      answer = tt;
      book = l;
      rows = slice_set s slip.point (row_with_slip (row_at s slip.point) 0 0);
    }

abbrev pub withdrawal : Book → List Point → Slip → Outcome (Result Unit (Refused Slip))
withdrawal l s slip =
    token_outcome slip (withdrawal_fault l s slip) l s (accepted_withdrawal l s slip)
