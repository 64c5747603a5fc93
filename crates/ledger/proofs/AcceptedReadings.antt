-- What is known of each call on a reading that is not refused.
use Rattle.std.proofs.Common.{◌≡◌, ℕ, ◌<◌, ◌≤◌, true, false, not, eqb, ltb, leb, ◌≢◌, List, length, None}
use Rattle.std.proofs.lemmas.Bool.{not-true, not-false, ltb-true, leb-true, leb-false, eqb-true, eqb-false, and_parts, or_parts}
use Rattle.ledger.specs.declared.book.Book.{Book}
use Rattle.rows.specs.declared.point.Point.{Point}
use Rattle.ledger.specs.declared.slip.Slip.{Slip}
use Rattle.rows.specs.Limits.{max_points}
use Rattle.ledger.specs.Limits.{max_readings}
use Rattle.rows.specs.Rows.{row_at, sheet_fits, dial_fits, row_fits}
use Rattle.rows.specs.Bookings.{is_slip_of, may_book}
use Rattle.ledger.specs.Readings.{is_unbookable, reading_fault, booking_fault, hand_over_fault, withdrawal_fault}
use Rattle.ledger.proofs.Grounds.{no_ground}

-- the sheet fits, and the point is one of those admitted
pub record PointThere (l : Book) (s : List Point) (k : ℕ) : Type 0 where
  pub room : l.counts.points ≤ length s
  pub short : length s ≤ max_points
  pub admitted : k < l.counts.points

point_there : (l : Book) (s : List Point) (k : ℕ) → not (sheet_fits l.counts.points s) ≡ false →
    leb l.counts.points k ≡ false → PointThere l s k
point_there l s k fits there =
    let f = and_parts (leb l.counts.points (length s)) (leb (length s) max_points)
    (not-false _ fits) in
    record { room = leb-true _ _ f.0; short = leb-true _ _ f.1; admitted = leb-false _ _ there }

-- this number is the row's open slip
pub record OpenSlip (p : Point) (number : ℕ) : Type 0 where
  pub some : p.slip ≢ 0
  pub own : p.slip ≡ number

pub open_slip : (p : Point) (number : ℕ) → is_slip_of p number ≡ true → OpenSlip p number
open_slip p number e =
    let f = and_parts (not (eqb p.slip 0)) (eqb p.slip number) e in
    record { some = eqb-false _ _ (not-true _ f.0); own = eqb-true _ _ f.1 }

pub record Reads (l : Book) (s : List Point) (k reading : ℕ) : Type 0 where
  pub there : PointThere l s k
  pub ranges : row_fits (row_at s k) ≡ true
  pub dial : dial_fits (row_at s k).digits reading ≡ true
  pub free : (row_at s k).slip ≡ 0
  pub left : l.counts.readings < max_readings

pub reads : (l : Book) (s : List Point) (k reading : ℕ) → reading_fault l s k reading ≡ None →
    Reads l s k reading
reads l s k reading e =
    let a = no_ground _ _ _ e in
    let b = no_ground _ _ _ a.1 in
    let c = no_ground _ _ _ b.1 in
    let d = no_ground _ _ _ c.1 in
    let f = no_ground _ _ _ d.1 in
    let g = no_ground _ _ _ f.1 in
    record {
      there = point_there l s k a.0 b.0;
      ranges = not-false _ c.0;
      dial = not-false _ d.0;
      free = eqb-true _ _ (not-false _ f.0);
      left = leb-false _ _ g.0;
    }

pub record Books (l : Book) (s : List Point) (slip : Slip) : Type 0 where
  pub there : PointThere l s slip.point
  pub ranges : row_fits (row_at s slip.point) ≡ true
  pub owned : (row_at s slip.point).trader < l.counts.traders
  pub held : OpenSlip (row_at s slip.point) slip.number
  pub left : l.counts.bookings < l.counts.readings

bookable : (l : Book) (s : List Point) (slip : Slip) → PointThere l s slip.point →
    not (may_book l.counts.traders (row_at s slip.point)) ≡ false → is_unbookable l s slip ≡ false →
    Books l s slip
bookable l s slip there may none =
    let row = row_at s slip.point in
    let a = and_parts (row_fits row) (ltb row.trader l.counts.traders) (not-false _ may) in
    let b = or_parts (not (is_slip_of row slip.number))
    (leb l.counts.readings l.counts.bookings) none in
    record {
      there = there;
      ranges = a.0;
      owned = ltb-true _ _ a.1;
      held = open_slip row slip.number (not-false _ b.0);
      left = leb-false _ _ b.1;
    }

pub books : (l : Book) (s : List Point) (slip : Slip) → booking_fault l s slip ≡ None →
    Books l s slip
books l s slip e =
    let a = no_ground _ _ _ e in
    let b = no_ground _ _ _ a.1 in
    let c = no_ground _ _ _ b.1 in
    let d = no_ground _ _ _ c.1 in
    bookable l s slip (point_there l s slip.point a.0 b.0) c.0 d.0

pub record HandsOver (l : Book) (s : List Point) (slip : Slip) (t : ℕ) : Type 0 where
  pub books : Books l s slip
  pub trader : t < l.counts.traders
  pub other : (row_at s slip.point).trader ≢ t

pub hands_over : (l : Book) (s : List Point) (slip : Slip) (t : ℕ) →
    hand_over_fault l s slip t ≡ None → HandsOver l s slip t
hands_over l s slip t e =
    let a = no_ground _ _ _ e in
    let b = no_ground _ _ _ a.1 in
    let c = no_ground _ _ _ b.1 in
    let d = no_ground _ _ _ c.1 in
    let f = no_ground _ _ _ d.1 in
    let g = no_ground _ _ _ f.1 in
    record {
      books = bookable l s slip (point_there l s slip.point a.0 c.0) d.0 f.0;
      trader = leb-false _ _ b.0;
      other = eqb-false _ _ g.0;
    }

pub record Withdraws (l : Book) (s : List Point) (slip : Slip) : Type 0 where
  pub there : PointThere l s slip.point
  pub held : OpenSlip (row_at s slip.point) slip.number

pub withdraws : (l : Book) (s : List Point) (slip : Slip) → withdrawal_fault l s slip ≡ None →
    Withdraws l s slip
withdraws l s slip e =
    let a = no_ground _ _ _ e in
    let b = no_ground _ _ _ a.1 in
    let c = no_ground _ _ _ b.1 in
    record {
      there = point_there l s slip.point a.0 b.0;
      held = open_slip _ _ (not-false _ c.0);
    }
