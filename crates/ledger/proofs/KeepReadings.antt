-- Every call on a reading keeps what always holds of a ledger, whatever is handed in.
use Rattle.std.proofs.Common.{◌≡◌, ℕ, ◌+◌, ◌*◌, ◌<◌, true, List, set, ℤ, ◌+ℤ◌, ◌-ℤ◌, sym, refl, ap, ◌∙◌, subst, arith, w64, SFits, to_z, of_z, rules}
use Rattle.std.proofs.lemmas.Int.{ints, to_z-of_z}
use Rattle.std.proofs.lemmas.List.{length-set}
use Rattle.ledger.specs.declared.book.Book.{Book}
use Rattle.ledger.specs.declared.book.Counts.{Counts}
use Rattle.ledger.specs.declared.book.Trader.{Trader}
use Rattle.rows.specs.declared.point.Point.{Point}
use Rattle.ledger.specs.declared.slip.Slip.{Slip}
use Rattle.ledger.specs.Accounts.{account_at, metered_at, with_credit, account_limit, day_figures_fit, IsSound}
use Rattle.rows.specs.Limits.{max_correction}
use Rattle.rows.specs.Bookings.{kept_correction}
use Rattle.ledger.specs.Readings.{reading_fault, reading_at, booked_book, booking_fault, booking, hand_over_fault, hand_over, withdrawal_fault, withdrawal}
use Rattle.rows.specs.Rows.{row_at, row_fits}
use Rattle.ledger.proofs.AcceptedReadings.{reads, books, hands_over}
use Rattle.rows.proofs.Corrections.{correction_within}
use Rattle.ledger.proofs.Grounds.{by_unless}
use Rattle.ledger.proofs.Traders.{near_more, near_add, near_sub, at_set, metered_sum-set}
use Rattle.rows.specs.Within.{IsWithin}

pub read_sound : (l : Book) (s : List Point) (k reading : ℕ) → IsSound l →
    IsSound (reading_at l s k reading).book
read_sound l s k reading h =
    by_unless IsSound (reading_fault l s k reading) _ l
    (λ e.
    let left = (reads l s k reading e).left in
    let few = h.bookings in
    record {
      places = h.places;
      traders = h.traders;
      points = h.points;
      metered = h.metered;
      day = h.day;
      opened = h.opened;
      shared = h.shared;
      readings = omega arith;
      bookings = omega arith;
      losses = h.losses;
      accounts = h.accounts;
      corrections = h.corrections;
    })
    h

abbrev one_more_booking : Counts → Counts
one_more_booking c = record c { bookings = c.bookings + 1 }

-- no account comes further than one more booking lets it
near_booked : (l : Book) (p : Point) → IsSound l → row_fits p ≡ true → (t : ℕ) →
    IsWithin (account_at (with_credit l.traders p.trader (kept_correction p)) t)
    (account_limit (one_more_booking l.counts))
near_booked l p h fits t =
    let far = account_limit (one_more_booking l.counts) in
    at_set (λ (u : Trader). IsWithin u.account far) l.traders p.trader _ t
    (near_more _ _ far (near_add _ _ _ _ (h.accounts p.trader) (correction_within p fits))
    (omega arith))
    (near_more _ _ far (h.accounts t) (omega arith))

pub booked_sound : (l : Book) (p : Point) → IsSound l → row_fits p ≡ true →
    l.counts.bookings < l.counts.readings → IsSound (booked_book l p)
booked_sound l p h fits left =
    let same = metered_sum-set l.traders p.trader _ refl in
    record {
      places = length-set l.traders p.trader _ ∙ h.places;
      traders = h.traders;
      points = h.points;
      metered = let most = h.metered in omega arith;
      day = subst (λ (m : ℕ). day_figures_fit l.phase m l.next_day ≡ true) (sym same) h.day;
      opened = h.opened;
      shared = h.shared;
      readings = h.readings;
      bookings = omega arith;
      losses = h.losses;
      accounts = near_booked l p h fits;
      corrections =
          near_more _ _ ((l.counts.bookings + 1) * max_correction)
          (near_sub _ _ _ _ h.corrections (correction_within p fits))
          (omega arith);
    }

pub book_sound : (l : Book) (s : List Point) (slip : Slip) → IsSound l →
    IsSound (booking l s slip).book
book_sound l s slip h =
    by_unless IsSound (booking_fault l s slip) _ l
    (λ e. let b = books l s slip e in booked_sound l (row_at s slip.point) h b.ranges b.left)
    h

pub hand_sound : (l : Book) (s : List Point) (slip : Slip) (t : ℕ) → IsSound l →
    IsSound (hand_over l s slip t).book
hand_sound l s slip t h =
    by_unless IsSound (hand_over_fault l s slip t) _ l
    (λ e. let b = (hands_over l s slip t e).books in
    booked_sound l (row_at s slip.point) h b.ranges b.left)
    h

pub withdraw_sound : (l : Book) (s : List Point) (slip : Slip) → IsSound l →
    IsSound (withdrawal l s slip).book
withdraw_sound l s slip h = by_unless IsSound (withdrawal_fault l s slip) l l (λ e. h) h

-- The two accounts that a booking moves, as numbers of 64 bits: both fit, and nothing is lost.

module _ (l : Book) (h : IsSound l) (p : Point) (fits : row_fits p ≡ true)
    (left : l.counts.bookings < l.counts.readings) (by : ℤ) (e : by ≡ kept_correction p)
    (fz : SFits w64 (account_at l.traders p.trader)) (fc : SFits w64 l.correction)
    (fb : SFits w64 by) where
  account_fits : SFits w64 (account_at l.traders p.trader +ℤ by)
  account_fits =
      let k = correction_within p fits in
      let kh = k.high in
      let kl = k.low in
      let a = h.accounts p.trader in
      let ah = a.high in
      let al = a.low in
      let s = h.shared in
      let b = h.bookings in
      let r = h.readings in
      search (rules, ints)

  rest_fits : SFits w64 (l.correction -ℤ by)
  rest_fits =
      let k = correction_within p fits in
      let kh = k.high in
      let kl = k.low in
      let ch = h.corrections.high in
      let cl = h.corrections.low in
      let b = h.bookings in
      let r = h.readings in
      search (rules, ints)

  pub account_sum_fits : SFits w64 (to_z w64 (of_z w64 (account_at l.traders p.trader)) +ℤ to_z w64
      (of_z w64 by))
  account_sum_fits = rw (to_z-of_z w64 (account_at l.traders p.trader) fz, to_z-of_z w64 by fb)
      account_fits

  pub rest_difference_fits : SFits w64 (to_z w64 (of_z w64 l.correction) -ℤ to_z w64 (of_z w64 by))
  rest_difference_fits = rw (to_z-of_z w64 l.correction fc, to_z-of_z w64 by fb) rest_fits

  abbrev with_both : ℤ → ℤ → Book
  with_both x y =
      record l {
        traders = set l.traders p.trader (record {
          account = x;
          metered = metered_at l.traders p.trader;
        });
        counts = one_more_booking l.counts;
        correction = y;
      }

  pub row_booked : with_both (to_z w64 (of_z w64 (to_z w64
      (of_z w64 (account_at l.traders p.trader)) +ℤ to_z w64 (of_z w64 by))))
      (to_z w64 (of_z w64 (to_z w64 (of_z w64 l.correction) -ℤ to_z w64 (of_z w64 by))))
      ≡ booked_book l p
  row_booked =
      let z = account_at l.traders p.trader in
      let y = to_z w64 (of_z w64 by) in
      let b : y ≡ kept_correction p = to_z-of_z w64 by fb ∙ e in
      let account : to_z w64 (of_z w64 (to_z w64 (of_z w64 z) +ℤ y)) ≡ z +ℤ kept_correction p =
      to_z-of_z w64 (to_z w64 (of_z w64 z) +ℤ y) account_sum_fits
      ∙ ap (λ (x : ℤ). x +ℤ y) (to_z-of_z w64 z fz) ∙ ap (λ (x : ℤ). z +ℤ x) b in
      let rest : to_z w64 (of_z w64 (to_z w64 (of_z w64 l.correction) -ℤ y))
      ≡ l.correction -ℤ kept_correction p =
      to_z-of_z w64 (to_z w64 (of_z w64 l.correction) -ℤ y) rest_difference_fits
      ∙ ap (λ (x : ℤ). x -ℤ y) (to_z-of_z w64 l.correction fc)
      ∙ ap (λ (x : ℤ). l.correction -ℤ x) b in
      ap (λ (x : ℤ). with_both x (to_z w64 (of_z w64 (to_z w64 (of_z w64 l.correction) -ℤ y))))
      account ∙ ap (with_both (z +ℤ kept_correction p)) rest
