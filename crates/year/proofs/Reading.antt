-- A reading taken, booked, handed over or withdrawn keeps the ledger and its sheet in agreement
-- with their history.
use Rattle.std.proofs.Common.{ℕ, ◌+◌, ◌<◌, cond, ◌&&◌, eqb, List, ◌∷◌, set, is_ok, sym, refl, subst, arith}
use Rattle.std.proofs.lemmas.Bool.{eq-eqb, ne_eqb, cond-true, cond-false}
use Rattle.ledger.specs.declared.book.Book.{Book}
use Rattle.rows.specs.declared.point.Point.{Point}
use Rattle.ledger.specs.declared.slip.Slip.{Slip}
use Rattle.ledger.specs.Accounts.{with_credit, IsSound}
use Rattle.ledger.specs.Outcomes.{call_outcome, token_outcome}
use Rattle.rows.specs.Bookings.{kept_correction, booked_row}
use Rattle.ledger.specs.Readings.{reading_fault, reading_at, accepted_reading, booked_book, booking_fault, accepted_booking, booking, hand_over_fault, hand_over, withdrawal_fault, withdrawal, accepted_withdrawal}
use Rattle.rows.specs.Rows.{row_at}
use Rattle.ledger.proofs.AcceptedReadings.{Books, reads, books, hands_over, withdraws}
use Rattle.ledger.proofs.Grounds.{by_option}
use Rattle.ledger.proofs.Traders.{metered_set, metered_sum-set}
use Rattle.year.specs.Settlements.{Day, Booking, Settlement, ReadingBooked, trader_of, unless_refused, correction_in}
use Rattle.year.proofs.Today.{today_still}
use Rattle.year.proofs.Rows.{correction_is, dial_zero}
use Rattle.year.proofs.Sheets.{sheet_slipped, sheet_booked}
use Rattle.year.proofs.Money.{money_booked}
use Rattle.year.proofs.Consumption.{consumed_booked}
use Rattle.year.proofs.Agreement.{Agrees}

module _ (c : List Settlement) (d : Day) (taken : ℕ → ℕ) (l : Book) (s : List Point) (h : IsSound l)
    (a : Agrees c d taken l s) where
  pub read_agrees : (k v : ℕ) → let r = reading_at l s k v in
      Agrees c d (λ j. cond (is_ok r.answer && eqb k j) v (taken j)) r.book r.rows
  read_agrees k v =
      let slip = l.counts.readings + 1 in
      by_option
      (λ o. let r = call_outcome o l s (accepted_reading l s k v) in
      Agrees c d (λ j. cond (is_ok r.answer && eqb k j) v (taken j)) r.book r.rows)
      (reading_fault l s k v)
      (λ e.
      let f = reads l s k v e in
      record {
        today = a.today;
        sheet =
            sheet_slipped c taken _ _ _ s a.sheet (λ j. cond (eqb k j) v (taken j)) k slip v
            f.there.admitted f.dial
            (λ some. sym (cond-true _ _ _ (eq-eqb k k refl)))
            (λ j ne. sym (cond-false _ _ _ (ne_eqb k j (λ q. ne (sym q)))));
        money = a.money;
        fair = a.fair;
        consumed = a.consumed;
      })
      (λ w. a)

  -- the reading kept at point k booked to the trader whose the point is, and the point then trader
  -- t's
  booked_agrees : (w : Slip) (t : ℕ) → Books l s w → t < l.counts.traders →
      Agrees (ReadingBooked (record {
        point = w.point;
        reading = taken w.point;
        trader = t;
        correction = kept_correction (row_at s w.point);
      }) ∷ c) d taken
      (booked_book l (row_at s w.point)) (set s w.point (booked_row (row_at s w.point) t))
  booked_agrees w t may own =
      let k = w.point in
      let p = row_at s k in
      let b : Booking = record {
        point = k;
        reading = taken k;
        trader = t;
        correction = kept_correction p;
      } in
      let r = a.sheet.rows k may.there.admitted in
      let some = may.held.some in
      let old = may.owned in
      let few = h.traders in
      let places = h.places in
      record {
        today =
            today_still l.phase l.traders (with_credit l.traders p.trader (kept_correction p)) d
            (λ u. metered_set l.traders p.trader _ u refl)
            (metered_sum-set l.traders p.trader _ refl) a.today;
        sheet = sheet_booked c taken _ _ _ s a.sheet k t
            (kept_correction p) may.there.admitted own some;
        money =
            money_booked c l.traders l.loss l.correction b p.trader (omega arith)
            r.agrees.trader a.money;
        fair = a.fair;
        consumed = consumed_booked c b (correction_is c k (taken k) p (r.kept some) r.agrees)
            a.consumed;
      }

  pub book_agrees : (w : Slip) → let r = booking l s w in
      Agrees (unless_refused r.answer (ReadingBooked
      (record {
        point = w.point;
        reading = taken w.point;
        trader = trader_of c w.point;
        correction = correction_in r.answer;
      }) ∷ c) c) d taken r.book r.rows
  book_agrees w =
      let k = w.point in
      let p = row_at s k in
      by_option
      (λ o. let r = token_outcome w o l s (accepted_booking l s w p.trader) in
      Agrees (unless_refused r.answer (ReadingBooked
      (record {
        point = k;
        reading = taken k;
        trader = trader_of c k;
        correction = correction_in r.answer;
      }) ∷ c) c) d taken r.book r.rows)
      (booking_fault l s w)
      (λ e.
      let b = books l s w e in
      let still = (a.sheet.rows k b.there.admitted).agrees.trader in
      subst (λ (t : ℕ). Agrees (ReadingBooked (record
      { point = k; reading = taken k; trader = t; correction = kept_correction p }) ∷ c) d taken
      (booked_book l p) (set s k (booked_row p p.trader))) still
      (booked_agrees w p.trader b b.owned))
      (λ why. a)

  pub hand_agrees : (w : Slip) (t : ℕ) → let r = hand_over l s w t in
      Agrees (unless_refused r.answer (ReadingBooked
      (record {
        point = w.point;
        reading = taken w.point;
        trader = t;
        correction = correction_in r.answer;
      }) ∷ c) c) d taken r.book r.rows
  hand_agrees w t =
      by_option
      (λ o. let r = token_outcome w o l s (accepted_booking l s w t) in
      Agrees (unless_refused r.answer (ReadingBooked
      (record {
        point = w.point;
        reading = taken w.point;
        trader = t;
        correction = correction_in r.answer;
      }) ∷ c) c) d taken r.book r.rows)
      (hand_over_fault l s w t)
      (λ e. let f = hands_over l s w t e in booked_agrees w t f.books f.trader)
      (λ why. a)

  pub withdraw_agrees : (w : Slip) → let r = withdrawal l s w in Agrees c d taken r.book r.rows
  withdraw_agrees w =
      let k = w.point in
      by_option (λ o. let r = token_outcome w o l s (accepted_withdrawal l s w) in
      Agrees c d taken r.book r.rows) (withdrawal_fault l s w)
      (λ e.
      record {
        today = a.today;
        sheet =
            sheet_slipped c taken _ _ _ s a.sheet taken k 0 0 (withdraws l s w e).there.admitted
            (dial_zero (row_at s k).digits)
            (λ some. absurd (some refl)) (λ j ne. refl);
        money = a.money;
        fair = a.fair;
        consumed = a.consumed;
      })
      (λ why. a)
