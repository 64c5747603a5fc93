-- The rows of the ledger's own sheet are what the settlements give, and within their ranges.
use Rattle.std.proofs.Common.{◌≡◌, ℕ, ◌+◌, ◌<◌, ◌≤◌, true, eqb, ◌≢◌, List, [], ◌∷◌, length, get_or, take, set, ℤ, sym, refl, ap, ◌∙◌, subst, ⊎_elim, arith}
use Rattle.std.proofs.lemmas.List.{length-set, get_or-set_same, get_or-set_other, get_or_past}
use Rattle.std.proofs.lemmas.Bool.{cases_eq, cond_both}
use Rattle.profiles.specs.declared.factors.Factors.{Factors}
use Rattle.rows.specs.declared.point.Particulars.{Particulars}
use Rattle.rows.specs.declared.point.Point.{Point}
use Rattle.rows.specs.Limits.{max_traders}
use Rattle.rows.specs.Bookings.{row_with_slip, booked_row, may_book}
use Rattle.rows.specs.Rows.{row_at, no_row, dial_fits, may_share, admitted_row, shared_rows}
use Rattle.rows.proofs.Rows.{all_of_rows, length_shared_rows, row_shared_rows}
use Rattle.year.specs.Settlements.{SharedDay, Booking, Settlement, Joined, DayShared, ReadingBooked, points_in}
use Rattle.year.specs.Quantities.{factors_for, shares_since}
use Rattle.year.specs.Law.{RowAgrees}
use Rattle.year.proofs.Rows.{SameAt, same_older, same_other, agrees_still, agrees_joined, agrees_shared, agrees_slipped, agrees_booked, RowFitsAfter, is_fit, fits_new, fits_slipped, fits_booked, row_books, row_shares}
use Rattle.std.specs.List.{list_all}

-- taken: the reading taken last at the point
pub record RowHolds (c : List Settlement) (taken traders days k : ℕ) (p : Point) : Type 0 where
  pub agrees : RowAgrees c k p
  pub owned : p.trader < traders
  pub fits : RowFitsAfter days p
  pub kept : p.slip ≢ 0 → p.kept_reading ≡ taken

-- taken: the reading taken last at each point
pub record Sheet (c : List Settlement) (taken : ℕ → ℕ) (points traders days : ℕ)
    (s : List Point) : Type 0 where
  pub count : points ≡ points_in c
  pub room : points ≤ length s
  pub rows : (k : ℕ) → k < points → RowHolds c (taken k) traders days k (row_at s k)
  -- a point that has not joined has no shares
  pub later : (k : ℕ) → points ≤ k → shares_since c k ≡ 0

pub sheet_new : (taken : ℕ → ℕ) (s : List Point) → Sheet [] taken 0 0 0 s
unfolding shares_since
sheet_new taken s =
    record {
      count = refl;
      room = omega arith;
      rows = λ k h. absurd (let q : ⊥ = omega arith in q);
      later = λ k h. refl;
    }

-- what holds of the row written at k and of each other row holds of each
row_set : (P : ℕ → Point → Type 0) (s : List Point) (k : ℕ) (x : Point) (j : ℕ) → k < length s →
    P k x → (j ≢ k → P j (row_at s j)) → P j (row_at (set s k x) j)
row_set P s k x j room new old =
    ⊎_elim
    (λ e. subst (λ (i : ℕ). P i (row_at (set s k x) i)) e
    (subst (P k) (sym (get_or-set_same s k x no_row room)) new))
    (λ ne. let other : j ≢ k = λ q. ne (sym q) in subst (P j)
    (sym (get_or-set_other s k j x no_row other)) (old other))
    (cases_eq k j)

-- One more trader.

pub sheet_traders : (c : List Settlement) (taken : ℕ → ℕ) (n m days : ℕ) (s : List Point) →
    Sheet c taken n m days s → Sheet c taken n (m + 1) days s
sheet_traders c taken n m days s h =
    record {
      count = h.count;
      room = h.room;
      rows =
          λ k q.
          let r = h.rows k q in
          let own = r.owned in
          record { agrees = r.agrees; owned = omega arith; fits = r.fits; kept = r.kept };
      later = h.later;
    }

-- One more settlement that leaves a row as it was.
row_still : (c c' : List Settlement) (v m days k : ℕ) (p : Point) → SameAt c' c k →
    RowHolds c v m days k p → RowHolds c' v m days k p
row_still c c' v m days k p e r =
    record {
      agrees = agrees_still c c' k p e r.agrees;
      owned = r.owned;
      fits = r.fits;
      kept = r.kept;
    }

-- One more point.

module _ (c : List Settlement) (taken : ℕ → ℕ) (n m days : ℕ) (s : List Point)
    (h : Sheet c taken n m days s) where
  row_joined : (g : Particulars) → g.trader < m → is_fit (admitted_row g) ≡ true →
      RowHolds (Joined g ∷ c) (taken n) m days n (admitted_row g)
  row_joined g own f =
      let count = h.count in
      record {
        agrees = subst (λ (k : ℕ). RowAgrees (Joined g ∷ c) k (admitted_row g)) (sym count)
            (agrees_joined g c (h.later (points_in c) (omega arith)));
        owned = own;
        fits = fits_new g days f;
        kept = λ some. absurd (some refl);
      }

  pub sheet_joined : (g : Particulars) → n < length s → g.trader < m →
      is_fit (admitted_row g) ≡ true → Sheet (Joined g ∷ c) taken (n + 1) m days
      (set s n (admitted_row g))
  unfolding shares_since
  sheet_joined g room own f =
      let len = length-set s n (admitted_row g) in
      let count = h.count in
      record {
        count = ap (λ (k : ℕ). k + 1) count;
        room = omega arith;
        rows =
            λ j q.
            row_set (λ (i : ℕ) p. RowHolds (Joined g ∷ c) (taken i) m days i p) s n
            (admitted_row g) j room (row_joined g own f)
            (λ ne. row_still c (Joined g ∷ c) (taken j) m days j (row_at s j)
            (same_older g c j (omega arith)) (h.rows j (omega arith)));
        later = λ k q. h.later k (omega arith);
      }

  -- A reading taken or withdrawn at point k: taken' are then the readings taken last.

  pub sheet_slipped : (taken' : ℕ → ℕ) (k slip v : ℕ) → k < n →
      dial_fits (row_at s k).digits v ≡ true → (slip ≢ 0 → v ≡ taken' k) →
      ((j : ℕ) → j ≢ k → taken j ≡ taken' j) → Sheet c taken' n m days
      (set s k (row_with_slip (row_at s k) slip v))
  sheet_slipped taken' k slip v there dial now others =
      let p = row_at s k in
      let r = h.rows k there in
      let x = row_with_slip p slip v in
      let len = length-set s k x in
      let room = h.room in
      record {
        count = h.count;
        room = omega arith;
        rows =
            λ j q.
            row_set (λ (i : ℕ) w. RowHolds c (taken' i) m days i w) s k x j (omega arith)
            (record {
              agrees = agrees_slipped c k p slip v r.agrees;
              owned = r.owned;
              fits = fits_slipped days p slip v dial r.fits;
              kept = now;
            })
            (λ ne. subst (λ (y : ℕ). RowHolds c y m days j (row_at s j)) (others j ne)
            (h.rows j q));
        later = h.later;
      }

  -- The reading of point k booked, and the point then trader t's.

  pub sheet_booked : (k t : ℕ) (z : ℤ) → k < n → t < m → (row_at s k).slip ≢ 0 →
      Sheet (ReadingBooked (record { point = k; reading = taken k; trader = t; correction = z }) ∷
      c) taken n m days (set s k (booked_row (row_at s k) t))
  unfolding shares_since
  sheet_booked k t z there own some =
      let b : Booking = record { point = k; reading = taken k; trader = t; correction = z } in
      let c' = ReadingBooked b ∷ c in
      let p = row_at s k in
      let r = h.rows k there in
      let len = length-set s k (booked_row p t) in
      let room = h.room in
      record {
        count = h.count;
        room = omega arith;
        rows =
            λ j q.
            row_set (λ (i : ℕ) w. RowHolds c' (taken i) m days i w) s k (booked_row p t) j
            (omega arith)
            (record {
              agrees = agrees_booked c k (taken k) p (r.kept some) r.agrees t z;
              owned = own;
              fits = fits_booked days p t r.fits;
              kept = λ none. absurd (none refl);
            })
            (λ ne. row_still c c' (taken j) m days j (row_at s j) (same_other c b j ne)
            (h.rows j q));
        later = λ j q. cond_both (eqb j k) 0 (shares_since c j) (λ x. x ≡ 0) (λ e. refl)
            (λ e. h.later j q);
      }

  -- A day shared out; factors: what the profile gave for each segment.

  pub sheet_shared : (d : SharedDay) (factors : ℕ → Factors) → length d.shares ≡ n →
      ((k : ℕ) → get_or d.shares k 0 ≤ 1_000_000_000) →
      ((k : ℕ) → (factors k).multiplier ≤ 10_000_000) →
      ((k : ℕ) → factors k ≡ d.tells k d.day.weather) →
      Sheet (DayShared d ∷ c) taken n m (days + 1) (shared_rows factors s d.shares n)
  unfolding shares_since
  sheet_shared d factors len few small is =
      let qs = d.shares in
      let count = h.count in
      let long = length_shared_rows factors s qs n in
      let room = h.room in
      record {
        count = count;
        room = omega arith;
        rows =
            λ k q.
            let r = h.rows k q in
            let p = row_at s k in
            let y = (factors p.segment).multiplier in
            let most = few k in
            let top = small p.segment in
            let had = r.fits.shares in
            let was = r.fits.period in
            let same : y ≡ (factors_for c d k).multiplier =
            ap (λ (f : Factors). f.multiplier) (is p.segment
            ∙ ap (λ (j : ℕ). d.tells j d.day.weather) r.agrees.segment)
            in
            subst (RowHolds (DayShared d ∷ c) (taken k) m (days + 1) k)
            (sym (row_shared_rows factors s qs n k room q))
            (record {
              agrees = agrees_shared c d k y p (omega arith) same r.agrees;
              owned = r.owned;
              fits = record {
                particulars = r.fits.particulars;
                kept = r.fits.kept;
                shares = omega arith;
                period = omega arith;
              };
              kept = r.kept;
            });
        later = λ k q. let a = h.later k q in let b : get_or qs k 0
            ≡ 0 = get_or_past qs k 0 (omega arith) in omega arith;
      }

  -- The sheet is the ledger's own.

  pub sheet_own : m ≤ max_traders → days ≤ 4000 → list_all (may_book m) (take n s) ≡ true
  sheet_own few most =
      all_of_rows (may_book m) s n h.room (λ k q. let r = h.rows k q in
      row_books m days (row_at s k) few r.owned most r.fits)

  pub sheet_ready : m ≤ max_traders → days + 1 ≤ 4000 → list_all (may_share m) (take n s) ≡ true
  sheet_ready few most =
      all_of_rows (may_share m) s n h.room (λ k q. let r = h.rows k q in
      row_shares m days (row_at s k) few r.owned most r.fits)
