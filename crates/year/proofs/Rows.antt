-- The row of one point is what the settlements give for it, with one settlement more as well, and
-- within its ranges.
use Rattle.std.proofs.Common.{◌≡◌, ℕ, ◌+◌, ◌*◌, ◌^◌, ◌<◌, ◌≤◌, Bool, true, false, eqb, ltb, leb, ◌≢◌, List, [], ◌∷◌, get_or, ℤ, sym, refl, ap, ◌∙◌, arith}
use native.Mathlib.Nat.{one-le-pow}
use Rattle.std.proofs.lemmas.Bool.{lt-ltb, le-ltb, le-leb, eq-eqb, ne_eqb, and_from, cond-true, cond-false, cond_both}
use Rattle.rows.specs.declared.point.Particulars.{Particulars}
use Rattle.rows.specs.declared.point.Point.{Point}
use Rattle.rows.specs.Limits.{max_traders, max_scale_factor, max_open_sum, full_open_sum}
use Rattle.rows.specs.Bookings.{dial_advance, correction_of, scale_factor_after, row_with_slip, kept_consumption, kept_correction, booked_row, may_book}
use Rattle.rows.specs.Rows.{dial_fits, particulars_fit, particulars_of, row_fits, may_share, admitted_row, shared_row}
use Rattle.rows.proofs.Corrections.{ParticularsFit, tested_particulars, scale_factor_after_small}
use Rattle.year.specs.Settlements.{SharedDay, Booking, Settlement, Joined, DayShared, ReadingBooked, points_in, trader_of}
use Rattle.year.specs.Quantities.{given_for, factors_for, shares_since, period_of, reading_of, consumption_at, scale_factor_of}
use Rattle.year.specs.Law.{RowAgrees}

-- Settlements that give for a point what those before gave.

pub record SameAt (c' c : List Settlement) (k : ℕ) : Type 0 where
  pub trader : trader_of c' k ≡ trader_of c k
  pub given : given_for c' k ≡ given_for c k
  pub reading : reading_of c' k ≡ reading_of c k
  pub scale : scale_factor_of c' k ≡ scale_factor_of c k
  pub shares : shares_since c' k ≡ shares_since c k
  pub period : period_of c' k ≡ period_of c k

-- another point joined
pub same_older : (g : Particulars) (c : List Settlement) (k : ℕ) → k < points_in c →
    SameAt (Joined g ∷ c) c k
unfolding given_for reading_of scale_factor_of shares_since period_of
same_older g c k h =
    let e : eqb k (points_in c) ≡ false = ne_eqb _ _ (λ q. omega arith) in
    record {
      trader = cond-false _ _ _ e;
      given = cond-false _ _ _ e;
      reading = cond-false _ _ _ e;
      scale = cond-false _ _ _ e;
      shares = refl;
      period = refl;
    }

-- another point was booked
pub same_other : (c : List Settlement) (b : Booking) (j : ℕ) → j ≢ b.point →
    SameAt (ReadingBooked b ∷ c) c j
unfolding given_for reading_of scale_factor_of shares_since period_of
same_other c b j ne =
    let e : eqb j b.point ≡ false = ne_eqb j b.point ne in
    record {
      trader = cond-false _ _ _ e;
      given = refl;
      reading = cond-false _ _ _ e;
      scale = cond-false _ _ _ e;
      shares = cond-false _ _ _ e;
      period = cond-false _ _ _ e;
    }

pub agrees_still : (c c' : List Settlement) (k : ℕ) (p : Point) → SameAt c' c k → RowAgrees c k p →
    RowAgrees c' k p
agrees_still c c' k p e a =
    let given = sym e.given in
    record {
      trader = a.trader ∙ sym e.trader;
      segment = a.segment ∙ ap (λ (x : Particulars). x.segment) given;
      digits = a.digits ∙ ap (λ (x : Particulars). x.digits) given;
      litres = a.litres ∙ ap (λ (x : Particulars). x.litres_per_unit) given;
      reading = a.reading ∙ sym e.reading;
      scale = a.scale ∙ sym e.scale;
      shares = a.shares ∙ sym e.shares;
      period = a.period ∙ sym e.period;
    }

-- A point joined.

period_later : (c : List Settlement) (k : ℕ) → points_in c ≤ k → period_of c k ≡ 0
unfolding period_of
period_later [] k h = refl
period_later (Joined g ∷ c) k h = period_later c k (omega arith)
period_later (DayShared d ∷ c) k h = cond-false _ _ _ (le-ltb k (points_in c) h)
    ∙ period_later c k h
period_later (ReadingBooked b ∷ c) k h =
    cond_both (eqb k b.point) 0 (period_of c k) (λ x. x ≡ 0) (λ e. refl) (λ e. period_later c k h)

pub agrees_joined : (g : Particulars) (c : List Settlement) → shares_since c (points_in c) ≡ 0 →
    RowAgrees (Joined g ∷ c) (points_in c) (admitted_row g)
unfolding given_for reading_of scale_factor_of shares_since period_of
agrees_joined g c none =
    let e : eqb (points_in c) (points_in c) ≡ true = eq-eqb _ _ refl in
    let given : g ≡ given_for (Joined g ∷ c) (points_in c) = sym (cond-true _ g _ e) in
    record {
      trader = sym (cond-true _ _ _ e);
      segment = ap (λ (x : Particulars). x.segment) given;
      digits = ap (λ (x : Particulars). x.digits) given;
      litres = ap (λ (x : Particulars). x.litres_per_unit) given;
      reading = sym (cond-true _ _ _ e);
      scale = sym (cond-true _ _ _ e);
      shares = sym none;
      period = sym (period_later c (points_in c) (omega arith));
    }

-- A day shared out.

pub agrees_shared : (c : List Settlement) (d : SharedDay) (k y : ℕ) (p : Point) → k < points_in c →
    y ≡ (factors_for c d k).multiplier → RowAgrees c k p →
    RowAgrees (DayShared d ∷ c) k (shared_row p (get_or d.shares k 0) y)
unfolding given_for reading_of scale_factor_of shares_since period_of
agrees_shared c d k y p h f a =
    let sum : p.period_sum + y ≡ period_of c k + (factors_for c d k).multiplier = λ i.
    a.period i + f i in
    record {
      trader = a.trader;
      segment = a.segment;
      digits = a.digits;
      litres = a.litres;
      reading = a.reading;
      scale = a.scale;
      shares = ap (λ (n : ℕ). n + get_or d.shares k 0) a.shares;
      period = sum ∙ sym (cond-true _ _ _ (lt-ltb k (points_in c) h));
    }

-- A reading taken or withdrawn.

pub agrees_slipped : (c : List Settlement) (k : ℕ) (p : Point) (slip v : ℕ) → RowAgrees c k p →
    RowAgrees c k (row_with_slip p slip v)
agrees_slipped c k p slip v a =
    record {
      trader = a.trader;
      segment = a.segment;
      digits = a.digits;
      litres = a.litres;
      reading = a.reading;
      scale = a.scale;
      shares = a.shares;
      period = a.period;
    }

-- A reading booked.

module _ (c : List Settlement) (k v : ℕ) (p : Point) (kept : p.kept_reading ≡ v)
    (a : RowAgrees c k p) where
  consumption_is : kept_consumption p ≡ consumption_at c k v
  consumption_is = λ i. dial_advance (a.digits i) (a.reading i) (kept i) * a.litres i

  -- what a booking moves, from the settlements alone
  pub correction_is : kept_correction p ≡ correction_of (consumption_at c k v) (shares_since c k)
  correction_is = λ i. correction_of (consumption_is i) (a.shares i)

  pub agrees_booked : (t : ℕ) (z : ℤ) → RowAgrees (ReadingBooked
      (record { point = k; reading = v; trader = t; correction = z }) ∷ c) k (booked_row p t)
  unfolding given_for reading_of scale_factor_of shares_since period_of
  agrees_booked t z =
      let e : eqb k k ≡ true = eq-eqb k k refl in
      let scale : scale_factor_after p.scale_factor (kept_consumption p) p.period_sum
      ≡ scale_factor_after (scale_factor_of c k) (consumption_at c k v) (period_of c k) =
      λ i. scale_factor_after (a.scale i) (consumption_is i) (a.period i)
      in
      record {
        trader = sym (cond-true _ _ _ e);
        segment = a.segment;
        digits = a.digits;
        litres = a.litres;
        reading = kept ∙ sym (cond-true _ _ _ e);
        scale = scale ∙ sym (cond-true _ _ _ e);
        shares = sym (cond-true _ _ _ e);
        period = sym (cond-true _ _ _ e);
      }

-- Ranges.

-- a row's particulars are in their ranges
abbrev pub is_fit : Point → Bool
is_fit p = particulars_fit (particulars_of p)

-- a row within its ranges, after some days shared out
pub record RowFitsAfter (days : ℕ) (p : Point) : Type 0 where
  pub particulars : is_fit p ≡ true
  pub kept : dial_fits p.digits p.kept_reading ≡ true
  pub shares : p.open_sum ≤ days * 1_000_000_000
  pub period : p.period_sum ≤ days * 10_000_000

pub dial_zero : (digits : ℕ) → dial_fits digits 0 ≡ true
dial_zero digits = lt-ltb 0 (10 ^ digits) (one-le-pow digits 10 (omega arith))

pub fits_new : (g : Particulars) (days : ℕ) → is_fit (admitted_row g) ≡ true →
    RowFitsAfter days (admitted_row g)
fits_new g days f =
    record {
      particulars = f;
      kept = dial_zero g.digits;
      shares = omega arith;
      period = omega arith;
    }

pub fits_slipped : (days : ℕ) (p : Point) (slip v : ℕ) → dial_fits p.digits v ≡ true →
    RowFitsAfter days p → RowFitsAfter days (row_with_slip p slip v)
fits_slipped days p slip v dial f =
    record { particulars = f.particulars; kept = dial; shares = f.shares; period = f.period }

-- what the test of a row's particulars says
pub row_fitting : (p : Point) → is_fit p ≡ true → ParticularsFit (particulars_of p)
row_fitting p e = tested_particulars (particulars_of p) e

-- with the kept reading in the place of the last one, and another scale factor within its limit
particulars_booked : (days : ℕ) (p : Point) (x : ℕ) → RowFitsAfter days p → x ≤ max_scale_factor →
    particulars_fit (record (particulars_of p) { reading = p.kept_reading; scale_factor = x })
    ≡ true
particulars_booked days p x f small =
    let q = row_fitting p f.particulars in
    and_from (ltb p.segment 8) _ (lt-ltb _ _ q.segments)
    (and_from (leb 4 p.digits) _ (le-leb _ _ q.least)
    (and_from (leb p.digits 8) _ (le-leb _ _ q.most)
    (and_from (leb 1 p.litres_per_unit) _ (le-leb _ _ q.unit)
    (and_from (leb p.litres_per_unit 2000) _ (le-leb _ _ q.litres_most)
    (and_from (dial_fits p.digits p.kept_reading) _ f.kept (le-leb _ _ small))))))

pub fits_booked : (days : ℕ) (p : Point) (t : ℕ) → RowFitsAfter days p →
    RowFitsAfter days (booked_row p t)
fits_booked days p t f =
    let most = (row_fitting p f.particulars).scale_most in
    let scale = scale_factor_after p.scale_factor (kept_consumption p) p.period_sum in
    record {
      particulars = particulars_booked days p scale f
          (scale_factor_after_small p.scale_factor (kept_consumption p) p.period_sum most);
      kept = dial_zero p.digits;
      shares = omega arith;
      period = omega arith;
    }

row_ranges : (m days : ℕ) (p : Point) → m ≤ max_traders → p.trader < m → days ≤ 4000 →
    RowFitsAfter days p → row_fits p ≡ true
row_ranges m days p few own most f =
    let a = f.shares in
    let b = f.period in
    and_from (ltb p.trader max_traders) _ (lt-ltb _ _ (omega arith))
    (and_from (is_fit p) _ f.particulars
    (and_from (dial_fits p.digits p.kept_reading) _ f.kept
    (and_from (leb p.open_sum max_open_sum) _ (le-leb _ _ (omega arith))
    (le-leb _ _ (omega arith)))))

pub row_books : (m days : ℕ) (p : Point) → m ≤ max_traders → p.trader < m → days ≤ 4000 →
    RowFitsAfter days p → may_book m p ≡ true
row_books m days p few own most f = and_from (row_fits p) _ (row_ranges m days p few own most f)
    (lt-ltb _ _ own)

pub row_shares : (m days : ℕ) (p : Point) → m ≤ max_traders → p.trader < m → days + 1 ≤ 4000 →
    RowFitsAfter days p → may_share m p ≡ true
row_shares m days p few own most f =
    let a = f.shares in
    let b = f.period in
    and_from (row_fits p) _ (row_ranges m days p few own (omega arith) f)
    (and_from (ltb p.trader m) _ (lt-ltb _ _ own)
    (and_from (leb p.open_sum full_open_sum) _ (le-leb _ _ (omega arith))
    (le-leb _ _ (omega arith))))
