-- A row in its ranges: how far its dial can have gone, what its point can have consumed, and what a
-- booking can move.
use Rattle.std.proofs.Common.{◌≡◌, ℕ, ◌+◌, ◌-◌, ◌^◌, ◌<◌, ◌≤◌, true, ltb, mul-le-mul, arith}
use native.Mathlib.Nat.{pow-le-pow_right, min-le_left}
use Rattle.std.proofs.lemmas.Int.{ints}
use Rattle.std.proofs.lemmas.Bool.{ltb-true, ltb-false, leb-true, and_parts, cond_both}
use Rattle.rows.specs.declared.point.Point.{Point}
use Rattle.rows.specs.declared.point.Particulars.{Particulars}
use Rattle.rows.specs.Within.{IsWithin}
use Rattle.rows.specs.Limits.{max_traders, max_scale_factor, max_open_sum, max_period_sum, max_correction}
use Rattle.rows.specs.Bookings.{dial_advance, scale_factor_after, kept_consumption, kept_correction}
use Rattle.rows.specs.Rows.{row_fits, particulars_fit, particulars_of}

-- what the test of the particulars says
pub record ParticularsFit (g : Particulars) : Type 0 where
  pub segments : g.segment < 8
  pub least : 4 ≤ g.digits
  pub most : g.digits ≤ 8
  pub unit : 1 ≤ g.litres_per_unit
  pub litres_most : g.litres_per_unit ≤ 2000
  pub dial : g.reading < 10 ^ g.digits
  pub scale_most : g.scale_factor ≤ max_scale_factor

pub tested_particulars : (g : Particulars) → particulars_fit g ≡ true → ParticularsFit g
tested_particulars given e =
    let a = and_parts _ _ e in
    let b = and_parts _ _ a.1 in
    let c = and_parts _ _ b.1 in
    let d = and_parts _ _ c.1 in
    let f = and_parts _ _ d.1 in
    let g = and_parts _ _ f.1 in
    record {
      segments = ltb-true _ _ a.0;
      least = leb-true _ _ b.0;
      most = leb-true _ _ c.0;
      unit = leb-true _ _ d.0;
      litres_most = leb-true _ _ f.0;
      dial = ltb-true _ _ g.0;
      scale_most = leb-true _ _ g.1;
    }

-- what the test of a row says
pub record RowFits (p : Point) : Type 0 where
  pub trader : p.trader < max_traders
  pub particulars : ParticularsFit (particulars_of p)
  pub kept : p.kept_reading < 10 ^ p.digits
  pub open_sum : p.open_sum ≤ max_open_sum
  pub period_sum : p.period_sum ≤ max_period_sum

pub tested_row : (p : Point) → row_fits p ≡ true → RowFits p
tested_row p e =
    let a = and_parts _ _ e in
    let b = and_parts _ _ a.1 in
    let c = and_parts _ _ b.1 in
    let d = and_parts _ _ c.1 in
    record {
      trader = ltb-true _ _ a.0;
      particulars = tested_particulars _ b.0;
      kept = ltb-true _ _ c.0;
      open_sum = leb-true _ _ d.0;
      period_sum = leb-true _ _ d.1;
    }

-- a dial has at most eight digits
pub dial_small : (digits : ℕ) → digits ≤ 8 → 10 ^ digits ≤ 100_000_000
dial_small digits h = pow-le-pow_right {n = 10} (omega arith) {i = digits} {j = 8} h

-- a dial goes less than once round between two readings
pub dial_advance_below : (digits old new : ℕ) → old < 10 ^ digits → new < 10 ^ digits →
    dial_advance digits old new < 10 ^ digits
dial_advance_below digits old new a b =
    cond_both (ltb new old) (new + 10 ^ digits - old) (new - old) (λ x. x < 10 ^ digits)
    (λ e. let lt = ltb-true _ _ e in omega arith)
    (λ e. let ge = ltb-false _ _ e in omega arith)

pub dial_advance_small : (p : Point) → row_fits p ≡ true →
    dial_advance p.digits p.reading p.kept_reading ≤ 100_000_000
dial_advance_small p e =
    let r = tested_row p e in
    let a = dial_advance_below p.digits p.reading p.kept_reading r.particulars.dial r.kept in
    let b = dial_small p.digits r.particulars.most in
    omega arith

pub consumption_small : (p : Point) → row_fits p ≡ true → kept_consumption p ≤ 200_000_000_000
consumption_small p e = mul-le-mul (dial_advance_small p e) (tested_row p e).particulars.litres_most

-- consumption and open sum are both at most what a booking can move
pub correction_within : (p : Point) → row_fits p ≡ true →
    IsWithin (kept_correction p) max_correction
correction_within p e =
    let a = consumption_small p e in
    let b = (tested_row p e).open_sum in
    record { high = omega (arith, ints); low = omega (arith, ints) }

-- a booking leaves a scale factor within its limit
pub scale_factor_after_small : (scale consumption period : ℕ) → scale ≤ max_scale_factor →
    scale_factor_after scale consumption period ≤ max_scale_factor
scale_factor_after_small scale consumption period h =
    cond_both (ltb 0 period) _ scale (λ x. x ≤ max_scale_factor)
    (λ e. min-le_left max_scale_factor _)
    (λ e. h)
