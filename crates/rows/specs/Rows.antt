-- The rows of a point sheet: their ranges, what a point is expected to consume, and what a
-- share-out makes of a row.
use Rattle.std.specs.Prelude.{ℕ, zero, suc, ◌+◌, ◌*◌, ◌/◌, ◌^◌, ◌<◌, ◌≤◌, Bool, true, cond, ◌&&◌, List, map, length, ◌==◌, nat_le, nat_lt, slice_index, slice_index_or, slice_set}
use Rattle.profiles.specs.declared.factors.Factors.{Factors}
use Rattle.profiles.specs.Laws.{factors_of, whole}
use Rattle.rows.specs.declared.point.Point.{Point}
use Rattle.rows.specs.declared.point.Particulars.{Particulars}
use Rattle.rows.specs.Limits.{max_traders, max_scale_factor, max_points, max_open_sum, max_period_sum, full_open_sum, full_period_sum}

-- what a reader past the end of a sheet would see; no call reads there
abbrev pub no_row : Point
no_row =
    record {
      trader = 0;
      segment = 0;
      digits = 0;
      litres_per_unit = 0;
      reading = 0;
      scale_factor = 0;
      open_sum = 0;
      period_sum = 0;
      slip = 0;
      kept_reading = 0;
    }

abbrev pub row_at : List Point → ℕ → Point
row_at s k = slice_index_or s k no_row

-- Ranges.

-- a sheet long enough for the n points admitted, and not over the limit
abbrev pub sheet_fits : ℕ → List Point → Bool
sheet_fits n s = nat_le n (length s) && nat_le (length s) max_points

-- a dial of some digits, and a reading on it
abbrev pub dial_fits : ℕ → ℕ → Bool
dial_fits digits reading = nat_lt reading (10 ^ digits)

-- the particulars of a point but for its trader
abbrev pub particulars_fit : Particulars → Bool
particulars_fit g =
    nat_lt g.segment 8
    && (nat_le 4 g.digits
    && (nat_le g.digits 8
    && (nat_le 1 g.litres_per_unit
    && (nat_le g.litres_per_unit 2000
    && (dial_fits g.digits g.reading && nat_le g.scale_factor max_scale_factor)))))

-- what a row has of the particulars that its point was admitted with, as they stand
abbrev pub particulars_of : Point → Particulars
particulars_of p =
    record {
      trader = p.trader;
      segment = p.segment;
      digits = p.digits;
      litres_per_unit = p.litres_per_unit;
      reading = p.reading;
      scale_factor = p.scale_factor;
    }

-- a row within its ranges
abbrev pub row_fits : Point → Bool
row_fits p =
    nat_lt p.trader max_traders
    && (particulars_fit (particulars_of p)
    && (dial_fits p.digits p.kept_reading
    && (nat_le p.open_sum max_open_sum && nat_le p.period_sum max_period_sum)))

-- a row that a day can be shared out to: in its ranges, of an admitted trader, with room in its
-- sums for one more day
abbrev pub may_share : ℕ → Point → Bool
may_share traders p =
    row_fits p
    && (nat_lt p.trader traders
    && (nat_le p.open_sum full_open_sum && nat_le p.period_sum full_period_sum))

-- what joining a share to a row asks of it: its trader is one of so many, and its sums are within
-- their limits
pub record IsShareable (traders : ℕ) (p : Point) : Type 0 where
  pub owned : p.trader < traders
  pub segment : p.segment < 8
  pub open_sum : p.open_sum ≤ max_open_sum
  pub period_sum : p.period_sum ≤ max_period_sum

-- no slip of the point is open
abbrev pub is_free : Point → Bool
is_free p = p.slip == 0

abbrev pub is_served : ℕ → Point → Bool
is_served segments p = nat_lt p.segment segments

-- the open sum of a row that is the trader's, and else zero
abbrev pub open_sum_of : ℕ → Point → ℕ
open_sum_of t p = cond (p.trader == t) p.open_sum 0

-- a row that is the trader's is within its ranges
abbrev pub is_summable : ℕ → Point → Bool
is_summable t p = cond (p.trader == t) (row_fits p) true

-- Admission and shares.

-- a row when its point is admitted
abbrev pub admitted_row : Particulars → Point
admitted_row g =
    record {
      trader = g.trader;
      segment = g.segment;
      digits = g.digits;
      litres_per_unit = g.litres_per_unit;
      reading = g.reading;
      scale_factor = g.scale_factor;
      open_sum = 0;
      period_sum = 0;
      slip = 0;
      kept_reading = 0;
    }

-- the factors of a segment in a list of them by segment
abbrev pub factors_at : List Factors → ℕ → Factors
factors_at factors segment = slice_index_or factors segment (factors_of 0 0)

-- a point's profile consumption, from its scale factor and the day factor
abbrev pub profile_consumption : ℕ → ℕ → ℕ
profile_consumption scale factor = scale * factor / whole

-- the profile consumptions of some rows, with the day's factors by segment
abbrev pub profile_consumptions : (ℕ → Factors) → List Point → List ℕ
profile_consumptions factors rows =
    map (λ (p : Point). profile_consumption p.scale_factor (factors p.segment).day) rows

-- a row after a day was shared out: the share joins its open sum, the multiplier its period sum
abbrev pub shared_row : Point → ℕ → ℕ → Point
shared_row p share multiplier =
    record p { open_sum = p.open_sum + share; period_sum = p.period_sum + multiplier }

-- the sheet once the first k rows have had their shares
unfoldable pub shared_rows : (ℕ → Factors) → List Point → List ℕ → ℕ → List Point
shared_rows factors s shares zero = s
shared_rows factors s shares (suc k) =
    let p = row_at s k in
    let x = shared_row p (slice_index shares k) (factors p.segment).multiplier in
    slice_set (shared_rows factors s shares k) k x
