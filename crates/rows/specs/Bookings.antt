-- What a booking makes of a row.
use Rattle.std.specs.Prelude.{ℕ, ◌+◌, ◌-◌, ◌*◌, ◌/◌, ◌^◌, min, Bool, cond, not, ◌&&◌, ℤ, pos, ◌-ℤ◌, ◌==◌, nat_lt}
use Rattle.profiles.specs.Laws.{whole}
use Rattle.rows.specs.declared.point.Point.{Point}
use Rattle.rows.specs.declared.point.Particulars.{Particulars}
use Rattle.rows.specs.Limits.{max_scale_factor}
use Rattle.rows.specs.Rows.{row_fits, particulars_of}

-- The trade's rules.

-- how far a dial of some digits went between two readings: it starts again at zero after 10 to the
-- power of digits
abbrev pub dial_advance : ℕ → ℕ → ℕ → ℕ
dial_advance digits old new = cond (nat_lt new old) (new + 10 ^ digits - old) (new - old)

-- the litres consumed from the reading in the particulars to a new one
abbrev pub consumption_to : Particulars → ℕ → ℕ
consumption_to g new = dial_advance g.digits g.reading new * g.litres_per_unit

-- what a booking moves: the consumption read less the shares since the last booking
abbrev pub correction_of : ℕ → ℕ → ℤ
correction_of consumption open_sum = pos consumption -ℤ pos open_sum

-- the scale factor after a booking: the consumption by the multipliers since the last one; it stays
-- where these sum to zero
abbrev pub scale_factor_after : ℕ → ℕ → ℕ → ℕ
scale_factor_after scale consumption period =
    cond (nat_lt 0 period) (min max_scale_factor (consumption * whole / period)) scale

-- Rows.

-- a row with this slip and kept reading
abbrev pub row_with_slip : Point → ℕ → ℕ → Point
row_with_slip p slip kept = record p { slip = slip; kept_reading = kept }

-- the litres consumed since the last booking, by the reading that the row keeps
abbrev pub kept_consumption : Point → ℕ
kept_consumption p = consumption_to (particulars_of p) p.kept_reading

-- what booking the kept reading moves
abbrev pub kept_correction : Point → ℤ
kept_correction p = correction_of (kept_consumption p) p.open_sum

-- a row after its kept reading was booked, and the trader who has it then
abbrev pub booked_row : Point → ℕ → Point
booked_row p trader =
    record p {
      trader = trader;
      reading = p.kept_reading;
      scale_factor = scale_factor_after p.scale_factor (kept_consumption p) p.period_sum;
      open_sum = 0;
      period_sum = 0;
      slip = 0;
      kept_reading = 0;
    }

-- this number is the row's open slip
abbrev pub is_slip_of : Point → ℕ → Bool
is_slip_of p number = not (p.slip == 0) && p.slip == number

-- a row that can be booked: in its ranges, of an admitted trader
abbrev pub may_book : ℕ → Point → Bool
may_book traders p = row_fits p && nat_lt p.trader traders
