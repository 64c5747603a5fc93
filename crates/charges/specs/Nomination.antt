-- The charge on what was drawn beside a nomination: 12 per cent of what was nominated are
-- tolerated. In this and the other rules `-` stops at zero.
use Rattle.std.specs.Prelude.{ℕ, ◌-◌, Bool, nat_le}
use Rattle.std.specs.Int.{abs_diff}
use Rattle.charges.specs.Quantity.{both_fit}
use Rattle.charges.specs.Tolerance.{tolerance}
use Rattle.charges.specs.declared.nomination.Nomination.{Nomination}

-- The nomination of two numbers of MJ: nominated, then drawn.
abbrev pub nomination_of : ℕ → ℕ → Nomination
nomination_of nominated actual = record { nominated = nominated; actual = actual }

-- Both quantities are in their limit.
abbrev pub nomination_fits : Nomination → Bool
nomination_fits n = both_fit n.nominated n.actual

abbrev pub nomination_deviation : Nomination → ℕ
nomination_deviation n = abs_diff n.actual n.nominated

abbrev pub nomination_tolerance : Nomination → ℕ
nomination_tolerance n = tolerance n.nominated 12

abbrev pub is_nomination_inside : Nomination → Bool
is_nomination_inside n = nat_le (nomination_deviation n) (nomination_tolerance n)

abbrev pub nomination_charge : Nomination → ℕ
nomination_charge n = nomination_deviation n - nomination_tolerance n
