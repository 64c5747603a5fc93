-- The charge on a balance with offers: a deviation is inside where it is at most the tolerance or
-- at most the offers; beyond both it is charged, less the larger of the two.
use Rattle.std.specs.Prelude.{ℕ, ◌-◌, max, Bool, if◌then◌else◌, ◌&&◌, ◌||◌, nat_le}
use Rattle.charges.specs.Balance.{balance_fits, is_surplus, balance_deviation, balance_tolerance, is_balance_inside}
use Rattle.charges.specs.Offers.{offers_fit, total}
use Rattle.charges.specs.declared.balance.Balance.{Balance}
use Rattle.charges.specs.declared.balance.Offers.{Offers}
use Rattle.charges.specs.declared.balance.OfferedBalance.{OfferedBalance}

-- A balance with its negative, then its positive offers.
abbrev pub offered_balance_of : Balance → Offers → Offers → OfferedBalance
offered_balance_of balance negative positive =
    record { balance = balance; negative = negative; positive = positive }

-- All six quantities are in their limit.
abbrev pub offered_balance_fits : OfferedBalance → Bool
offered_balance_fits b = balance_fits b.balance && offers_fit b.negative && offers_fit b.positive

-- The offers that a balance may use: a surplus the negative ones, a deficit the positive ones.
abbrev pub usable_offers : OfferedBalance → ℕ
usable_offers b = if is_surplus b.balance then total b.negative else total b.positive

-- The deviation that is free of charge.
abbrev pub offered_balance_allowance : OfferedBalance → ℕ
offered_balance_allowance b = max (balance_tolerance b.balance) (usable_offers b)

abbrev pub is_offered_balance_inside : OfferedBalance → Bool
is_offered_balance_inside b =
    is_balance_inside b.balance || nat_le (balance_deviation b.balance) (usable_offers b)

abbrev pub offered_balance_charge : OfferedBalance → ℕ
offered_balance_charge b = balance_deviation b.balance - offered_balance_allowance b
