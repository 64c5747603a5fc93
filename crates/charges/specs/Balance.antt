-- The charge on a balance without offers: 2 per cent of the source are tolerated.
use Rattle.std.specs.Prelude.{ℕ, ◌-◌, Bool, nat_le}
use Rattle.std.specs.Int.{abs_diff}
use Rattle.charges.specs.Quantity.{both_fit}
use Rattle.charges.specs.Tolerance.{tolerance}
use Rattle.charges.specs.declared.balance.Balance.{Balance}

-- The balance of two numbers of MJ: what the source gave, then what was consumed.
abbrev pub balance_of : ℕ → ℕ → Balance
balance_of source consumption = record { source = source; consumption = consumption }

-- Both quantities are in their limit.
abbrev pub balance_fits : Balance → Bool
balance_fits b = both_fit b.source b.consumption

-- The source is not below the consumption.
abbrev pub is_surplus : Balance → Bool
is_surplus b = nat_le b.consumption b.source

abbrev pub balance_deviation : Balance → ℕ
balance_deviation b = abs_diff b.source b.consumption

abbrev pub balance_tolerance : Balance → ℕ
balance_tolerance b = tolerance b.source 2

abbrev pub is_balance_inside : Balance → Bool
is_balance_inside b = nat_le (balance_deviation b) (balance_tolerance b)

abbrev pub balance_charge : Balance → ℕ
balance_charge b = balance_deviation b - balance_tolerance b
