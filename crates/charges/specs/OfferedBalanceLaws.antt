-- A balance with offers is inside exactly where its deviation is at most its allowance.
use Rattle.std.proofs.Common.{◌≡◌, leb, arith}
use Rattle.std.proofs.lemmas.Bool.Decides.{nat_tests}
use Rattle.charges.specs.Balance.{balance_deviation}
use Rattle.charges.specs.OfferedBalance.{offered_balance_allowance, is_offered_balance_inside}
use Rattle.charges.specs.declared.balance.OfferedBalance.{OfferedBalance}

pub is_offered_balance_inside_lem :
    (b : OfferedBalance)
    → is_offered_balance_inside b
    ≡ leb (balance_deviation b.balance) (offered_balance_allowance b)
is_offered_balance_inside_lem b = grind (arith, nat_tests)
