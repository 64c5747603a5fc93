-- The offers of one direction.
use Rattle.std.specs.Prelude.{ℕ, ◌+◌, Bool}
use Rattle.charges.specs.Quantity.{both_fit}
use Rattle.charges.specs.declared.balance.Offers.{Offers}

-- The offers of two numbers of MJ: HEG, then HEGO.
abbrev pub offers_of : ℕ → ℕ → Offers
offers_of heg hego = record { heg = heg; hego = hego }

-- Both kinds are in their limit.
abbrev pub offers_fit : Offers → Bool
offers_fit o = both_fit o.heg o.hego

-- Both kinds together.
abbrev pub total : Offers → ℕ
total o = o.heg + o.hego
