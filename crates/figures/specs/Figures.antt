-- Figures worked out by hand, and what the definitions give: one table for every crate.
use Rattle.std.specs.Prelude.{◌≡◌, ℕ, [], ◌∷◌, negsuc, Ok}
use Rattle.shares.specs.Laws.{guarded_rule}
use Rattle.shares.specs.Rules.{running_shares, largest_remainder_shares}
use Rattle.profiles.specs.Layers.{scaled_factor}
use Rattle.rows.specs.declared.point.Particulars.{Particulars}
use Rattle.rows.specs.Rows.{profile_consumption}
use Rattle.rows.specs.Bookings.{consumption_to, correction_of, scale_factor_after}
use Rattle.ledger.specs.Days.{loss_of, quantity_of}
use Rattle.charges.specs.Nomination.{nomination_of, nomination_charge}
use Rattle.charges.specs.Balance.{balance_of, balance_charge}
use Rattle.charges.specs.declared.balance.Offers.{Offers}
use Rattle.charges.specs.Offers.{total}
use Rattle.charges.specs.OfferedBalance.{offered_balance_of, offered_balance_charge}
use Rattle.calendar.specs.Days.{day_number}

pub record Figures : Type 0 where
  -- 100 litres among three equal weights: by the running rule the last gets the odd litre, by
  -- largest remainder the first
  pub equal_running : guarded_rule running_shares 100 (1 ∷ 1 ∷ 1 ∷ []) ≡ 33 ∷ 33 ∷ 34 ∷ []
  pub equal_largest : guarded_rule largest_remainder_shares 100 (1 ∷ 1 ∷ 1 ∷ []) ≡ 34 ∷ 33 ∷ 33 ∷ []
  -- 4 litres by weights 2 and 3
  pub unequal_running : guarded_rule running_shares 4 (2 ∷ 3 ∷ []) ≡ 1 ∷ 3 ∷ []
  pub unequal_largest : guarded_rule largest_remainder_shares 4 (2 ∷ 3 ∷ []) ≡ 2 ∷ 2 ∷ []
  -- a day with an inflow of 1,000,000 litres and a loss rate of 20,000 millionths: its loss
  pub loss : loss_of 1_000_000 20_000 ≡ 20_000
  -- with 380,000 litres metered on that day: what is left to share
  pub quantity : quantity_of 1_000_000 20_000 380_000 ≡ 600_000
  -- day factor 764,445: the profile consumptions of two points with scale factors 1,000,000 and
  -- 500,000
  pub consumption_whole : profile_consumption 1_000_000 764_445 ≡ 76_444
  pub consumption_half : profile_consumption 500_000 764_445 ≡ 38_222
  -- the two points' shares of that day, by either rule
  pub day_running :
      guarded_rule running_shares 600_000 (76_444 ∷ 38_222 ∷ []) ≡ 400_000 ∷ 200_000 ∷ []
  pub day_largest :
      guarded_rule largest_remainder_shares 600_000 (76_444 ∷ 38_222 ∷ []) ≡ 400_000 ∷ 200_000 ∷ []
  -- a day factor of 962,833 under a season number of 5,000,000
  pub season : scaled_factor 962_833 5_000_000 ≡ 481_416
  -- a dial of 5 digits and 1,000 litres per unit that went from 99,990 over zero to 15, whatever
  -- the point's other particulars
  pub rolled_over : (g : Particulars) →
      consumption_to (record g { digits = 5; litres_per_unit = 1_000; reading = 99_990 }) 15
      ≡ 25_000
  -- 25,000 litres consumed where 30,000 were shared: the correction is -5,000 (negsuc 4,999)
  pub correction : correction_of 25_000 30_000 ≡ negsuc 4_999
  -- 25,000 litres consumed over a period sum of 764,445: the new scale factor, whatever the old one
  pub scale_factor : (old : ℕ) → scale_factor_after old 25_000 764_445 ≡ 327_034
  -- 1,000 MJ nominated: 1,120 are inside the 12 per cent, and 1,121 are charged for one
  pub nomination_inside : nomination_charge (nomination_of 1_000 1_120) ≡ 0
  pub nomination_charged : nomination_charge (nomination_of 1_000 1_121) ≡ 1
  -- source 5,049 and a difference of 101: the 2 per cent, rounded down, cover 100
  pub balance : balance_charge (balance_of 5_049 4_948) ≡ 1
  -- source 10,000, consumption 9,000, negative offers of 700 together, whatever the positive ones
  pub offers : (negative positive : Offers) → total negative ≡ 700 →
      offered_balance_charge (offered_balance_of (balance_of 10_000 9_000) negative positive) ≡ 300
  -- 1 October 2009
  pub gas_year : day_number (record { year = 2009; month = 10; day = 1 }) ≡ Ok 3_561
