-- Each figure by working out both sides.
use Rattle.std.proofs.Common.{◌≡◌, ℕ, ◌-◌, max, refl, ap, ◌∙◌, Ok, rules}
use Rattle.shares.specs.Fair.{fair}
use Rattle.shares.specs.Rules.{share_up_to, running_share, running_shares}
use Rattle.shares.specs.Rules.{floors, remainders, litres_left, places_ahead}
use Rattle.shares.specs.Rules.{largest_remainder_share, largest_remainder_shares}
use Rattle.calendar.specs.Days.{days_before_month, days_before_year}
use Rattle.figures.proofs.figures_hold.Goals as goal

pub returns-clause-figures : goal.returns-clause-figures
unfolding fair share_up_to running_share running_shares floors remainders litres_left places_ahead
    largest_remainder_share largest_remainder_shares days_before_month days_before_year
returns-clause-figures c =
    record {
      equal_running = refl;
      equal_largest = refl;
      unequal_running = refl;
      unequal_largest = refl;
      loss = refl;
      quantity = refl;
      consumption_whole = refl;
      consumption_half = refl;
      day_running = refl;
      day_largest = refl;
      season = refl;
      rolled_over = λ g. refl;
      correction = refl;
      scale_factor = λ old. refl;
      nomination_inside = refl;
      nomination_charged = refl;
      balance = refl;
      offers = λ negative positive is. ap (λ (n : ℕ). 1_000 - max 200 n) is;
      gas_year = refl;
    }

pub returns-clause-day : goal.returns-clause-day
unfolding days_before_month days_before_year
returns-clause-day c = let r : c.number.result ≡ Ok 3_561 = c.number.ensures.value ∙ refl in
    search (rules, r)
