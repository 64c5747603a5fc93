-- What `fair` says, part by part.
use Rattle.std.specs.Prelude.{◌≡◌, ℕ, ◌<◌, ◌≤◌, true, List, length, sum, nat_le}
use Rattle.std.specs.List.{list_all}
use Rattle.std.proofs.Common.{arith}
use Rattle.std.proofs.lemmas.Bool.Decides.{nat_tests}
use Rattle.shares.specs.Fair.{max_quantity, max_weights, max_weight, fair}

pub record IsFair (a : ℕ) (ws : List ℕ) : Type 0 where
  pub quantity : a ≤ max_quantity
  pub count : length ws ≤ max_weights
  pub weights : list_all (λ w. nat_le w max_weight) ws ≡ true
  pub some : 0 < sum ws

pub fair_parts : (a : ℕ) (ws : List ℕ) → fair a ws ≡ true → IsFair a ws
unfolding fair
fair_parts a ws h = record {
  quantity = grind (arith, nat_tests);
  count = grind (arith, nat_tests);
  weights = grind (arith, nat_tests);
  some = grind (arith, nat_tests);
}
