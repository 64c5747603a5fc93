-- What the limits decide: whether `fair` holds, and that products and sums fit.
use Rattle.std.proofs.Common.{◌≡◌, ℕ, ◌*◌, ◌/◌, ◌^◌, ◌<◌, ◌≤◌, Bool, true, false, not, ltb, leb, ◌⊎◌, List, [], ◌∷◌, length, sum, refl, ⊎_elim, arith}
use Rattle.std.specs.List.{list_any, list_all, AllByRecursion}
use Rattle.std.proofs.Math.Nat.{div-le_of_le-mul}
use Rattle.std.proofs.lemmas.Nat.{mul-le}
use Rattle.std.proofs.lemmas.List.Sums.{sum_by-cons}
use Rattle.std.proofs.lemmas.Bool.Decides.{nat_tests}
use Rattle.shares.specs.Fair.{max_quantity, max_weights, max_weight, max_total, fair}
use Rattle.shares.specs.Fairness.{fair_parts}

-- no weight is above its limit
abbrev are_light : List ℕ → Bool
are_light ws = list_all (λ w. leb w max_weight) ws

-- a weight is above its limit
abbrev has_heavy : List ℕ → Bool
has_heavy ws = list_any (λ w. ltb max_weight w) ws

pub sum_limit : (ws : List ℕ) → are_light ws ≡ true → sum ws ≤ max_weight * length ws
sum_limit [] h = omega arith
sum_limit (w ∷ ws) h =
    let s = sum_by-cons (λ x. x) w ws in
    let here : w ≤ max_weight = grind (arith, nat_tests) in
    let rest : are_light ws ≡ true = grind (arith, nat_tests) in
    omega (arith, sum_limit ws rest)

are_light-not : (ws : List ℕ) → are_light ws ≡ not (has_heavy ws)
are_light-not [] = refl
are_light-not (w ∷ ws) = let rest = are_light-not ws in grind (arith, nat_tests)

are_light-all : (ws : List ℕ) → AllByRecursion (λ w. w ≤ max_weight) ws → are_light ws ≡ true
are_light-all [] h = refl
are_light-all (w ∷ ws) h =
    let here = h.0 in
    let rest = are_light-all ws h.1 in
    grind (arith, nat_tests)

pub too_much : (a : ℕ) (ws : List ℕ) → (max_quantity < a) ⊎ (max_weights < length ws) →
    fair a ws ≡ false
unfolding fair
too_much a ws h = ⊎_elim (λ p. grind (arith, nat_tests)) (λ p. grind (arith, nat_tests)) h

pub too_heavy : (a : ℕ) (ws : List ℕ) → has_heavy ws ≡ true → fair a ws ≡ false
unfolding fair
too_heavy a ws h = let e = are_light-not ws in grind (arith, nat_tests)

pub weightless : (a : ℕ) (ws : List ℕ) → sum ws ≡ 0 → fair a ws ≡ false
unfolding fair
weightless a ws h = grind (arith, nat_tests)

pub is_fair : (a : ℕ) (ws : List ℕ) → a ≤ max_quantity → length ws ≤ max_weights →
    AllByRecursion (λ w. w ≤ max_weight) ws → 0 < sum ws → fair a ws ≡ true
unfolding fair
is_fair a ws p q light r = let e = are_light-all ws light in grind (arith, nat_tests)

-- what is left once each test has passed can be shared
pub all_well : (a : ℕ) (ws : List ℕ) → a ≤ max_quantity → length ws ≤ max_weights →
    has_heavy ws ≡ false → 0 < sum ws → fair a ws ≡ true
unfolding fair
all_well a ws p q h r = let e = are_light-not ws in grind (arith, nat_tests)

pub product_fits : (a : ℕ) (ws : List ℕ) (w : ℕ) → fair a ws ≡ true → w ≤ sum ws → a * w < 2 ^ 64
product_fits a ws w y h =
    let p = fair_parts a ws y in
    let total : w ≤ max_total = omega (arith, p.count, sum_limit ws p.weights) in
    omega (arith, mul-le a w max_quantity max_total p.quantity total)

pub total_fits : (ws : List ℕ) → length ws ≤ max_weights → has_heavy ws ≡ false → sum ws < 2 ^ 64
total_fits ws h light =
    let e = are_light-not ws in
    let none : are_light ws ≡ true = grind (arith, nat_tests) in
    omega (arith, sum_limit ws none)

pub quotient_limit : (a : ℕ) (ws : List ℕ) (w : ℕ) → fair a ws ≡ true → w ≤ sum ws →
    a * w / sum ws ≤ max_quantity
quotient_limit a ws w y h =
    let p = fair_parts a ws y in
    let m : a * w ≤ sum ws * max_quantity =
    omega (arith, mul-le a w max_quantity (sum ws) p.quantity h) in
    div-le_of_le-mul (sum ws) m
