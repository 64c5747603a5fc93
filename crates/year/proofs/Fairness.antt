-- The shares of a day are in proportion to what the settlements before it say.
use Rattle.std.proofs.Common.{◌≡◌, ℕ, ◌*◌, ◌<◌, ◌≤◌, min, true, false, ◌&&◌, eqb, ltb, List, map, length, get_or, take, sum, sym, ap, ◌∙◌, subst, ⊎_elim, mul-le-mul, arith}
use native.Mathlib.Nat.{div-le_of_le-mul}
use Rattle.std.specs.List.{range_with_len, AllByRecursion as All}
use Rattle.std.proofs.lemmas.List.FromFn.{fill_by_all, length-map-range_with_len, get_or-map-range_with_len}
use Rattle.std.proofs.ByRecursion.{All-from_get_or}
use Rattle.std.proofs.lemmas.List.{length-map, length-take, get_or-map, get_or-take, get_or-replicate}
use Rattle.std.proofs.lemmas.Bool.{ltb-false, eqb-false, and_cases, cases_lt}
use Rattle.profiles.specs.declared.factors.Factors.{Factors}
use Rattle.shares.specs.Fair.{max_quantity, max_weights, max_weight}
use Rattle.shares.proofs.Limits.{weightless, is_fair}
use Rattle.rows.specs.declared.point.Point.{Point}
use Rattle.rows.specs.Rows.{row_at, no_row, profile_consumption, profile_consumptions}
use Rattle.ledger.proofs.Keep.{shares_within}
use Rattle.year.specs.Settlements.{SharedDay, Settlement, points_in}
use Rattle.year.specs.Quantities.{given_for, scale_factor_of, factors_for, weight_of, quantity_on}
use Rattle.year.specs.Law.{IsProportional, IsFairDay, RowAgrees}
use Rattle.year.proofs.Rows.{is_fit, row_fitting}
use Rattle.profiles.specs.Laws.{TellsFactors}
use Rattle.shares.specs.Laws.{Rule, IsShareRule}

-- Weights.

-- a point's weights on a day, by place
abbrev pub weights : List Settlement → SharedDay → ℕ → List ℕ
weights c d n = map (weight_of c d) (range_with_len 0 n)

-- what the share-out works out from the rows is what the settlements give
pub consumptions_are : (c : List Settlement) (d : SharedDay) (factors : ℕ → Factors) (n : ℕ)
    (s : List Point) → n ≤ length s → ((k : ℕ) → factors k ≡ d.tells k d.day.weather) →
    ((k : ℕ) → k < n → RowAgrees c k (row_at s k)) →
    profile_consumptions factors (take n s) ≡ weights c d n
consumptions_are c d factors n s room is rows =
    let f : Point → ℕ = λ p. profile_consumption p.scale_factor (factors p.segment).day in
    let long : length (take n s) ≡ n = length-take n s
    ∙ (let m : min n (length s) ≡ n = omega arith in m) in
    fill_by_all (weight_of c d) (map f (take n s)) n 0 (length-map (take n s) f ∙ long)
    (λ k h.
    let a = rows k h in
    let p = row_at s k in
    let same : (factors p.segment).day ≡ (factors_for c d k).day =
    ap (λ (x : Factors). x.day) (is p.segment ∙ ap (λ (j : ℕ). d.tells j d.day.weather) a.segment)
    in
    get_or-map f (take n s) k no_row 0 (omega arith)
    ∙ ap f (get_or-take n s k no_row h)
    ∙ ap (λ (x : ℕ). profile_consumption x (factors p.segment).day) a.scale
    ∙ ap (profile_consumption (scale_factor_of c k)) same)

consumption_small : (scale factor : ℕ) → scale ≤ 2_000_000 → factor ≤ 10_000_000 →
    profile_consumption scale factor ≤ max_weight
consumption_small scale factor h k =
    let a = mul-le-mul h k in
    let b : scale * factor ≤ 10_000_000 * 2_000_000 = omega arith in
    div-le_of_le-mul 10_000_000 b

pub weight_small : (c : List Settlement) (d : SharedDay) (k : ℕ) (p : Point) →
    TellsFactors d.tells → RowAgrees c k p → is_fit p ≡ true → weight_of c d k ≤ max_weight
weight_small c d k p law a f =
    let most = (row_fitting p f).scale_most in
    let same = a.scale in
    consumption_small (scale_factor_of c k) (factors_for c d k).day (omega arith)
    (law (given_for c k).segment d.day.weather).1

pub weights_small : (c : List Settlement) (d : SharedDay) (n : ℕ) →
    ((k : ℕ) → k < n → weight_of c d k ≤ max_weight) → All (λ w. w ≤ max_weight) (weights c d n)
weights_small c d n small =
    let f = weight_of c d in
    let len = length-map-range_with_len f 0 n in
    All-from_get_or (λ w. w ≤ max_weight) (weights c d n) 0
    (λ i q.
    let h : i < n = omega arith in
    let e = get_or-map-range_with_len f 0 n i i 0 h (omega arith) in
    let b = small i h in
    omega arith)

-- Proportions.

-- a lawful rule's shares are in proportion, and zero where nobody has weight
proportional : (rule : Rule) (a : ℕ) (ws : List ℕ) (k : ℕ) → IsShareRule rule → a ≤ max_quantity →
    length ws ≤ max_weights → All (λ w. w ≤ max_weight) ws → k < length ws →
    IsProportional a (sum ws) (get_or ws k 0) (get_or (rule a ws) k 0)
proportional rule a ws k law few short small h =
    record {
      near = λ some. law.near a ws k (is_fair a ws few short small some) h;
      none = λ none. ap (λ (xs : List ℕ). get_or xs k 0) (law.refused a ws (weightless a ws none))
          ∙ get_or-replicate (length ws) k 0 0 h;
    }

pub fair_day : (c : List Settlement) (d : SharedDay) (rule : Rule) → IsShareRule rule →
    quantity_on d.day ≤ max_quantity → points_in c ≤ max_weights →
    ((k : ℕ) → k < points_in c → weight_of c d k ≤ max_weight) →
    d.shares ≡ rule (quantity_on d.day) (weights c d (points_in c)) → IsFairDay c d
fair_day c d rule law few short small is k h =
    let n = points_in c in
    let f = weight_of c d in
    let ws = weights c d n in
    let len = length-map-range_with_len f 0 n in
    let at = get_or-map-range_with_len f 0 n k k 0 h (omega arith) in
    let p = proportional rule (quantity_on d.day) ws k law few (omega arith)
    (weights_small c d n small) (omega arith) in
    subst (λ (w : ℕ). IsProportional (quantity_on d.day) (sum ws) w (get_or d.shares k 0)) at
    (subst (λ (xs : List ℕ). IsProportional (quantity_on d.day) (sum ws) (get_or ws k 0)
    (get_or xs k 0)) (sym is) p)

-- The whole quantity.

-- where there is weight, or nothing to share, the shares come to the quantity
pub whole_shared : (rule : Rule) (a : ℕ) (ws : List ℕ) → IsShareRule rule → a ≤ max_quantity →
    length ws ≤ max_weights → All (λ w. w ≤ max_weight) ws → (ltb 0 a && eqb (sum ws) 0) ≡ false →
    sum (rule a ws) ≡ a
whole_shared rule a ws law few short small weight =
    let most = shares_within law a ws in
    ⊎_elim
    (λ none. let z = ltb-false 0 a none in omega arith)
    (λ some.
    ⊎_elim
    (λ pos. law.whole a ws (is_fair a ws few short small pos))
    (λ zero. absurd (eqb-false (sum ws) 0 some (omega arith)))
    (cases_lt 0 (sum ws)))
    (and_cases (ltb 0 a) (eqb (sum ws) 0) weight)
