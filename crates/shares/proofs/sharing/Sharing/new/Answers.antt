use Rattle.std.proofs.Common.{◌≡◌, ℕ, ◌<◌, ◌^◌, sum, ltb, sym, ◌∙◌, inl, inr, ⊎_elim, arith, rules, tests}
use Rattle.std.specs.List.{list_any}
use Rattle.std.proofs.lemmas.Iterator.{YieldsList-from_slice}
use Rattle.std.proofs.lemmas.Iterator.Search.{any_from_yields_List}
use Rattle.std.proofs.iter.runs.Made.{chains}
use Rattle.shares.specs.Fair.{max_weight}
use Rattle.shares.specs.Fairness.{fair_parts}
use Rattle.shares.proofs.Limits.{too_much, too_heavy, weightless, all_well, total_fits, sum_limit}
use Rattle.shares.proofs.sharing.Sharing.new.Goals as goal
use Rattle.shares.proofs.sharing.Sharing.new.Goals.{After-any}

-- the code's test of the weights
heavy : (c : After-any) → list_any (λ w. ltb max_weight w) c.args.weights.now ≡ c.any.result
heavy c =
    let run = c.any.ensures.ran in
    let items = YieldsList-from_slice c.args.weights.now cc in
    let test = λ (w : ℕ). ltb max_weight w in
    sym (any_from_yields_List test _ _ c.any.result run items (λ x b q k. search (rules, tests)))

pub returns-then-quantity-gt-MAX_QUANTITY-clause-none :
    goal.returns-then-quantity-gt-MAX_QUANTITY-clause-none
returns-then-quantity-gt-MAX_QUANTITY-clause-none c =
    too_much _ _ (⊎_elim inl (λ h. inr h.1) c.then-quantity-gt-MAX_QUANTITY.either)

pub returns-then-any-clause-none : goal.returns-then-any-clause-none
returns-then-any-clause-none c =
    let c' = (goal.at.returns-then-any-clause-none c).After-any in
    too_heavy c.args.quantity c.args.weights.now (heavy c' ∙ c.if-any.true)

pub sum-total-requires-clause-fits : goal.sum-total-requires-clause-fits
sum-total-requires-clause-fits c =
    let ws = c.args.weights.now in
    let c' = (goal.at.sum-total-requires-clause-fits c).After-any in
    let small : sum ws < 2 ^ 64 = total_fits ws (omega arith) (heavy c' ∙ c.if-any.false) in
    search (rules, chains)

pub returns-then-total-eq0-clause-none : goal.returns-then-total-eq0-clause-none
returns-then-total-eq0-clause-none c =
    let total : c.sum-total.result ≡ sum c.args.weights.now = search rules in
    weightless c.args.quantity c.args.weights.now (omega arith)

pub invariant_of-result : goal.invariant_of-result
invariant_of-result c =
    let total : c.sum-total.result ≡ sum c.args.weights.now = search rules in
    let light = heavy (goal.at.invariant_of-result c).After-any ∙ c.if-any.false in
    let fairly = all_well _ _ (omega arith) (omega arith) light (omega arith) in
    let p = fair_parts _ c.args.weights.now fairly in
    record {
      fairly = fairly;
      whole = total;
      limit = omega (arith, p.count, sum_limit c.args.weights.now p.weights);
    }
