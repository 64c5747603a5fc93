-- The steps by which a cut is found.
use Rattle.std.proofs.Common.{◌≡◌, ℕ, ◌<◌, ◌≤◌, min, max, true, List, [], ◌∷◌, length, sum, sym, refl, ap, ◌∙◌, ⊎_elim, arith}
use Rattle.std.specs.Prelude.{nat_le, nat_lt, if◌then◌else◌}
use Rattle.std.specs.List.{fold}
use Rattle.std.proofs.lemmas.Bool.{cases_lt, le-leb, lt-leb}
use Rattle.std.proofs.lemmas.Bool.Decides.{nat_tests}
use Rattle.shares.specs.Fair.{max_weights, max_total, fair}
use Rattle.shares.specs.Rules.{remainders, litres_left}
use Rattle.shares.specs.Fairness.{fair_parts}
use Rattle.shares.specs.Counts.{one_if, count_above, count_from, count_above-cons, count_from-cons, count_from-split, IsCut}
use Rattle.shares.specs.LargestLaws.{length-remainders, litres_left_limit, none_over}
use Rattle.shares.proofs.Limits.{sum_limit}

-- the least number from low on, or high where none is below that
abbrev pub least : List ℕ → ℕ → ℕ → ℕ
least rs low high = fold (λ m r. if nat_le low r then min m r else m) high rs

pub record IsLeast (rs : List ℕ) (low high m : ℕ) : Type 0 where
  pub from : low ≤ m
  pub to : m ≤ high
  pub same : count_from rs m ≡ count_from rs low

pub least_is : (rs : List ℕ) (low high : ℕ) → low ≤ high → IsLeast rs low high (least rs low high)
least_is [] low high h = record { from = h; to = omega arith; same = refl }
least_is (r ∷ rs) low high h =
    ⊎_elim
    (λ (less : r < low).
    let m = least rs low high in
    let l = least_is rs low high h in
    let p = count_from-cons r rs m in
    let q = count_from-cons r rs low in
    let here : one_if (nat_le m r) ≡ one_if (nat_le low r) = grind (arith, nat_tests) in
    rw (lt-leb low r less) (record { from = l.from; to = l.to; same = omega arith }))
    (λ (more : low ≤ r).
    let m = least rs low (min high r) in
    let l = least_is rs low (min high r) (omega arith) in
    let p = count_from-cons r rs m in
    let q = count_from-cons r rs low in
    let here : one_if (nat_le m r) ≡ one_if (nat_le low r) = grind (arith, nat_tests) in
    rw (le-leb low r more) (record { from = l.from; to = omega arith; same = omega arith }))
    (cases_lt r low)

-- the greatest number up to high, or low where none is above that
abbrev pub greatest : List ℕ → ℕ → ℕ → ℕ
greatest rs low high = fold (λ m r. if nat_le r high then max m r else m) low rs

pub record IsGreatest (rs : List ℕ) (low high m : ℕ) : Type 0 where
  pub from : low ≤ m
  pub to : m ≤ high
  pub same : count_above rs m ≡ count_above rs high

pub greatest_is : (rs : List ℕ) (low high : ℕ) → low ≤ high →
    IsGreatest rs low high (greatest rs low high)
greatest_is [] low high h = record { from = omega arith; to = h; same = refl }
greatest_is (r ∷ rs) low high h =
    ⊎_elim
    (λ (more : high < r).
    let m = greatest rs low high in
    let l = greatest_is rs low high h in
    let p = count_above-cons r rs m in
    let q = count_above-cons r rs high in
    let here : one_if (nat_lt m r) ≡ one_if (nat_lt high r) = grind (arith, nat_tests) in
    rw (lt-leb r high more) (record { from = l.from; to = l.to; same = omega arith }))
    (λ (less : r ≤ high).
    let m = greatest rs (max low r) high in
    let l = greatest_is rs (max low r) high (omega arith) in
    let p = count_above-cons r rs m in
    let q = count_above-cons r rs high in
    let here : one_if (nat_lt m r) ≡ one_if (nat_lt high r) = grind (arith, nat_tests) in
    rw (le-leb r high less) (record { from = omega arith; to = l.to; same = omega arith }))
    (cases_lt high r)

pub cut_exact : (rs : List ℕ) (l t : ℕ) → l ≡ count_above rs t → IsCut rs l t 0
cut_exact rs l t e = record { counted = omega arith; enough = omega (arith, count_from-split rs t) }

-- what is known of the cut of the l litres that are left before it is sought
pub record MayBeCut (t l : ℕ) (out : List ℕ) : Type 0 where
  pub places : length out ≤ max_weights
  pub limit : t ≤ max_total
  pub none : 0 ≡ count_above out t
  pub most : l ≤ length out

pub may_be_cut : (a : ℕ) (ws : List ℕ) (t l : ℕ) (out : List ℕ) → fair a ws ≡ true → t ≡ sum ws →
    out ≡ remainders a ws → l ≡ litres_left a ws → MayBeCut t l out
may_be_cut a ws t l out y total o e =
    let p = fair_parts a ws y in
    let long : length out ≡ length ws = ap length o ∙ length-remainders a ws in
    record {
      places = omega (arith, p.count);
      limit = omega (arith, p.count, sum_limit ws p.weights);
      none = sym (rw (o, total) (none_over a ws p.some));
      most = omega (arith, litres_left_limit a ws p.some);
    }
