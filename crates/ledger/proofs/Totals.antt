-- All accounts together: what an entry, the credits and the end of a day make of them.
use Rattle.std.proofs.Common.{◌≡◌, ℕ, zero, suc, ◌<◌, ◌≤◌, List, [], ◌∷◌, map, length, get_or, take, set, replicate, ℤ, pos, ◌+ℤ◌, sum, refl, ap, arith}
use Rattle.std.proofs.lemmas.Int.{ints}
use Rattle.std.proofs.lemmas.List.Sums.{sum_by-cons}
use Rattle.ledger.specs.declared.book.Trader.{Trader}
use Rattle.rows.specs.declared.point.Point.{Point}
use Rattle.ledger.specs.Accounts.{no_trader, account_at, metered_at, metered_sum, all_accounts, signed_sum_by, with_credit, with_shares, with_metered, settled_trader, unmetered_trader}
use Rattle.rows.specs.Rows.{row_at}
use Rattle.ledger.proofs.Traders.{sum-take-suc, length_credited_to}

pub total_set : (ts : List Trader) (j : ℕ) (x : Trader) → j < length ts →
    all_accounts (set ts j x) +ℤ account_at ts j ≡ all_accounts ts +ℤ x.account
unfolding signed_sum_by
total_set [] j x h = absurd (let q : ⊥ = omega arith in q)
total_set (t ∷ ts) zero x h =
    let a = all_accounts ts in
    let r : (x.account +ℤ a) +ℤ t.account ≡ (t.account +ℤ a) +ℤ x.account = omega (arith, ints) in
    r
total_set (t ∷ ts) (suc j) x h =
    let before = total_set ts j x (omega arith) in
    let r : (t.account +ℤ all_accounts (set ts j x)) +ℤ account_at ts j
    ≡ (t.account +ℤ all_accounts ts) +ℤ x.account = omega (arith, ints) in
    r

total_same : (ts : List Trader) (j : ℕ) (x : Trader) → x.account ≡ account_at ts j →
    all_accounts (set ts j x) ≡ all_accounts ts
unfolding signed_sum_by
total_same [] j x e = refl
total_same (t ∷ ts) zero x e = ap (λ (z : ℤ). z +ℤ all_accounts ts) e
total_same (t ∷ ts) (suc j) x e = ap (λ (z : ℤ). t.account +ℤ z) (total_same ts j x e)

pub total_new : (n : ℕ) → all_accounts (replicate n no_trader) ≡ pos 0
unfolding signed_sum_by
total_new zero = refl
total_new (suc n) = ap (λ (z : ℤ). pos 0 +ℤ z) (total_new n)

pub total_entered : (ts : List Trader) (t q : ℕ) →
    all_accounts (with_metered ts t q) ≡ all_accounts ts
total_entered ts t q = total_same ts t _ refl

pub total_credited : (ts : List Trader) (t : ℕ) (z : ℤ) → t < length ts →
    all_accounts (with_credit ts t z) ≡ all_accounts ts +ℤ z
total_credited ts t z h =
    let a = total_set ts t (record { account = account_at ts t +ℤ z; metered = metered_at ts t }) h
    in
    omega (arith, ints)

pub total_credited_to : (ts : List Trader) (s : List Point) (shares : List ℕ) (n k : ℕ) →
    ((i : ℕ) → i < n → (row_at s i).trader < length ts) → k ≤ n →
    all_accounts (with_shares ts s shares k) ≡ all_accounts ts +ℤ pos (sum (take k shares))
unfolding with_shares
total_credited_to ts s shares n zero own h =
    let r : all_accounts ts ≡ all_accounts ts +ℤ pos 0 = omega (arith, ints) in
    r
total_credited_to ts s shares n (suc k) own h =
    let before = total_credited_to ts s shares n k own (omega arith) in
    let len = length_credited_to ts s shares k in
    let o = own k (omega arith) in
    let a = total_credited (with_shares ts s shares k) (row_at s k).trader (pos (get_or shares k 0))
    (omega arith) in
    let m = sum-take-suc shares k in
    omega (arith, ints)

pub total_settled : (ts : List Trader) → all_accounts (map settled_trader ts)
    ≡ all_accounts ts +ℤ pos (metered_sum ts)
unfolding signed_sum_by
total_settled [] = refl
total_settled (t ∷ ts) =
    let before = total_settled ts in
    let m = sum_by-cons (λ (u : Trader). u.metered) t ts in
    let r : (t.account +ℤ pos t.metered) +ℤ all_accounts (map settled_trader ts)
    ≡ (t.account +ℤ all_accounts ts) +ℤ pos (metered_sum (t ∷ ts)) = omega (arith, ints) in
    r

pub total_unmetered : (ts : List Trader) → all_accounts (map unmetered_trader ts) ≡ all_accounts ts
unfolding signed_sum_by
total_unmetered [] = refl
total_unmetered (t ∷ ts) = ap (λ (z : ℤ). t.account +ℤ z) (total_unmetered ts)
