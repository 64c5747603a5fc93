-- What one turn of a loop does, over plain lists and numbers.
use Rattle.std.proofs.Common.{◌≡◌, ℕ, zero, suc, ◌+◌, ◌<◌, ◌≤◌, List, [], ◌∷◌, ◌++◌, map, length, get_or, take, drop, set, pos, ◌+ℤ◌, sym, refl, ap, ◌∙◌, subst, arith}
use Rattle.std.proofs.lemmas.List.Edits.{map_over_more}
use Rattle.std.proofs.lemmas.List.{length-append, length-map, length-take, length-drop, get_or_default, take_all, drop_all, append-nil}
use Rattle.std.proofs.lemmas.Int.{ints}
use Rattle.ledger.specs.declared.book.Trader.{Trader}
use Rattle.ledger.specs.Accounts.{no_trader, account_at, all_accounts, signed_sum_by}

-- the traders in the middle of a pass that changes each by f
abbrev pub partly : (Trader → Trader) → List Trader → ℕ → List Trader
partly f ts i = map f (take i ts) ++ drop i ts

length-partly : (f : Trader → Trader) (ts : List Trader) (i : ℕ) → i ≤ length ts →
    length (partly f ts i) ≡ length ts
length-partly f ts i h = simp (length-append, length-map, length-take, length-drop) (omega arith)

pub map_step : (f : Trader → Trader) (ts ys : List Trader) (i : ℕ) (x : Trader) → i < length ts →
    ys ≡ partly f ts i → x ≡ f (get_or ys i no_trader) → set ys i x ≡ partly f ts (i + 1)
map_step f ts ys i x h e v =
    let zs = partly f ts i in
    let inside : i < length zs = let k = length-partly f ts i (omega arith) in omega arith in
    let y = get_or zs i no_trader in
    let one : set zs i (f y) ≡ partly f ts (i + 1) = map_over_more f ts zs i y h refl
    (get_or_default zs i no_trader y inside) in
    cc

pub map_done : (f : Trader → Trader) (ts ys : List Trader) (i : ℕ) → length ts ≤ i →
    ys ≡ partly f ts i → ys ≡ map f ts
map_done f ts ys i h e = e ∙ rw (take_all i ts h, drop_all i ts h) (append-nil (map f ts))

partly_at : (f : Trader → Trader) (ts : List Trader) (i : ℕ) (d : Trader) →
    get_or (partly f ts i) i d ≡ get_or ts i d
partly_at f [] zero d = refl
partly_at f [] (suc i) d = refl
partly_at f (t ∷ ts) zero d = refl
partly_at f (t ∷ ts) (suc i) d = partly_at f ts i d

-- what holds of trader i still holds before his turn
pub still : (P : Trader → Type 0) (f : Trader → Trader) (ts ys : List Trader) (i : ℕ) →
    ys ≡ partly f ts i → P (get_or ts i no_trader) → P (get_or ys i no_trader)
still P f ts ys i e h = subst P (sym (ap (λ us. get_or us i no_trader) e
    ∙ partly_at f ts i no_trader)) h

-- the accounts of the first i traders together, one more
pub accounts_more : (ts : List Trader) (i : ℕ) → i < length ts →
    all_accounts (take (i + 1) ts) ≡ all_accounts (take i ts) +ℤ account_at ts i
unfolding signed_sum_by
accounts_more [] i h = absurd (let q : ⊥ = omega arith in q)
accounts_more (t ∷ ts) zero h = let r : t.account +ℤ pos 0
    ≡ pos 0 +ℤ t.account = omega (arith, ints) in r
accounts_more (t ∷ ts) (suc i) h =
    let ih = accounts_more ts i (omega arith) in
    let r : t.account +ℤ all_accounts (take (i + 1) ts)
    ≡ (t.account +ℤ all_accounts (take i ts)) +ℤ account_at ts i = omega (arith, ints) in
    let e : suc (i + 1) ≡ suc i + 1 = omega arith in
    subst (λ (n : ℕ). all_accounts (take n (t ∷ ts))
    ≡ (t.account +ℤ all_accounts (take i ts)) +ℤ account_at ts i) e r

pub accounts_none : all_accounts [] ≡ pos 0
unfolding signed_sum_by
accounts_none = refl
