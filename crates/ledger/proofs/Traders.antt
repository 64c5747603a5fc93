-- Lemmas on lists of traders: their accounts and metered sums after an entry, a credit and the end
-- of a day.
use Rattle.std.proofs.Common.{◌≡◌, ℕ, zero, suc, ◌+◌, ◌<◌, ◌≤◌, cond, eqb, List, [], ◌∷◌, map, length, get_or, take, set, replicate, ℤ, pos, ◌+ℤ◌, ◌-ℤ◌, sum, sum_by, sym, refl, ap, ◌∙◌, add_comm, zero-add, ⊎_elim, add-one, arith}
use Rattle.std.proofs.lemmas.List.{length-set, get_or-take, get_or_past, take_all}
use Rattle.std.proofs.lemmas.List.Sums.{sum_by-cons, sum_by-set, sum_by_more, get_or-le-sum_by}
use Rattle.std.proofs.lemmas.Bool.{cases_lt}
use Rattle.std.proofs.lemmas.Int.{ints}
use Rattle.ledger.specs.declared.book.Trader.{Trader}
use Rattle.rows.specs.declared.point.Point.{Point}
use Rattle.ledger.specs.Accounts.{no_trader, account_at, metered_at, metered_sum, with_credit, with_shares, with_metered, settled_trader, unmetered_trader}
use Rattle.rows.specs.Rows.{no_row, row_at}
use Rattle.ledger.proofs.Places.{by_eqb, set_at}
use Rattle.rows.specs.Within.{IsWithin}

-- Integers near zero.

pub near_none : IsWithin (pos 0) 0
near_none = record { high = omega (arith, ints); low = omega (arith, ints) }

pub near_pos : (n : ℕ) → IsWithin (pos n) n
near_pos n = record { high = omega (arith, ints); low = omega (arith, ints) }

pub near_more : (z : ℤ) (b c : ℕ) → IsWithin z b → b ≤ c → IsWithin z c
near_more z b c h e =
    let p = h.high in
    let q = h.low in
    record { high = omega (arith, ints); low = omega (arith, ints) }

pub near_add : (z y : ℤ) (b c : ℕ) → IsWithin z b → IsWithin y c → IsWithin (z +ℤ y) (b + c)
near_add z y b c h e =
    let p = h.high in
    let q = h.low in
    let u = e.high in
    let v = e.low in
    record { high = omega (arith, ints); low = omega (arith, ints) }

pub near_sub : (z y : ℤ) (b c : ℕ) → IsWithin z b → IsWithin y c → IsWithin (z -ℤ y) (b + c)
near_sub z y b c h e =
    let p = h.high in
    let q = h.low in
    let u = e.high in
    let v = e.low in
    record { high = omega (arith, ints); low = omega (arith, ints) }

-- Sums: the library's lemmas ask for a place within the list, and these hold past its end too.

at_le_sum : {X : Type 0} (f : X → ℕ) (xs : List X) (k : ℕ) (d : X) → f d ≡ 0 →
    f (get_or xs k d) ≤ sum_by f xs
at_le_sum f xs k d z =
    ⊎_elim (λ lt. get_or-le-sum_by f xs k d lt) (λ ge. let e = ap f (get_or_past xs k d ge) in
    omega arith) (cases_lt k (length xs))

pub get_or_le_sum : (xs : List ℕ) (k : ℕ) → get_or xs k 0 ≤ sum xs
get_or_le_sum xs k = at_le_sum (λ (n : ℕ). n) xs k 0 refl

-- no trader metered more than all did
pub metered_le : (ts : List Trader) (t : ℕ) → metered_at ts t ≤ metered_sum ts
metered_le ts t = at_le_sum (λ (u : Trader). u.metered) ts t no_trader refl

pub sum-take-suc : (xs : List ℕ) (i : ℕ) → sum (take (suc i) xs) ≡ sum (take i xs) + get_or xs i 0
sum-take-suc xs i =
    ⊎_elim
    (λ lt. rw (← add-one) (sum_by_more (λ (n : ℕ). n) xs i 0 lt))
    (λ ge.
    let all = ap sum (take_all i xs ge) in
    let more = ap sum (take_all (suc i) xs (omega arith)) in
    let past = get_or_past xs i 0 ge in
    omega arith)
    (cases_lt i (length xs))

-- One trader changed.

-- what holds of x and of each trader holds of each once x is put in
pub at_set : (P : Trader → Type 0) (ts : List Trader) (j : ℕ) (x : Trader) (t : ℕ) → P x →
    P (get_or ts t no_trader) → P (get_or (set ts j x) t no_trader)
at_set P [] j x t a b = b
at_set P (u ∷ ts) zero x zero a b = a
at_set P (u ∷ ts) zero x (suc t) a b = b
at_set P (u ∷ ts) (suc j) x zero a b = b
at_set P (u ∷ ts) (suc j) x (suc t) a b = at_set P ts j x t a b

-- a field that x has as the trader in whose place it is put is unchanged everywhere
pub field_set : {A : Type 0} (f : Trader → A) (ts : List Trader) (j : ℕ) (x : Trader) (t : ℕ) →
    f x ≡ f (get_or ts j no_trader) → f (get_or (set ts j x) t no_trader)
    ≡ f (get_or ts t no_trader)
field_set f [] j x t e = refl
field_set f (u ∷ ts) zero x zero e = e
field_set f (u ∷ ts) zero x (suc t) e = refl
field_set f (u ∷ ts) (suc j) x zero e = refl
field_set f (u ∷ ts) (suc j) x (suc t) e = field_set f ts j x t e

pub metered_set : (ts : List Trader) (j : ℕ) (x : Trader) (t : ℕ) → x.metered ≡ metered_at ts j →
    metered_at (set ts j x) t ≡ metered_at ts t
metered_set ts j x t e = field_set (λ (u : Trader). u.metered) ts j x t e

pub account_set : (ts : List Trader) (j : ℕ) (x : Trader) (t : ℕ) → x.account ≡ account_at ts j →
    account_at (set ts j x) t ≡ account_at ts t
account_set ts j x t e = field_set (λ (u : Trader). u.account) ts j x t e

pub metered_sum-set : (ts : List Trader) (j : ℕ) (x : Trader) → x.metered ≡ metered_at ts j →
    metered_sum (set ts j x) ≡ metered_sum ts
metered_sum-set [] j x e = refl
metered_sum-set (t ∷ ts) zero x e = sum_by-cons (λ (u : Trader). u.metered) x ts
    ∙ ap (λ n. n + metered_sum ts) e ∙ sym (sum_by-cons (λ (u : Trader). u.metered) t ts)
metered_sum-set (t ∷ ts) (suc j) x e =
    sum_by-cons (λ (u : Trader). u.metered) t (set ts j x)
    ∙ ap (λ n. t.metered + n) (metered_sum-set ts j x e)
    ∙ sym (sum_by-cons (λ (u : Trader). u.metered) t ts)

-- An entry.

pub metered_sum-entered : (ts : List Trader) (t q : ℕ) → t < length ts →
    metered_sum (with_metered ts t q) ≡ metered_sum ts + q
metered_sum-entered ts t q h =
    let x : Trader = record { account = account_at ts t; metered = metered_at ts t + q } in
    let e : metered_sum (set ts t x) + metered_at ts t
    ≡ metered_sum ts + (metered_at ts t + q) = sum_by-set
    (λ (u : Trader). u.metered) ts t x no_trader h in
    omega arith

-- a trader has his litres, and every other what he had
pub metered_entered : (ts : List Trader) (j q t : ℕ) → j < length ts →
    metered_at (with_metered ts j q) t ≡ cond (eqb j t) q 0 + metered_at ts t
metered_entered ts j q t h =
    set_at (λ (u : Trader). u.metered) ts j (record
    { account = account_at ts j; metered = metered_at ts j + q }) no_trader t h
    ∙ by_eqb j t (λ b. cond b (metered_at ts j + q) (metered_at ts t)
    ≡ cond b q 0 + metered_at ts t)
    (λ e. ap (λ (k : ℕ). metered_at ts k + q) e ∙ add_comm (metered_at ts t) q)
    (λ n. sym (zero-add (metered_at ts t)))

pub account_entered : (ts : List Trader) (j q t : ℕ) →
    account_at (with_metered ts j q) t ≡ account_at ts t
account_entered ts j q t = account_set ts j _ t refl

-- The end of a day.

pub metered_sum_none : (f : Trader → Trader) → ((t : Trader) → (f t).metered ≡ 0) →
    (ts : List Trader) → metered_sum (map f ts) ≡ 0
metered_sum_none f z [] = refl
metered_sum_none f z (t ∷ ts) =
    sum_by-cons (λ (u : Trader). u.metered) (f t) (map f ts)
    ∙ ap (λ n. n + metered_sum (map f ts)) (z t) ∙ zero-add (metered_sum (map f ts))
    ∙ metered_sum_none f z ts

pub metered_none : (f : Trader → Trader) → ((t : Trader) → (f t).metered ≡ 0) →
    (ts : List Trader) (t : ℕ) → metered_at (map f ts) t ≡ 0
metered_none f z [] t = refl
metered_none f z (u ∷ ts) zero = z u
metered_none f z (u ∷ ts) (suc t) = metered_none f z ts t

pub account_unmetered : (ts : List Trader) (t : ℕ) →
    account_at (map unmetered_trader ts) t ≡ account_at ts t
account_unmetered [] t = refl
account_unmetered (u ∷ ts) zero = refl
account_unmetered (u ∷ ts) (suc t) = account_unmetered ts t

pub account_settled : (ts : List Trader) (t : ℕ) →
    account_at (map settled_trader ts) t ≡ account_at ts t +ℤ pos (metered_at ts t)
account_settled [] t = refl
account_settled (u ∷ ts) zero = refl
account_settled (u ∷ ts) (suc t) = account_settled ts t

-- New traders.

pub new_at : (n t : ℕ) → get_or (replicate n no_trader) t no_trader ≡ no_trader
new_at zero t = refl
new_at (suc n) zero = refl
new_at (suc n) (suc t) = new_at n t

-- The shares credited, row by row.

module _ (ts : List Trader) (s : List Point) (shares : List ℕ) where
  pub credited_to_none : ts ≡ with_shares ts s shares 0
  unfolding with_shares
  credited_to_none = refl

  pub credited_to_more : (i : ℕ) → with_credit (with_shares ts s shares i) (row_at s i).trader
      (pos (get_or shares i 0)) ≡ with_shares ts s shares (i + 1)
  unfolding with_shares
  credited_to_more i = rw add-one refl

  pub length_credited_to : (i : ℕ) → length (with_shares ts s shares i) ≡ length ts
  unfolding with_shares
  length_credited_to zero = refl
  length_credited_to (suc i) = length-set (with_shares ts s shares i) _ _ ∙ length_credited_to i

  pub metered_credited_to : (i t : ℕ) → metered_at (with_shares ts s shares i) t ≡ metered_at ts t
  unfolding with_shares
  metered_credited_to zero t = refl
  metered_credited_to (suc i) t = metered_set (with_shares ts s shares i)
      (row_at s i).trader _ t refl ∙ metered_credited_to i t

  pub metered_sum_credited_to : (i : ℕ) → metered_sum (with_shares ts s shares i) ≡ metered_sum ts
  unfolding with_shares
  metered_sum_credited_to zero = refl
  metered_sum_credited_to (suc i) = metered_sum-set (with_shares ts s shares i)
      (row_at s i).trader _ refl ∙ metered_sum_credited_to i

  -- the accounts grow by no more than the shares so far
  pub near_credited_to : (i b : ℕ) → ((t : ℕ) → IsWithin (account_at ts t) b) → (t : ℕ) →
      IsWithin (account_at (with_shares ts s shares i) t) (b + sum (take i shares))
  unfolding with_shares
  near_credited_to zero b h t = near_more _ b _ (h t) (omega arith)
  near_credited_to (suc i) b h t =
      let m = sum-take-suc shares i in
      let c = b + sum (take (suc i) shares) in
      let before = with_shares ts s shares i in
      let j = (row_at s i).trader in
      let q = get_or shares i 0 in
      at_set (λ (u : Trader). IsWithin u.account c) before j _ t
      (near_more _ _ c (near_add (account_at before j) (pos q) _ q (near_credited_to i b h j)
      (near_pos q)) (omega arith))
      (near_more _ _ c (near_credited_to i b h t) (omega arith))

-- the first n rows, taken as a list of their own with its own shares
pub credited_to_part : (ts : List Trader) (s : List Point) (shares : List ℕ) (n k : ℕ) → k ≤ n →
    with_shares ts (take n s) (take n shares) k ≡ with_shares ts s shares k
unfolding with_shares
credited_to_part ts s shares n zero h = refl
credited_to_part ts s shares n (suc k) h =
    ap (λ (us : List Trader). with_credit us (row_at (take n s) k).trader
    (pos (get_or (take n shares) k 0))) (credited_to_part ts s shares n k (omega arith))
    ∙ ap (λ (p : Point). with_credit (with_shares ts s shares k) p.trader
    (pos (get_or (take n shares) k 0))) (get_or-take n s k no_row (omega arith))
    ∙ ap (λ (q : ℕ). with_credit (with_shares ts s shares k) (row_at s k).trader (pos q))
    (get_or-take n shares k 0 (omega arith))
