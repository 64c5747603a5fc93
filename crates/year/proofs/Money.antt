-- The ledger's accounts are what the settlements give, and the inflow lies in them.
use Rattle.std.proofs.Common.{◌≡◌, ℕ, zero, suc, ◌+◌, ◌<◌, ◌≤◌, cond, eqb, List, [], ◌∷◌, map, length, get_or, take, replicate, ℤ, pos, ◌+ℤ◌, ◌-ℤ◌, sum, sym, refl, ap, ◌∙◌, arith}
use Rattle.std.specs.List.{range_with_len}
use Rattle.std.proofs.lemmas.List.{take_all}
use Rattle.std.proofs.lemmas.List.FromFn.{sum_by-map-range_with_len_more}
use Rattle.std.proofs.lemmas.List.Sums.{sum_by-cons}
use Rattle.std.proofs.lemmas.Int.{ints}
use Rattle.ledger.specs.declared.book.Trader.{Trader}
use Rattle.rows.specs.declared.point.Particulars.{Particulars}
use Rattle.rows.specs.declared.point.Point.{Point}
use Rattle.rows.specs.Limits.{max_traders}
use Rattle.ledger.specs.Accounts.{no_trader, account_at, metered_at, metered_sum, all_accounts, signed_sum_by, with_credit, with_shares, with_metered, settled_trader, unmetered_trader}
use Rattle.rows.specs.Rows.{row_at}
use Rattle.ledger.proofs.Places.{by_eqb, set_at}
use Rattle.ledger.proofs.Traders.{new_at, account_entered, account_unmetered, account_settled, length_credited_to, metered_credited_to, metered_sum_credited_to}
use Rattle.ledger.proofs.Totals.{total_new, total_entered, total_credited, total_credited_to, total_settled, total_unmetered}
use Rattle.year.specs.Settlements.{SharedDay, Booking, Settlement, Joined, DayShared, ReadingBooked, points_in, trader_of, days_in}
use Rattle.year.specs.Quantities.{entered_by, shares_to, account_of, corrections_in, inflow_of, losses_of, loss_on}

pub record Money (c : List Settlement) (ts : List Trader) (loss : ℕ) (correction : ℤ) : Type 0 where
  pub losses : loss ≡ losses_of c
  pub accounts : (t : ℕ) → account_at ts t ≡ account_of c t
  pub corrections : correction ≡ pos 0 -ℤ corrections_in c
  pub balance : pos (inflow_of c) ≡ pos loss +ℤ all_accounts ts +ℤ correction

pub money_new : Money [] (replicate max_traders no_trader) 0 (pos 0)
unfolding account_of signed_sum_by
money_new =
    record {
      losses = refl;
      accounts = λ t. ap (λ (u : Trader). u.account) (new_at max_traders t);
      corrections = refl;
      balance = ap (λ (z : ℤ). pos 0 +ℤ z +ℤ pos 0) (sym (total_new max_traders));
    }

pub money_joined : (g : Particulars) (c : List Settlement) (ts : List Trader) (loss : ℕ)
    (correction : ℤ) → Money c ts loss correction → Money (Joined g ∷ c) ts loss correction
unfolding account_of
money_joined g c ts loss correction m =
    record {
      losses = m.losses;
      accounts = m.accounts;
      corrections = m.corrections;
      balance = m.balance;
    }

-- traders whose accounts and whose total are as they were
money_still : (c : List Settlement) (ts us : List Trader) (loss : ℕ) (correction : ℤ) →
    ((t : ℕ) → account_at us t ≡ account_at ts t) → all_accounts us ≡ all_accounts ts →
    Money c ts loss correction → Money c us loss correction
money_still c ts us loss correction each all m =
    record {
      losses = m.losses;
      accounts = λ t. each t ∙ m.accounts t;
      corrections = m.corrections;
      balance = m.balance ∙ ap (λ (z : ℤ). pos loss +ℤ z +ℤ correction) (sym all);
    }

pub money_entered : (c : List Settlement) (ts : List Trader) (loss : ℕ) (correction : ℤ) (t q : ℕ) →
    Money c ts loss correction → Money c (with_metered ts t q) loss correction
money_entered c ts loss correction t q m =
    money_still c ts (with_metered ts t q) loss correction (account_entered ts t q)
    (total_entered ts t q) m

pub money_ended : (c : List Settlement) (ts : List Trader) (loss : ℕ) (correction : ℤ) →
    Money c ts loss correction → Money c (map unmetered_trader ts) loss correction
money_ended c ts loss correction m =
    money_still c ts (map unmetered_trader ts) loss correction (account_unmetered ts)
    (total_unmetered ts) m

-- A day shared out.

-- the shares of one point more
shares_to_more : (c : List Settlement) (qs : List ℕ) (t k : ℕ) →
    shares_to c qs t (suc k) ≡ shares_to c qs t k + cond (eqb (trader_of c k) t) (get_or qs k 0) 0
shares_to_more c qs t k =
    let f : ℕ → ℕ = λ i. cond (eqb (trader_of c i) t) (get_or qs i 0) 0 in
    let one : suc k ≡ k + 1 = omega arith in
    ap (λ (n : ℕ). sum (map f (range_with_len 0 n))) one
    ∙ sum_by-map-range_with_len_more (λ (n : ℕ). n) f 0 k k (omega arith)

-- once the first k shares were credited, a trader has had those of his points
account_credited_to : (c : List Settlement) (ts : List Trader) (s : List Point) (qs : List ℕ)
    (n k t : ℕ) → ((i : ℕ) → i < n → (row_at s i).trader < length ts) →
    ((i : ℕ) → i < n → (row_at s i).trader ≡ trader_of c i) → k ≤ n →
    account_at (with_shares ts s qs k) t ≡ account_at ts t +ℤ pos (shares_to c qs t k)
unfolding with_shares
account_credited_to c ts s qs n zero t own is h =
    let r : account_at ts t ≡ account_at ts t +ℤ pos 0 = omega (arith, ints) in
    r
account_credited_to c ts s qs n (suc k) t own is h =
    let before = with_shares ts s qs k in
    let j = (row_at s k).trader in
    let q = get_or qs k 0 in
    let had = shares_to c qs t k in
    let old : account_at before t ≡ account_at ts t +ℤ pos had = account_credited_to c ts s qs n k t
    own is (omega arith) in
    let len = length_credited_to ts s qs k in
    let o = own k (omega arith) in
    let x : Trader = record {
      account = account_at before j +ℤ pos q;
      metered = metered_at before j;
    } in
    set_at (λ (u : Trader). u.account) before j x no_trader t (omega arith)
    ∙ by_eqb j t (λ b. cond b (account_at before j +ℤ pos q) (account_at before t)
    ≡ account_at ts t +ℤ pos (had + cond b q 0))
    (λ e.
    let u : account_at before j ≡ account_at before t = ap (account_at before) e in
    let v : account_at before j +ℤ pos q ≡ account_at ts t +ℤ pos (had + q) = omega (arith, ints) in
    v)
    (λ ne. let v : account_at before t ≡ account_at ts t +ℤ pos (had + 0) = omega (arith, ints) in
    v)
    ∙ ap (λ (i : ℕ). account_at ts t +ℤ pos (had + cond (eqb i t) q 0)) (is k (omega arith))
    ∙ ap (λ (i : ℕ). account_at ts t +ℤ pos i) (sym (shares_to_more c qs t k))

module _ (c : List Settlement) (d : SharedDay) (ts : List Trader) (s : List Point) (n : ℕ)
    (count : n ≡ points_in c) (own : (i : ℕ) → i < n → (row_at s i).trader < length ts) where
  account_shared : ((i : ℕ) → i < n → (row_at s i).trader ≡ trader_of c i) → (t : ℕ) →
      metered_at ts t ≡ entered_by t d.day.entries → account_at ts t ≡ account_of c t →
      account_at (map settled_trader (with_shares ts s d.shares n)) t
      ≡ account_of (DayShared d ∷ c) t
  unfolding account_of
  account_shared is t metered old =
      let qs = d.shares in
      let credits = with_shares ts s qs n in
      let a = account_settled credits t in
      let b = account_credited_to c ts s qs n n t own is (omega arith) in
      let m : metered_at credits t ≡ entered_by t d.day.entries = metered_credited_to ts s qs n t
      ∙ metered in
      let e : account_at (map settled_trader credits) t
      ≡ account_of c t +ℤ pos (shares_to c qs t n) +ℤ pos (entered_by t d.day.entries) = omega
      (arith, ints) in
      e ∙ ap (λ (k : ℕ). account_of c t +ℤ pos (shares_to c qs t k) +ℤ pos
      (entered_by t d.day.entries)) count

  -- what the shares, the metered litres and the loss take up is the inflow
  balance_shared : (loss x : ℕ) (correction : ℤ) → length d.shares ≤ n →
      sum d.shares + x + metered_sum ts ≡ d.day.inflow →
      pos (inflow_of c) ≡ pos loss +ℤ all_accounts ts +ℤ correction →
      pos (inflow_of (DayShared d ∷ c)) ≡ pos (loss + x) +ℤ all_accounts
      (map settled_trader (with_shares ts s d.shares n)) +ℤ correction
  balance_shared loss x correction short whole old =
      let qs = d.shares in
      let credits = with_shares ts s qs n in
      let a = total_settled credits in
      let b = total_credited_to ts s qs n n own (omega arith) in
      let all : sum (take n qs) ≡ sum qs = ap sum (take_all n qs short) in
      let m = metered_sum_credited_to ts s qs n in
      let more = sum_by-cons (λ (e : SharedDay). e.day.inflow) d (days_in c) in
      omega (arith, ints)

  pub money_shared : (loss x : ℕ) (correction : ℤ) →
      ((i : ℕ) → i < n → (row_at s i).trader ≡ trader_of c i) → length d.shares ≤ n →
      ((t : ℕ) → metered_at ts t ≡ entered_by t d.day.entries) → x ≡ loss_on d.day →
      sum d.shares + x + metered_sum ts ≡ d.day.inflow →
      Money c ts loss correction → Money (DayShared d ∷ c)
      (map settled_trader (with_shares ts s d.shares n)) (loss + x) correction
  money_shared loss x correction is short metered lost whole m =
      record {
        losses =
            let more = sum_by-cons (λ (e : SharedDay). loss_on e.day) d (days_in c) in
            let before = m.losses in
            omega arith;
        accounts = λ t. account_shared is t (metered t) (m.accounts t);
        corrections = m.corrections;
        balance = balance_shared loss x correction short whole m.balance;
      }

-- A reading booked.

-- the trader whose the point is has the correction, and every other what he had
account_booked : (c : List Settlement) (ts : List Trader) (b : Booking) (j : ℕ) → j < length ts →
    j ≡ trader_of c b.point → (t : ℕ) → ((i : ℕ) → account_at ts i ≡ account_of c i) →
    account_at (with_credit ts j b.correction) t ≡ account_of (ReadingBooked b ∷ c) t
unfolding account_of
account_booked c ts b j h is t old =
    let z = b.correction in
    set_at (λ (x : Trader). x.account) ts j (record
    { account = account_at ts j +ℤ z; metered = metered_at ts j }) no_trader t h
    ∙ by_eqb j t (λ e. cond e (account_at ts j +ℤ z) (account_at ts t)
    ≡ cond e (account_of c t +ℤ z) (account_of c t))
    (λ e. ap (λ (y : ℤ). y +ℤ z) (ap (account_at ts) e ∙ old t))
    (λ ne. old t)
    ∙ ap (λ (i : ℕ). cond (eqb i t) (account_of c t +ℤ z) (account_of c t)) is

pub money_booked : (c : List Settlement) (ts : List Trader) (loss : ℕ) (correction : ℤ)
    (b : Booking) (j : ℕ) → j < length ts → j ≡ trader_of c b.point → Money c ts loss correction →
    Money (ReadingBooked b ∷ c) (with_credit ts j b.correction) loss (correction -ℤ b.correction)
unfolding signed_sum_by
money_booked c ts loss correction b j h is m =
    let z = b.correction in
    let all = total_credited ts j z h in
    let gone = m.corrections in
    let old = m.balance in
    record {
      losses = m.losses;
      accounts = λ t. account_booked c ts b j h is t m.accounts;
      corrections = let r : correction -ℤ z ≡ pos 0 -ℤ (z +ℤ corrections_in c) = omega
          (arith, ints) in r;
      balance =
          let r : pos (inflow_of c) ≡ pos loss +ℤ all_accounts (with_credit ts j z) +ℤ
          (correction -ℤ z) = omega (arith, ints) in
          r;
    }
