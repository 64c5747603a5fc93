-- One turn of the loop that books the shares.
use Rattle.std.proofs.Common.{◌≡◌, ℕ, ◌+◌, ◌<◌, ◌≤◌, List, length, get_or, set, pos, ◌≤ℤ◌, sum, sym, ap, ◌∙◌, subst, arith}
use Rattle.std.proofs.lemmas.Int.{ints}
use Rattle.std.proofs.lemmas.List.Sums.{sum_by-take-le, get_or-le-sum_by}
use Rattle.profiles.specs.declared.factors.Factors.{Factors}
use Rattle.ledger.specs.declared.book.Trader.{Trader}
use Rattle.rows.specs.declared.point.Point.{Point}
use Rattle.ledger.specs.Accounts.{CanSettle, account_at, metered_sum, with_credit, with_shares}
use Rattle.rows.specs.Limits.{max_traders}
use Rattle.ledger.specs.Limits.{max_litres}
use Rattle.rows.specs.Rows.{IsShareable, row_at, shared_row, shared_rows}
use Rattle.ledger.specs.Sharing.{CanCredit}
use Rattle.rows.proofs.Rows.{shared_rows_later, shared_rows_more}
use Rattle.ledger.proofs.Traders.{credited_to_more, length_credited_to, metered_credited_to, near_credited_to, metered_le}
use Rattle.rows.specs.Within.{IsWithin}

-- no account passes what an account can hold
pub credit_within : (ts : List Trader) (s : List Point) (shares : List ℕ) →
    ((t : ℕ) → IsWithin (account_at ts t) 5_900_000_000_000_000_000) → sum shares ≤ max_litres →
    (i t : ℕ) → account_at (with_shares ts s shares i) t ≤ℤ pos 6_000_000_000_000_000_000
credit_within ts s shares h small i t =
    let a = (near_credited_to ts s shares i 5_900_000_000_000_000_000 h t).high in
    let b = sum_by-take-le (λ (n : ℕ). n) shares i in
    omega (arith, ints)

module _ (factors : ℕ → Factors) (ts : List Trader) (s : List Point) (shares : List ℕ)
    (ok : CanCredit ts s shares) where
  -- what a turn finds: the row is as it was handed in, and booking its share is safe
  pub record Turn (us : List Trader) (s' : List Point) (i : ℕ) : Type 0 where
    pub row : row_at s' i ≡ row_at s i
    pub place : (row_at s' i).trader < length us
    pub may : IsShareable max_traders (row_at s' i)
    pub share : get_or shares i 0 ≤ max_litres
    pub account : account_at us (row_at s' i).trader ≤ℤ pos 6_000_000_000_000_000_000

  pub turn : (us : List Trader) (s' : List Point) (i : ℕ) → i < length shares →
      us ≡ with_shares ts s shares i → s' ≡ shared_rows factors s shares i → Turn us s' i
  turn us s' i h e r =
      let same : row_at s' i ≡ row_at s i = ap (λ u. row_at u i) r
      ∙ shared_rows_later factors s shares i i (omega arith) in
      let len : length us ≡ length ts = ap length e ∙ length_credited_to ts s shares i in
      let p = ok.places in
      let q = ok.each in
      let may : IsShareable max_traders (row_at s' i) = subst (IsShareable max_traders) (sym same)
      (ok.rows i (omega arith)) in
      let own = may.owned in
      let w = ok.small in
      record {
        row = same;
        place = omega arith;
        may = may;
        share = let g = get_or-le-sum_by (λ (n : ℕ). n) shares i 0 h in omega arith;
        account = subst (λ (v : List Trader). account_at v
            (row_at s' i).trader ≤ℤ pos 6_000_000_000_000_000_000) (sym e)
            (credit_within ts s shares ok.accounts w i (row_at s' i).trader);
      }

  -- what a turn leaves
  pub credit_step : (us us' : List Trader) (s' : List Point) (i : ℕ) →
      us ≡ with_shares ts s shares i → s' ≡ shared_rows factors s shares i →
      us' ≡ with_credit us (row_at s' i).trader (pos (get_or shares i 0)) →
      us' ≡ with_shares ts s shares (i + 1)
  credit_step us us' s' i e r q =
      let same : row_at s' i ≡ row_at s i = ap (λ u. row_at u i) r
      ∙ shared_rows_later factors s shares i i (omega arith) in
      q ∙ ap (λ (v : List Trader). with_credit v (row_at s' i).trader (pos (get_or shares i 0))) e
      ∙ ap (λ (p : Point). with_credit (with_shares ts s shares i) p.trader
      (pos (get_or shares i 0))) same
      ∙ credited_to_more ts s shares i

  pub row_step : (s' : List Point) (i : ℕ) (x : Point) → s' ≡ shared_rows factors s shares i →
      x ≡ shared_row (row_at s' i) (get_or shares i 0) (factors (row_at s' i).segment).multiplier →
      set s' i x ≡ shared_rows factors s shares (i + 1)
  row_step s' i x r e =
      let same : row_at s' i ≡ row_at s i = ap (λ u. row_at u i) r
      ∙ shared_rows_later factors s shares i i (omega arith) in
      ap (set s' i) e
      ∙ ap (λ (p : Point). set s' i (shared_row p (get_or shares i 0)
      (factors p.segment).multiplier))
      same
      ∙ ap (λ u. set u i (shared_row (row_at s i) (get_or shares i 0)
      (factors (row_at s i).segment).multiplier)) r
      ∙ shared_rows_more factors s shares i

-- the traders are then ready to be settled
pub settling : (ts : List Trader) (s : List Point) (shares : List ℕ) (i : ℕ) →
    length ts ≡ max_traders → metered_sum ts ≤ max_litres → CanCredit ts s shares →
    CanSettle (with_shares ts s shares i)
settling ts s shares i places few ok =
    record {
      places = length_credited_to ts s shares i ∙ places;
      small = λ t. let a = metered_credited_to ts s shares i t in let b = metered_le ts t in
          omega arith;
      within = credit_within ts s shares ok.accounts ok.small i;
    }
