-- Lemmas on the rows of a sheet: a test of each, and what the share-out writes.
use Rattle.std.proofs.Common.{◌≡◌, ℕ, zero, suc, ◌+◌, ◌*◌, ◌<◌, ◌≤◌, Bool, true, ◌&&◌, ◌≢◌, List, [], ◌∷◌, sum_by, length, get_or, take, drop, set, ◌++◌, sym, refl, ap, ◌∙◌, subst, ⊎_elim, add-one, arith}
use Rattle.std.proofs.lemmas.List.{length-set, length-take-le, get_or-take, get_or-set_same, get_or-set_other, set-append_left, take-append-drop}
use Rattle.std.specs.List.{list_all}
use Rattle.std.proofs.lemmas.List.{take_more}
use Rattle.std.proofs.lemmas.List.Sums.{sum_by-cons}
use Rattle.std.proofs.lemmas.List.Recursion.{and_push}
use Rattle.std.proofs.lemmas.Bool.{and_parts, and_from, cases_lt}
use Rattle.profiles.specs.declared.factors.Factors.{Factors}
use Rattle.rows.specs.declared.point.Point.{Point}
use Rattle.rows.specs.Limits.{max_open_sum}
use Rattle.rows.proofs.Ranges.{open_sum_small}
use Rattle.rows.specs.Rows.{row_at, no_row, is_summable, shared_row, shared_rows, open_sum_of}

-- A test of each row.

-- one row more
pub list_all-take-more : (test : Point → Bool) (s : List Point) (i : ℕ) → i < length s →
    list_all test (take (i + 1) s) ≡ (list_all test (take i s) && test (row_at s i))
list_all-take-more test s i h =
    ap (list_all test) (take_more s i no_row h)
    ∙ and_push (list_all test) test refl (λ _ _. refl) (take i s) (row_at s i)

-- what holds of each of the first n rows holds of the k-th
pub row_of_all : (test : Point → Bool) (s : List Point) (n k : ℕ) →
    list_all test (take n s) ≡ true → n ≤ length s → k < n → test (row_at s k) ≡ true
row_of_all test s zero k e r h = absurd (let q : ⊥ = omega arith in q)
row_of_all test s (suc n) k e r h =
    let more : list_all test (take (n + 1) s) ≡ true = rw add-one e in
    let both = and_parts (list_all test (take n s)) (test (row_at s n))
    (sym (list_all-take-more test s n (omega arith)) ∙ more) in
    ⊎_elim
    (λ lt. row_of_all test s n k both.0 (omega arith) lt)
    (λ ge. let q : n ≡ k = omega arith in subst (λ (j : ℕ). test (row_at s j) ≡ true) q both.1)
    (cases_lt k n)

pub all_of_rows : (test : Point → Bool) (s : List Point) (n : ℕ) → n ≤ length s →
    ((k : ℕ) → k < n → test (row_at s k) ≡ true) → list_all test (take n s) ≡ true
all_of_rows test s zero r f = refl
all_of_rows test s (suc n) r f =
    rw (← add-one)
    (list_all-take-more test s n (omega arith)
    ∙ and_from (list_all test (take n s)) (test (row_at s n))
    (all_of_rows test s n (omega arith) (λ k h. f k (omega arith))) (f n (omega arith)))

-- The rows once their shares were written.

module _ (factors : ℕ → Factors) (s : List Point) (shares : List ℕ) where
  pub shared_rows_none : s ≡ shared_rows factors s shares 0
  unfolding shared_rows
  shared_rows_none = refl

  pub shared_rows_more : (i : ℕ) → set (shared_rows factors s shares i) i
      (shared_row (row_at s i) (get_or shares i 0) (factors (row_at s i).segment).multiplier)
      ≡ shared_rows factors s shares (i + 1)
  unfolding shared_rows
  shared_rows_more i = rw add-one refl

  pub length_shared_rows : (i : ℕ) → length (shared_rows factors s shares i) ≡ length s
  unfolding shared_rows
  length_shared_rows zero = refl
  length_shared_rows (suc i) = length-set (shared_rows factors s shares i) i _
      ∙ length_shared_rows i

  -- a row whose turn has not come yet
  pub shared_rows_later : (i k : ℕ) → i ≤ k → row_at (shared_rows factors s shares i) k ≡ row_at s k
  unfolding shared_rows
  shared_rows_later zero k h = refl
  shared_rows_later (suc i) k h =
      let ne : k ≢ i = omega arith in
      get_or-set_other (shared_rows factors s shares i) i k _ no_row ne
      ∙ shared_rows_later i k (omega arith)

  -- a row that has had its turn
  pub row_shared_rows : (n k : ℕ) → n ≤ length s → k < n →
      row_at (shared_rows factors s shares n) k ≡ shared_row (row_at s k) (get_or shares k 0)
      (factors (row_at s k).segment).multiplier
  unfolding shared_rows
  row_shared_rows zero k h q = absurd (let z : ⊥ = omega arith in z)
  row_shared_rows (suc n) k h q =
      let x : ℕ → Point = λ j. shared_row (row_at s j) (get_or shares j 0)
      (factors (row_at s j).segment).multiplier in
      let before = shared_rows factors s shares n in
      let len = length_shared_rows n in
      ⊎_elim
      (λ lt. let ne : k ≢ n = omega arith in get_or-set_other before n k (x n) no_row ne
      ∙ row_shared_rows n k (omega arith) lt)
      (λ ge.
      let e : n ≡ k = omega arith in
      let w : n < length before = omega arith in
      subst (λ (j : ℕ). row_at (set before n (x n)) j ≡ x j) e
      (get_or-set_same before n (x n) no_row w))
      (cases_lt k n)

-- the first n rows, taken as a list of their own with its own shares
pub shared_rows_part : (factors : ℕ → Factors) (s : List Point) (shares : List ℕ) (n k : ℕ) →
    n ≤ length s → k ≤ n → shared_rows factors (take n s) (take n shares) k ++ drop n s
    ≡ shared_rows factors s shares k
unfolding shared_rows
shared_rows_part factors s shares n zero r h = take-append-drop n s
shared_rows_part factors s shares n (suc k) r h =
    let x : Point → ℕ → Point = λ p q. shared_row p q (factors p.segment).multiplier in
    let before = shared_rows factors (take n s) (take n shares) k in
    let len : length before ≡ n = length_shared_rows factors (take n s) (take n shares) k
    ∙ length-take-le n s r in
    sym (set-append_left before (drop n s) k (x (row_at (take n s) k) (get_or (take n shares) k 0))
    (omega arith))
    ∙ ap (λ u. set u k (x (row_at (take n s) k) (get_or (take n shares) k 0)))
    (shared_rows_part factors s shares n k r (omega arith))
    ∙ ap (λ (p : Point). set (shared_rows factors s shares k) k (x p (get_or (take n shares) k 0)))
    (get_or-take n s k no_row (omega arith))
    ∙ ap (λ (q : ℕ). set (shared_rows factors s shares k) k (x (row_at s k) q))
    (get_or-take n shares k 0 (omega arith))

-- rows that can be summed for a trader have open sums within their limit
pub open_sums_small : (t : ℕ) (rows : List Point) → list_all (is_summable t) rows ≡ true →
    sum_by (open_sum_of t) rows ≤ length rows * max_open_sum
open_sums_small t [] e = omega arith
open_sums_small t (p ∷ ps) e =
    let both = and_parts (is_summable t p) (list_all (is_summable t) ps) e in
    let c = sum_by-cons (open_sum_of t) p ps in
    let a = open_sum_small t p both.0 in
    let b = open_sums_small t ps both.1 in
    let r : sum_by (open_sum_of t) (p ∷ ps) ≤ length (p ∷ ps) * max_open_sum = omega arith in
    r
