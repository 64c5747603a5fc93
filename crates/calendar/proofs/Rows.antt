-- The table's two rows have the days before each month, which one computed test of each row shows.
use Rattle.std.proofs.Common.{◌≡◌, ℕ, zero, suc, ◌+◌, ◌-◌, ◌<◌, ◌≤◌, Bool, true, false, ◌&&◌, eqb, leb, List, [], ◌∷◌, length, get_or, refl, sym, ap, subst, ◌∙◌, ⊎_elim, arith}
use mir.Val.{bool_byte}
use Rattle.std.specs.List.Sorted.{IsNonDecreasingBy, IsPartitionedBy, IsPartitionPoint}
use Rattle.std.proofs.lemmas.List.Sorted.{IsNonDecreasingBy-from_default, IsPartitionedBy-leb}
use Rattle.std.proofs.lemmas.Bool.{cases_lt, leb-true, leb-false}
use Rattle.std.proofs.lemmas.Bool.Decides.{Decides-eqb, Decides-below_and}
use Rattle.calendar.specs.Days.{month_length, days_before_month, year_length}
use Rattle.calendar.specs.declared.months.Row.{Row}
use Rattle.calendar.proofs.Counting.{days_before_month-zero, days_before_month-add_one, days_before_december, month_by_month}

-- the days before each month, as src/months.rt writes them
abbrev pub row : Bool → List ℕ
row true =
    0 ∷ 31 ∷ 60 ∷ 91 ∷ 121 ∷ 152 ∷ 182 ∷ 213 ∷ 244 ∷ 274 ∷ 305 ∷ 335 ∷ []
row false =
    0 ∷ 31 ∷ 59 ∷ 90 ∷ 120 ∷ 151 ∷ 181 ∷ 212 ∷ 243 ∷ 273 ∷ 304 ∷ 334 ∷ []

abbrev is_right : Bool → ℕ → Bool
is_right leap month = eqb (get_or (row leap) month 0) (days_before_month leap month)

abbrev are_right_below : Bool → ℕ → Bool
are_right_below leap zero = true
are_right_below leap (suc n) = is_right leap n && are_right_below leap n

row-from_test :
    (leap : Bool)
    → are_right_below leap 12 ≡ true
    → (month : ℕ)
    → month < 12
    → get_or (row leap) month 0 ≡ days_before_month leap month
row-from_test leap passed =
    (Decides-below_and
    (is_right leap)
    (λ k. get_or (row leap) k 0 ≡ days_before_month leap k)
    (are_right_below leap)
    (λ k. Decides-eqb _ _) refl (λ _. refl) 12).0
    passed

get_or-row :
    (leap : Bool) (month : ℕ)
    → month < 12
    → get_or (row leap) month 0 ≡ days_before_month leap month
unfolding days_before_month
get_or-row true = row-from_test true refl
get_or-row false = row-from_test false refl

-- the common year's row stands at 0 and the leap year's at 1
pub row_of_kind :
    (common leaping default : Row) (leap : Bool) (i : ℕ)
    → i ≡ bool_byte leap
    → common.before ≡ row false
    → leaping.before ≡ row true
    → (get_or (common ∷ leaping ∷ []) i default).before ≡ row leap
row_of_kind common leaping default true i e ec el = rw e el
row_of_kind common leaping default false i e ec el = rw e ec

pub get_or-is_row :
    (xs : List ℕ) (leap : Bool) (month : ℕ)
    → xs ≡ row leap
    → month < 12
    → get_or xs month 0 ≡ days_before_month leap month
get_or-is_row xs leap month e h = ap (λ l. get_or l month 0) e ∙ get_or-row leap month h

length-row : (leap : Bool) → length (row leap) ≡ 12
length-row true = refl
length-row false = refl

row_rises : (leap : Bool) → IsNonDecreasingBy (λ b. b) (row leap)
row_rises leap =
    IsNonDecreasingBy-from_default (λ b. b) (row leap) 0
    (λ i j le lt.
    ⊎_elim
    (λ less.
    omega (
      arith,
      length-row leap,
      get_or-row leap i,
      get_or-row leap j,
      month_by_month leap i j less,
    ))
    (λ (more : j ≤ i). let e : i ≡ j = omega arith in rw e (omega arith))
    (cases_lt i j))

-- the months begun by a day are parted from the later ones at `begun`
abbrev pub PartsAt : List ℕ → ℕ → ℕ → Type 0
PartsAt xs day begun =
    IsPartitionedBy (λ b. leb b day) xs
    → IsPartitionPoint (λ b. leb b day ≡ true) (λ b. leb b day ≡ false) xs begun

-- the day lies in the last month begun
pub record LiesInLast (leap : Bool) (day begun : ℕ) : Type 0 where
  pub some : 1 ≤ begun
  pub from : days_before_month leap (begun - 1) ≤ day
  pub to : day < days_before_month leap (begun - 1) + month_length leap (begun - 1)

lies_in_last_of_row :
    (leap : Bool) (day begun : ℕ)
    → day < year_length leap
    → begun ≤ length (row leap)
    → PartsAt (row leap) day begun
    → LiesInLast leap day begun
lies_in_last_of_row leap day begun h bound parts =
    let n = length-row leap in
    let s = parts (IsPartitionedBy-leb (λ b. b) (row leap) day (row_rises leap)) in
    let some : 0 < begun =
    ⊎_elim
    (λ more. more)
    (λ (none : begun ≤ 0).
    absurd (omega (
      arith,
      leb-false _ _ (s.1 0 0 (omega arith) (omega arith)),
      get_or-row leap 0 (omega arith),
      days_before_month-zero leap,
    )))
    (cases_lt 0 begun)
    in
    let last = begun - 1 in
    let next = days_before_month-add_one leap last in
    record {
      some = some;
      from =
          omega (
            arith,
            leb-true _ _ (s.0 last 0 (omega arith) (omega arith)),
            get_or-row leap last (omega arith),
          );
      to =
          ⊎_elim
          (λ (less : begun < 12).
          let e : last + 1 ≡ begun = omega arith in
          let at = rw e at next in
          omega (
            arith,
            at,
            leb-false _ _ (s.1 begun 0 (omega arith) (omega arith)),
            get_or-row leap begun less,
          ))
          (λ (twelve : 12 ≤ begun).
          let e : last ≡ 11 = omega arith in
          rw e (omega (arith, days_before_december leap)))
          (cases_lt begun 12);
    }

pub lies_in_last :
    (xs : List ℕ) (leap : Bool) (day begun : ℕ)
    → xs ≡ row leap
    → day < year_length leap
    → begun ≤ length xs
    → PartsAt xs day begun
    → LiesInLast leap day begun
lies_in_last xs leap day begun e h =
    subst (λ ys. begun ≤ length ys → PartsAt ys day begun → LiesInLast leap day begun) (sym e)
    (lies_in_last_of_row leap day begun h)
