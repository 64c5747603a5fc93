-- Values and faults, one after the other.
use Rattle.std.proofs.Common.{◌≡◌, ℕ, ◌+◌, ◌<◌, Bool, cond, List, [], ◌∷◌, ◌++◌, length, get_or, take, drop, set, IsErrAnd, Vec, Ok, Err, Result, sym, refl, ap, ◌∙◌, subst, append_assoc, arith, eq-eqb}
use Rattle.std.proofs.lemmas.List.{drop_more, take_more_set}
use Rattle.std.specs.declared.alloc.Global.{Global}
use Rattle.journal.specs.declared.call.Call.{Call}
use Rattle.journal.specs.declared.fault.Fault.{Fault}
use Rattle.journal.specs.declared.fault.Fault.TheVariants.{Form}
use Rattle.journal.specs.declared.kind.Kind.{Kind}
use Rattle.journal.specs.Numbers.{number_of, and_then, numbers_within, numbers_of, numbers_after, sheet_numbers}
use Rattle.journal.specs.declared.lines.SheetFault.{SheetFault}
use Rattle.journal.specs.declared.lines.SheetFault.TheVariants.{Memory, Malformed}
use Rattle.journal.specs.Sheets.{AddsNumbers, ReadsSheet}
use Rattle.journal.specs.Calls.{PlainCall, plain_result}

-- what `?` hands on is the fault
pub plain_result-err : {X : Type 0} (q : Result Call Fault) (r : Result X Fault)
    (f : X → Result PlainCall Fault) (e : Fault) → IsErrAnd q (λ y. y ≡ e) → Err e ≡ r →
    plain_result q ≡ and_then r f
plain_result-err (Ok y) r f e by is = absurd by
plain_result-err (Err y) r f e by is = ap (λ (x : Fault). Err x) by
    ∙ ap (λ (s : Result _ Fault). and_then s f) is

-- and a value goes on
pub and_then-ok : {X Y : Type 0} (r : Result X Fault) (f : X → Result Y Fault) (x : X) → Ok x ≡ r →
    f x ≡ and_then r f
and_then-ok r f x is = ap (λ (s : Result _ Fault). and_then s f) is

numbers_after-and_then : (ns : List ℕ) (n : ℕ) (r : Result (List ℕ) Fault) →
    numbers_after ns (and_then r (λ ms. Ok (n ∷ ms))) ≡ numbers_after (ns ++ n ∷ []) r
numbers_after-and_then ns n (Ok ms) =
    ap (λ (xs : List ℕ). Ok xs) (sym (append_assoc ns (n ∷ []) ms))
numbers_after-and_then ns n (Err e) = refl

module _ (limits : List ℕ) (words : List (List ℕ)) (found : List ℕ) (i n : ℕ)
    (hl : i < length limits) (hw : i < length words) where
  numbers_within-drop : numbers_within (drop i limits) (drop i words)
      ≡ and_then (number_of (get_or limits i 0) (get_or words i []))
      (λ m. and_then (numbers_within (drop (i + 1) limits) (drop (i + 1) words))
      (λ ms. Ok (m ∷ ms)))
  numbers_within-drop = λ j. numbers_within (drop_more limits i 0 hl j) (drop_more words i [] hw j)

  pub numbers_after-more : i < length found →
      Ok n ≡ number_of (get_or limits i 0) (get_or words i []) →
      numbers_after (take i found) (numbers_within (drop i limits) (drop i words))
      ≡ numbers_after (take (i + 1) (set found i n))
      (numbers_within (drop (i + 1) limits) (drop (i + 1) words))
  numbers_after-more hf e =
      ap (numbers_after (take i found))
      (numbers_within-drop ∙ sym
      (and_then-ok (number_of (get_or limits i 0) (get_or words i []))
      (λ m. and_then (numbers_within (drop (i + 1) limits) (drop (i + 1) words))
      (λ ms. Ok (m ∷ ms))) n e))
      ∙ numbers_after-and_then (take i found) n
      (numbers_within (drop (i + 1) limits) (drop (i + 1) words))
      ∙ ap (λ (ns : List ℕ). numbers_after ns
      (numbers_within (drop (i + 1) limits) (drop (i + 1) words)))
      (sym (take_more_set found i n hf))

  pub numbers_after-fault : (ns : List ℕ) (f : Fault) →
      Err f ≡ number_of (get_or limits i 0) (get_or words i []) →
      numbers_after ns (numbers_within (drop i limits) (drop i words)) ≡ Err f
  numbers_after-fault ns f e =
      ap (numbers_after ns) (numbers_within-drop
      ∙ sym (ap (λ (r : Result ℕ Fault). and_then r
      (λ m. and_then (numbers_within (drop (i + 1) limits) (drop (i + 1) words))
      (λ ms. Ok (m ∷ ms)))) e))

pub numbers_after-nil : (r : Result (List ℕ) Fault) → numbers_after [] r ≡ r
numbers_after-nil (Ok ms) = refl
numbers_after-nil (Err e) = refl

pub numbers_of-numbers_within : (k : Kind) (limits : List ℕ) (words : List (List ℕ)) →
    length words ≡ length limits → numbers_within limits words ≡ numbers_of k limits words
numbers_of-numbers_within k limits words h =
    sym (ap (λ (b : Bool). cond b (numbers_within limits words) (Err (Form k)))
    (eq-eqb (length words) (length limits) h))

-- what a sheet holds, and the words yet to be read
pub sheet_numbers-more : (words : List (List ℕ)) (i n : ℕ) (have : List ℕ) → i < length words →
    Ok n ≡ number_of 4294967295 (get_or words i []) →
    numbers_after have (sheet_numbers (drop i words))
    ≡ numbers_after (have ++ n ∷ []) (sheet_numbers (drop (i + 1) words))
sheet_numbers-more words i n have h e =
    let f : ℕ → Result (List ℕ) Fault =
    λ m. and_then (sheet_numbers (drop (i + 1) words)) (λ ms. Ok (m ∷ ms)) in
    ap (λ (ws : List (List ℕ)). numbers_after have (sheet_numbers ws)) (drop_more words i [] h)
    ∙ ap (numbers_after have) (sym (and_then-ok (number_of 4294967295 (get_or words i [])) f n e))
    ∙ numbers_after-and_then have n (sheet_numbers (drop (i + 1) words))

pub sheet_numbers-fault : (words : List (List ℕ)) (i : ℕ) (have : List ℕ) (f : Fault) →
    i < length words → Err f ≡ number_of 4294967295 (get_or words i []) →
    numbers_after have (sheet_numbers (drop i words)) ≡ Err f
sheet_numbers-fault words i have f h e =
    let g : ℕ → Result (List ℕ) Fault =
    λ m. and_then (sheet_numbers (drop (i + 1) words)) (λ ms. Ok (m ∷ ms)) in
    ap (λ (ws : List (List ℕ)). numbers_after have (sheet_numbers ws)) (drop_more words i [] h)
    ∙ sym (ap (λ (r : Result ℕ Fault). numbers_after have (and_then r g)) e)

-- one list of words behind another
pub sheet_numbers-append : (xs ys : List (List ℕ)) →
    sheet_numbers (xs ++ ys)
    ≡ and_then (sheet_numbers xs) (λ ns. numbers_after ns (sheet_numbers ys))
sheet_numbers-append [] ys = sym (numbers_after-nil (sheet_numbers ys))
sheet_numbers-append (x ∷ xs) ys =
    ap (λ (r : Result (List ℕ) Fault). and_then (number_of 4294967295 x)
    (λ n. and_then r (λ ns. Ok (n ∷ ns)))) (sheet_numbers-append xs ys)
    ∙ by (number_of 4294967295 x) (sheet_numbers xs) (sheet_numbers ys)
  where
    by : (r : Result ℕ Fault) (p q : Result (List ℕ) Fault) →
        and_then r (λ n. and_then (and_then p (λ ns. numbers_after ns q)) (λ ns. Ok (n ∷ ns)))
        ≡ and_then (and_then r (λ n. and_then p (λ ns. Ok (n ∷ ns)))) (λ ns. numbers_after ns q)
    by (Ok n) (Ok ns) (Ok ms) = refl
    by (Ok n) (Ok ns) (Err e) = refl
    by (Ok n) (Err e) q = refl
    by (Err e) p q = refl

pub numbers_after-numbers_after : (have ns : List ℕ) (r : Result (List ℕ) Fault) →
    numbers_after have (numbers_after ns r) ≡ numbers_after (have ++ ns) r
numbers_after-numbers_after have ns (Ok ms) =
    ap (λ (xs : List ℕ). Ok xs) (sym (append_assoc have ns ms))
numbers_after-numbers_after have ns (Err e) = refl

-- a line that was read, before the lines behind it
pub sheet_numbers-line : (have now : List ℕ) (xs ys : List (List ℕ)) →
    numbers_after have (sheet_numbers xs) ≡ Ok now →
    numbers_after have (sheet_numbers (xs ++ ys)) ≡ numbers_after now (sheet_numbers ys)
sheet_numbers-line have now xs ys e = ap (numbers_after have) (sheet_numbers-append xs ys)
    ∙ by (sheet_numbers xs) e
  where
    by : (r : Result (List ℕ) Fault) → numbers_after have r ≡ Ok now →
        numbers_after have (and_then r (λ ns. numbers_after ns (sheet_numbers ys)))
        ≡ numbers_after now (sheet_numbers ys)
    by (Ok ns) p = numbers_after-numbers_after have ns (sheet_numbers ys)
        ∙ (let q : have ++ ns ≡ now = cc in
        ap (λ (ms : List ℕ). numbers_after ms (sheet_numbers ys)) q)
    by (Err f) p = absurd (let z : ◌≡◌ {A = ℕ} 0 1 = cc in omega arith)

pub sheet_numbers-line_fault : (have : List ℕ) (xs ys : List (List ℕ)) (f : Fault) →
    numbers_after have (sheet_numbers xs) ≡ Err f →
    numbers_after have (sheet_numbers (xs ++ ys)) ≡ Err f
sheet_numbers-line_fault have xs ys f e = ap (numbers_after have) (sheet_numbers-append xs ys)
    ∙ by (sheet_numbers xs) e
  where
    by : (r : Result (List ℕ) Fault) → numbers_after have r ≡ Err f →
        numbers_after have (and_then r (λ ns. numbers_after ns (sheet_numbers ys))) ≡ Err f
    by (Ok ns) p = absurd (let z : ◌≡◌ {A = ℕ} 0 1 = cc in omega arith)
    by (Err g) p = p

-- a word that is no number ends a sheet
pub AddsNumbers-err : (q : Result Unit SheetFault) (f : SheetFault) (line : ℕ) (e : Fault)
    (was : List ℕ) (words : List (List ℕ)) (now : List ℕ) → IsErrAnd q (λ y. y ≡ f) →
    f ≡ Malformed line e → numbers_after was (sheet_numbers words) ≡ Err e →
    AddsNumbers q was words now
AddsNumbers-err (Ok x) f line e was words now by is h = absurd by
AddsNumbers-err (Err y) f line e was words now by is h =
    subst (λ (z : SheetFault). AddsNumbers (Err z) was words now) (sym (by ∙ is)) h

-- a line that was not read ends the file
pub ReadsSheet-stop : (e : SheetFault) (have : List ℕ) (xs ys : List (List ℕ)) (now : List ℕ)
    (all : List (List ℕ)) → AddsNumbers (Err e) have xs now →
    sheet_numbers all ≡ numbers_after have (sheet_numbers (xs ++ ys)) → ReadsSheet (Err e) all
ReadsSheet-stop Memory have xs ys now all t is = tt
ReadsSheet-stop (Malformed line f) have xs ys now all t is = is
    ∙ sheet_numbers-line_fault have xs ys f t

pub ReadsSheet-err : (q : Result (Vec ℕ Global) SheetFault) (e : SheetFault) (all : List (List ℕ)) →
    IsErrAnd q (λ y. y ≡ e) → ReadsSheet (Err e) all → ReadsSheet q all
ReadsSheet-err (Ok x) e all by h = absurd by
ReadsSheet-err (Err y) e all by h = subst (λ (z : SheetFault). ReadsSheet (Err z) all) (sym by) h
