-- The number that digits write, digit by digit.
use Rattle.std.proofs.Common.{◌≡◌, ℕ, ◌+◌, ◌-◌, ◌*◌, ◌<◌, ◌≤◌, true, List, [], ◌∷◌, ◌++◌, length, slice_index_or, take, drop, sym, refl, ap, ◌∙◌, arith, take-append-drop}
use Rattle.std.specs.Str.Parse.{digits_value, digits_value_after}
use Rattle.std.specs.Char.{digit_value}
use Rattle.std.specs.Str.{all_ascii_digits}
use Rattle.std.proofs.lemmas.Bool.Decides.{nat_tests}
use Rattle.std.proofs.lemmas.Int.Digits.{digits_value_more}
use Rattle.std.proofs.lemmas.Str.Parse.{digit_at}
use Rattle.journal.proofs.Decimals.{numeral_model}

digit_value-digit : (c : ℕ) → 48 ≤ c → c ≤ 57 → digit_value c ≡ c - 48
digit_value-digit c low high = grind (arith, nat_tests)

-- a byte that is a digit
pub record IsDigit (c : ℕ) : Type 0 where
  pub low : 48 ≤ c
  pub high : c ≤ 57

pub digit_of : (ds : List ℕ) (i : ℕ) → all_ascii_digits ds ≡ true → i < length ds →
    IsDigit (slice_index_or ds i 0)
digit_of ds i all h =
    let p = digit_at ds i (numeral_model.to ds all) h in
    record { low = omega (arith, p); high = omega (arith, p) }

pub digits_value-take_more : (ds : List ℕ) (i : ℕ) → all_ascii_digits ds ≡ true → i < length ds →
    digits_value 10 (take (i + 1) ds)
    ≡ digits_value 10 (take i ds) * 10 + (slice_index_or ds i 0 - 48)
digits_value-take_more ds i all h =
    let d = digit_of ds i all h in
    digits_value_more 10 ds i h
    ∙ ap (λ (x : ℕ). digits_value 10 (take i ds) * 10 + x)
    (digit_value-digit (slice_index_or ds i 0) d.low d.high)

value_after-append : (n : ℕ) (xs ys : List ℕ) →
    digits_value_after 10 n (xs ++ ys) ≡ digits_value_after 10 (digits_value_after 10 n xs) ys
value_after-append n [] ys = refl
value_after-append n (x ∷ xs) ys = value_after-append (n * 10 + digit_value x) xs ys

value_after_grows : (n : ℕ) (ds : List ℕ) → n ≤ digits_value_after 10 n ds
value_after_grows n [] = omega arith
value_after_grows n (d ∷ ds) = omega (arith, value_after_grows (n * 10 + digit_value d) ds)

-- a number is no smaller than its front
pub digits_value-take : (ds : List ℕ) (i : ℕ) →
    digits_value 10 (take i ds) ≤ digits_value 10 ds
digits_value-take ds i =
    let e : digits_value 10 ds
    ≡ digits_value_after 10 (digits_value 10 (take i ds)) (drop i ds) =
    ap (digits_value 10) (sym (take-append-drop i ds))
    ∙ value_after-append 0 (take i ds) (drop i ds) in
    omega (arith, e, value_after_grows (digits_value 10 (take i ds)) (drop i ds))
