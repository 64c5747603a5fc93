-- Which numbers digits write.
use Rattle.std.proofs.Common.{◌≡◌, ℕ, ◌^◌, ◌<◌, ◌≤◌, Bool, true, cond, ◌&&◌, leb, List, [], ◌∷◌, length, Ok, Err, decimal, refl, ap, ◌∙◌, arith, le-leb}
use Rattle.std.specs.Char.{is_ascii_digit}
use Rattle.std.specs.List.{list_all}
use Rattle.std.specs.Str.Parse.{digits_value}
use Rattle.std.specs.Str.{all_ascii_digits}
use Rattle.std.proofs.lemmas.Fmt.{decimal_nonempty, digits_decimal, digits_value-decimal}
use Rattle.std.proofs.lemmas.Str.Parse.{IsNumeralModel, numerals_by_value, tells_all_ascii_digits}
use Rattle.journal.specs.declared.fault.Fault.TheVariants.{NotNumber, TooLarge}
use Rattle.journal.specs.Numbers.{number_of, is_numeral}

-- these words are the library's own for a numeral
pub numeral_model : IsNumeralModel (λ ds. all_ascii_digits ds ≡ true) (digits_value 10)
numeral_model = numerals_by_value _ tells_all_ascii_digits

pub list_all-is_ascii_digit : (ds : List ℕ) → list_all is_ascii_digit ds ≡ all_ascii_digits ds
list_all-is_ascii_digit [] = refl
list_all-is_ascii_digit (d ∷ ds) =
    ap (λ (b : Bool). is_ascii_digit d && b) (list_all-is_ascii_digit ds)

-- what is written of a number is read as that number
pub number_of-decimal : (limit n : ℕ) → limit < 2 ^ 64 → n ≤ limit →
    number_of limit (decimal n) ≡ Ok n
number_of-decimal limit n top h =
    let small : n < 2 ^ 64 = omega arith in
    let long : leb 1 (length (decimal n)) ≡ true =
    le-leb 1 (length (decimal n)) (omega (arith, decimal_nonempty n small)) in
    let all : all_ascii_digits (decimal n) ≡ true = digits_decimal numeral_model n small in
    let is : digits_value 10 (decimal n) ≡ n = digits_value-decimal numeral_model n small in
    let fits : leb (digits_value 10 (decimal n)) limit ≡ true =
    le-leb (digits_value 10 (decimal n)) limit (omega (arith, is)) in
    let num : is_numeral (decimal n) ≡ true = (λ i. long i && all i) in
    ap (λ (b : Bool). cond b
    (cond (leb (digits_value 10 (decimal n)) limit) (Ok (digits_value 10 (decimal n)))
    (Err TooLarge)) (Err NotNumber)) num
    ∙ ap (λ (b : Bool). cond b (Ok (digits_value 10 (decimal n))) (Err TooLarge)) fits
    ∙ ap (λ (m : ℕ). Ok m) is
