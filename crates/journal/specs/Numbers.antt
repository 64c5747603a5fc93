-- Which numbers and temperatures words write.
use Rattle.std.specs.Prelude.{◌≡◌, ℕ, MatchResult, ◌+◌, ◌-◌, ◌*◌, Bool, cond, ◌&&◌, List, [], ◌∷◌, ◌++◌, length, take, drop, ℤ, pos, neg_ℤ, Ok, Err, Result, ◌==◌, nat_le, slice_index}
use Rattle.std.specs.Str.Parse.{digits_value}
use Rattle.std.specs.List.{list_all}
use Rattle.std.specs.Str.{all_ascii_digits}
use Rattle.journal.specs.declared.fault.Fault.{Fault}
use Rattle.journal.specs.declared.fault.Fault.TheVariants.{NotNumber, TooLarge, Form}
use Rattle.journal.specs.declared.kind.Kind.{Kind}

-- one digit or more, and nothing else
abbrev pub is_numeral : List ℕ → Bool
is_numeral word = nat_le 1 (length word) && all_ascii_digits word

-- a number is written in decimal digits, and has to keep within its place's limit
abbrev pub number_of : ℕ → List ℕ → Result ℕ Fault
number_of limit word =
    cond (is_numeral word)
    (cond (nat_le (digits_value 10 word) limit) (Ok (digits_value 10 word)) (Err TooLarge))
    (Err NotNumber)

-- as Rust's `and_then`: f of a value, or the fault in place of it
abbrev pub and_then : {X Y : Type 0} → Result X Fault → (X → Result Y Fault) → Result Y Fault
and_then (Ok x) f = f x
and_then (Err e) f = Err e

-- each word a number within its own limit
abbrev pub numbers_within : List ℕ → List (List ℕ) → Result (List ℕ) Fault
numbers_within [] words = Ok []
numbers_within (limit ∷ limits) [] = Ok []
numbers_within (limit ∷ limits) (word ∷ words) =
    and_then (number_of limit word) (λ n.
    and_then (numbers_within limits words) (λ ns.
    Ok (n ∷ ns)))

-- as many numbers as there are limits
abbrev pub numbers_of : Kind → List ℕ → List (List ℕ) → Result (List ℕ) Fault
numbers_of kind limits words =
    cond (length words == length limits) (numbers_within limits words) (Err (Form kind))

-- every byte of the word belongs to a class
abbrev pub word_check : (ℕ → Bool) → Fault → List ℕ → Result Unit Fault
word_check class fault word = cond (list_all class word) (Ok tt) (Err fault)

-- a number as a value of another type of numbers: too large where that type does not have it
abbrev pub Narrows :
    {N E : Type 0} → (ℕ → Result N E → Type 0) → Result ℕ Fault → Result N Fault → Type 0
Narrows {N} {E} converts (Err fault) result = result ≡ Err fault
Narrows {N} {E} converts (Ok n) result =
    (value : Result N E) × converts n value
    × MatchResult value (λ x. result ≡ Ok x) (λ _. result ≡ Err TooLarge)

-- two numbers as values of other types of numbers: the second is read where the first type has
-- its number
abbrev pub NarrowsPair :
    {A B E F : Type 0} → (ℕ → Result A E → Type 0) → (ℕ → Result B F → Type 0) →
    Result ℕ Fault → Result ℕ Fault → Result (A × B) Fault → Type 0
NarrowsPair {A} {B} first second m n result =
    (a : Result A Fault) × Narrows first m a
    × MatchResult a
    (λ x. (b : Result B Fault) × Narrows second n b × (result ≡ and_then b (λ y. Ok (x, y))))
    (λ e. result ≡ Err e)

-- whether a temperature has a decimal: one digit behind a point
abbrev pub has_decimal : List ℕ → Bool
has_decimal word = nat_le 2 (length word) && slice_index word (length word - 2) == 46

-- the tenths of a whole number of degrees
abbrev pub tenths_of_whole : List ℕ → Result ℕ Fault
tenths_of_whole word = and_then (number_of 3276 word) (λ n. Ok (n * 10))

-- the tenths of a temperature without a sign
abbrev pub magnitude_of : List ℕ → Result ℕ Fault
magnitude_of word =
    cond (has_decimal word)
    (and_then (tenths_of_whole (take (length word - 2) word)) (λ n.
    and_then (number_of 9 (drop (length word - 1) word)) (λ d.
    Ok (n + d))))
    (tenths_of_whole word)

abbrev pub is_negative : List ℕ → Bool
is_negative word = nat_le 1 (length word) && slice_index word 0 == 45

abbrev pub tenths_above_zero : ℕ → Result ℤ Fault
tenths_above_zero n = cond (nat_le n 32767) (Ok (pos n)) (Err TooLarge)

abbrev pub tenths_below_zero : ℕ → Result ℤ Fault
tenths_below_zero n = cond (nat_le n 32768) (Ok (neg_ℤ (pos n))) (Err TooLarge)

-- the tenths of a degree that a word writes
abbrev pub tenths_of : List ℕ → Result ℤ Fault
tenths_of word =
    cond (is_negative word)
    (and_then (magnitude_of (drop 1 word)) tenths_below_zero)
    (and_then (magnitude_of word) tenths_above_zero)

-- every word a number of 32 bits
abbrev pub sheet_numbers : List (List ℕ) → Result (List ℕ) Fault
sheet_numbers [] = Ok []
sheet_numbers (word ∷ words) =
    and_then (number_of 4294967295 word) (λ n.
    and_then (sheet_numbers words) (λ ns.
    Ok (n ∷ ns)))

-- numbers put before those that follow
abbrev pub numbers_after : List ℕ → Result (List ℕ) Fault → Result (List ℕ) Fault
numbers_after ns r = and_then r (λ ms. Ok (ns ++ ms))
