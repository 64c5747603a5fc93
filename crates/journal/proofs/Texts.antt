-- What slices hold, word by word.
use Rattle.std.proofs.Common.{◌≡◌, ℕ, Bool, cond, List, [], ◌∷◌, length, get_or, Ok, Err, Result, sym, refl, ap, ◌∙◌, Bor, eq-eqb, arith}
use Rattle.std.proofs.Math.ListN.{get_or-map}
use Rattle.std.proofs.lemmas.List.{length-map}
use Rattle.journal.specs.declared.fault.Fault.{Fault}
use Rattle.journal.specs.declared.fault.Fault.TheVariants.{Form}
use Rattle.journal.specs.declared.kind.Kind.{Kind}
use Rattle.journal.specs.Numbers.{and_then, number_of, numbers_of}
use Rattle.journal.specs.Words.{texts_of}
use Rattle.journal.specs.Calls.{PlainCall, result_for_count}

-- what stands where a list of slices has ended
abbrev pub nil : Bor (List ℕ)
nil = record { ref_ptr = (0, 0); now = [] }

abbrev pub text_at : List (Bor (List ℕ)) → ℕ → List ℕ
text_at ws i = (get_or ws i nil).now

pub get_or-texts_of : (ws : List (Bor (List ℕ))) (i : ℕ) → get_or (texts_of ws) i [] ≡ text_at ws i
get_or-texts_of ws i = get_or-map (λ w. w.now) ws i nil

-- a call with just so many words
pub result_for_count-at : (k : Kind) (n : ℕ) (ws : List (Bor (List ℕ)))
    (f : (ℕ → List ℕ) → Result PlainCall Fault) → length ws ≡ n →
    f (text_at ws) ≡ result_for_count k n (texts_of ws) (f (λ i. get_or (texts_of ws) i []))
result_for_count-at k n ws f h =
    sym (ap f (λ j i. get_or-texts_of ws i j))
    ∙ sym (ap (λ (b : Bool). cond b (f (λ i. get_or (texts_of ws) i [])) (Err (Form k)))
    (eq-eqb (length (texts_of ws)) n (length-map ws (λ w. w.now) ∙ h)))

-- two words, each a number within its own limit
pub numbers_of-two : {Y : Type 0} (k : Kind) (l m : ℕ) (ws : List (Bor (List ℕ)))
    (f : List ℕ → Result Y Fault) → length ws ≡ 2 →
    and_then (number_of l (text_at ws 0))
    (λ a. and_then (number_of m (text_at ws 1)) (λ b. f (a ∷ b ∷ [])))
    ≡ and_then (numbers_of k (l ∷ m ∷ []) (texts_of ws)) f
numbers_of-two k l m [] f h = absurd (omega arith)
numbers_of-two k l m (v ∷ []) f h = absurd (omega arith)
numbers_of-two k l m (v ∷ w ∷ x ∷ ws) f h = absurd (omega arith)
numbers_of-two k l m (v ∷ w ∷ []) f h = by (number_of l v.now) (number_of m w.now)
  where
    by : (r q : Result ℕ Fault) →
        and_then r (λ a. and_then q (λ b. f (a ∷ b ∷ [])))
        ≡ and_then (and_then r (λ a. and_then (and_then q (λ b. Ok (b ∷ []))) (λ ns. Ok (a ∷ ns))))
        f
    by (Ok a) (Ok b) = refl
    by (Ok a) (Err e) = refl
    by (Err e) q = refl
