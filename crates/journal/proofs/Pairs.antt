-- Two numbers, each as a value of its place's own type.
use Rattle.std.proofs.Common.{◌≡◌, ◌≢◌, ℕ, ◌+◌, ◌^◌, ◌<◌, List, [], ◌∷◌, length, get_or, pos, unsigned_abs, Ok, Err, Result, refl, sym, ap, subst, ◌∙◌, Bool, Bor, arith, cond, ne_eqb}
use Rattle.std.specs.Int.{FitsUnsignedBits}
use Rattle.std.specs.List.{slice_index}
use Rattle.std.specs.Result.{OkIff, IsOkAnd, MatchResult}
use Rattle.std.specs.declared.num.TryFromIntError.{TryFromIntError}
use Rattle.journal.specs.Calls.{PlainCall, kind_call, plain_call, plain_result, two_number_call}
use Rattle.journal.specs.declared.call.Call.{Call}
use Rattle.journal.specs.declared.fault.Fault.{Fault}
use Rattle.journal.specs.declared.fault.Fault.TheVariants.{Form}
use Rattle.journal.specs.declared.kind.Kind.{Kind}
use Rattle.journal.specs.Numbers.{NarrowsPair, numbers_within, and_then, number_of, numbers_of}
use Rattle.journal.specs.Words.{texts_of}
use Rattle.journal.proofs.NumberLists.{and_then-ok}
use Rattle.journal.proofs.Narrowing.{number_of-from_Narrows}
use Rattle.journal.proofs.Texts.{numbers_of-two}

abbrev Bits : ℕ → ℕ → Result ℕ TryFromIntError → Type 0
Bits bits x r = OkIff r (FitsUnsignedBits bits (pos x)) (unsigned_abs (pos x))

abbrev pair : List ℕ → Result (ℕ × ℕ) Fault
pair ns = Ok (slice_index ns 0, slice_index ns 1)

-- at types of so many bits the two are read up to the largest of each type
pub pair-from_NarrowsPair : (k : Kind) (bits more l m : ℕ) (ws : List (Bor (List ℕ)))
    (r : Result (ℕ × ℕ) Fault) → l + 1 ≡ 2 ^ bits → l < 2 ^ 64 → m + 1 ≡ 2 ^ more → m < 2 ^ 64 →
    (length ws ≢ 2 → r ≡ Err (Form k)) →
    (length ws ≡ 2 → NarrowsPair (Bits bits) (Bits more)
    (number_of 18446744073709551615 (get_or (texts_of ws) 0 []))
    (number_of 18446744073709551615 (get_or (texts_of ws) 1 [])) r) →
    r ≡ and_then (numbers_of k (l ∷ m ∷ []) (texts_of ws))
    (λ ns. Ok (slice_index ns 0, slice_index ns 1))
pair-from_NarrowsPair k bits more l m [] r el sl em sm form both = form (λ e. omega (arith, e))
pair-from_NarrowsPair k bits more l m (v ∷ []) r el sl em sm form both =
    form (λ e. omega (arith, e))
pair-from_NarrowsPair k bits more l m (v ∷ w ∷ x ∷ ws) r el sl em sm form both =
    form (λ e. omega (arith, e))
    ∙ sym (ap (λ (b : Bool). and_then
    (cond b (numbers_within (l ∷ m ∷ []) (texts_of (v ∷ w ∷ x ∷ ws))) (Err (Form k))) pair)
    (ne_eqb (length (texts_of (v ∷ w ∷ x ∷ ws))) 2 (λ e. omega (arith, e))))
pair-from_NarrowsPair k bits more l m (v ∷ w ∷ []) r el sl em sm form both = by (both refl)
    ∙ numbers_of-two k l m (v ∷ w ∷ []) pair refl
  where
    by : NarrowsPair (Bits bits) (Bits more) (number_of 18446744073709551615 v.now)
        (number_of 18446744073709551615 w.now) r →
        r ≡ and_then (number_of l v.now) (λ a. and_then (number_of m w.now) (λ b. Ok (a, b)))
    by (Ok x, first, (b, second, gave)) =
        gave
        ∙ ap (λ (s : Result ℕ Fault). and_then s (λ y. Ok (x, y)))
        (number_of-from_Narrows more m w.now b em sm second)
        ∙ and_then-ok (number_of l v.now) (λ a. and_then (number_of m w.now) (λ b. Ok (a, b))) x
        (number_of-from_Narrows bits l v.now (Ok x) el sl first)
    by (Err e, first, gave) = gave
        ∙ ap (λ (s : Result ℕ Fault). and_then s
        (λ a. and_then (number_of m w.now) (λ b. Ok (a, b))))
        (number_of-from_Narrows bits l v.now (Err e) el sl first)

-- and what is made of them is said
pub plain_result-pair : (P : ℕ × ℕ → Call → Type 0) (said_of : ℕ → ℕ → PlainCall)
    (m : Result (List ℕ) Fault) (r : Result (ℕ × ℕ) Fault) (q : Result Call Fault) →
    r ≡ and_then m (λ ns. Ok (slice_index ns 0, slice_index ns 1)) →
    MatchResult r (λ x. IsOkAnd q (P x)) (λ e. q ≡ Err e) →
    ((x : ℕ × ℕ) (y : Call) → P x y → plain_call y ≡ said_of x.0 x.1) →
    plain_result q ≡ and_then m (λ ns. Ok (said_of (slice_index ns 0) (slice_index ns 1)))
plain_result-pair P said_of (Ok ns) (Ok x) (Ok y) is by says =
    (let e : x ≡ (slice_index ns 0, slice_index ns 1) = cc in (λ i. Ok (says x y by i))
    ∙ ap (λ (z : ℕ × ℕ). Ok (said_of z.0 z.1)) e)
plain_result-pair P said_of (Ok ns) (Ok x) (Err e) is by says = absurd by
plain_result-pair P said_of (Ok ns) (Err e) q is by says = absurd (let z : ⊥ = cc in z)
plain_result-pair P said_of (Err f) (Ok x) q is by says = absurd (let z : ⊥ = cc in z)
plain_result-pair P said_of (Err f) (Err e) q is by says = ap plain_result by
    ∙ (let same : e ≡ f = cc in ap (λ (g : Fault). Err g) same)

-- what a call of two numbers says, at a kind that is known by an equation
pub two_number_call-kind_call :
    (k own : Kind) (limit more : ℕ) (f : ℕ → ℕ → PlainCall) (ws : List (List ℕ)) → k ≡ own →
    two_number_call own limit more f ws ≡ kind_call own ws →
    two_number_call k limit more f ws ≡ kind_call k ws
two_number_call-kind_call k own limit more f ws is at_own =
    subst (λ (kind : Kind). two_number_call kind limit more f ws ≡ kind_call kind ws)
    (sym is) at_own
