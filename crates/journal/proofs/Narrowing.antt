-- A number as a value of its place's own type.
use Rattle.std.proofs.Common.{◌≡◌, ℕ, ◌+◌, ◌^◌, ◌<◌, Bool, true, false, cond, leb, List, pos, unsigned_abs, refl, subst, Ok, Err, Result, sym, ap, ◌∙◌, arith, le-leb}
use borrow.Author.Tests.{lt-leb, leb-false}
use Rattle.std.specs.Int.{FitsUnsignedBits}
use Rattle.std.specs.Result.{OkIff, IsErrAnd, MatchResult}
use Rattle.std.specs.Str.Parse.{digits_value}
use Rattle.std.specs.declared.num.TryFromIntError.{TryFromIntError}
use Rattle.journal.specs.declared.fault.Fault.{Fault}
use Rattle.journal.specs.declared.fault.Fault.TheVariants.{NotNumber, TooLarge}
use Rattle.journal.specs.Numbers.{Narrows, number_of, is_numeral}

-- at a type of so many bits a number is read up to the type's largest
pub number_of-from_Narrows : (bits limit : ℕ) (word : List ℕ) (q : Result ℕ Fault) →
    limit + 1 ≡ 2 ^ bits → limit < 2 ^ 64 →
    Narrows (λ x (r : Result ℕ TryFromIntError). OkIff r (FitsUnsignedBits bits (pos x))
    (unsigned_abs (pos x))) (number_of 18446744073709551615 word) q → q ≡ number_of limit word
number_of-from_Narrows bits limit word q is small h =
    by (is_numeral word) (leb v 18446744073709551615) refl h
  where
    v : ℕ
    v = digits_value 10 word

    by : (b t : Bool) → leb v 18446744073709551615 ≡ t →
        Narrows (λ x (r : Result ℕ TryFromIntError). OkIff r (FitsUnsignedBits bits (pos x))
        (unsigned_abs (pos x))) (cond b (cond t (Ok v) (Err TooLarge)) (Err NotNumber)) q →
        q ≡ cond b (cond (leb v limit) (Ok v) (Err TooLarge)) (Err NotNumber)
    by false t e h = h
    by true false e h =
        let low : leb v limit ≡ false =
        lt-leb v limit (omega (arith, leb-false v 18446744073709551615 e)) in
        h ∙ sym (ap (λ (t : Bool). cond t (Ok v) (Err TooLarge)) low)
    by true true e (Ok x, (fits, same), gave) = gave ∙ ap (λ (n : ℕ). Ok n) same
        ∙ sym (ap (λ (t : Bool). cond t (Ok v) (Err TooLarge)) (le-leb v limit (omega arith)))
    by true true e (Err x, above, gave) =
        let high : limit < v = omega (arith, above) in
        gave ∙ sym (ap (λ (t : Bool). cond t (Ok v) (Err TooLarge)) (lt-leb v limit high))

-- what a `map_err` was given, by what it gave
pub ok-from_map_err : {X E G : Type 0} (P : E → G → Type 0) (r : Result X E) (q : Result X G)
    (n : X) → MatchResult r (λ x. q ≡ Ok x) (λ e. IsErrAnd q (P e)) → q ≡ Ok n → Ok n ≡ r
ok-from_map_err P (Ok x) q n h is = let e : n ≡ x = cc in ap (λ (y : _). Ok y) e
ok-from_map_err P (Err e) (Ok y) n h is = absurd h
ok-from_map_err P (Err e) (Err y) n h is = absurd (let z : ⊥ = cc in z)

pub err-from_map_err : {X E G : Type 0} (P : E → G → Type 0) (r : Result X E) (q : Result X G)
    (f : G) → MatchResult r (λ x. q ≡ Ok x) (λ e. IsErrAnd q (P e)) → q ≡ Err f →
    (e : E) × (Err e ≡ r) × P e f
err-from_map_err P (Ok x) q f h is = absurd (let z : ⊥ = cc in z)
err-from_map_err P (Err e) (Ok y) f h is = absurd h
err-from_map_err P (Err e) (Err y) f h is = (e, refl, let same : y ≡ f = cc in subst (P e) same h)
