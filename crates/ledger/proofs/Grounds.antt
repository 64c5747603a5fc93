-- What is known of a call where no ground of refusal is met, and what holds after one that may be
-- refused.
use Rattle.std.proofs.Common.{◌≡◌, ℕ, Bool, true, false, cond, Some, None, Ok, Err, Option, sym, refl, ap, arith}
use Rattle.refusals.specs.declared.Refusal.{Refusal}
use Rattle.ledger.specs.Grounds.{call_answer, unless}

pub some_none : {A : Type 0} (w : Refusal) → Some w ≡ None → A
some_none w e = let z : ◌≡◌ {A = ℕ} 0 1 = cc in absurd (let q : ⊥ = omega arith in q)

-- no ground at all: not the first of them, and none of the others
pub no_ground : (b : Bool) (w : Refusal) (o : Option Refusal) → cond b (Some w) o ≡ None →
    (b ≡ false) × (o ≡ None)
no_ground true w o e = some_none w e
no_ground false w o e = (refl, e)

-- what holds both of an accepted call and of a refused one
pub by_option : (P : Option Refusal → Type 0) (o : Option Refusal) → (o ≡ None → P None) →
    ((w : Refusal) → P (Some w)) → P o
by_option P None f g = f refl
by_option P (Some w) f g = g w

pub by_unless : {A : Type 0} (P : A → Type 0) (o : Option Refusal) (new old : A) →
    (o ≡ None → P new) → P old → P (unless o new old)
by_unless P o new old f g = by_option (λ v. P (unless v new old)) o f (λ w. g)

-- what a test gave: the ground that refuses, or that there is none
pub refused_by : {A : Type 0} (f : Option Refusal) (x : A) (w : Refusal) → Err w ≡ call_answer f x →
    f ≡ Some w
refused_by None x w e = cc
refused_by (Some v) x w e = cc

pub passed_by : {A : Type 0} (f : Option Refusal) (x y : A) → Ok y ≡ call_answer f x →
    (f ≡ None) × (y ≡ x)
passed_by None x y e = (refl, cc)
passed_by (Some v) x y e = cc

-- what a call leaves in any case
pub unchanged : {A : Type 0} (f : Option Refusal) (x : A) → x ≡ unless f x x
unchanged None x = refl
unchanged (Some w) x = refl

-- a call that its test refuses answers so, and changes nothing
pub stays : {A B X : Type 0} (f : Option Refusal) (y : B) (x : A) (new old : X) (w : Refusal) →
    Err w ≡ call_answer f y → (Err w ≡ call_answer f x) × (old ≡ unless f new old)
stays f y x new old w e =
    let some = refused_by f y w e in (
      sym (ap (λ (o : Option Refusal). call_answer o x) some),
      sym
          (ap (λ (o : Option Refusal). unless o new old) some),
    )
