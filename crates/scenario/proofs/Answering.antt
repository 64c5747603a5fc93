-- What holds after a call that may be refused, from the ground of its refusal.
use Rattle.std.proofs.Common.{◌≡◌, Bool, true, false, cond, not, [], ◌∷◌, None, Some, Option, Result, IfOk, IfErr, MatchResult, sym, refl, ap, subst}
use Rattle.std.specs.Result.{IsErr}
use Rattle.std.proofs.lemmas.Result.{IfErr-weaker, MatchResult-weaker}
use Rattle.refusals.specs.declared.Refusal.{Refusal}
use Rattle.refusals.specs.declared.Refusal.TheVariants.{NotRunning}
use Rattle.refusals.specs.declared.Refused.{Refused}
use Rattle.ledger.specs.declared.book.Book.{Book}
use Rattle.ledger.specs.declared.day.Phase.{Phase}
use Rattle.ledger.specs.declared.day.Phase.TheVariants.{Idle, Open, Measured}
use Rattle.ledger.specs.Days.{abandonment_fault}
use Rattle.ledger.specs.Grounds.{first_ground, call_answer, token_answer, unless}
use Rattle.ledger.specs.Tokens.{DayToken, OpenToken, MeasuredToken, is_idle, is_running}
use Rattle.ledger.proofs.Grounds.{by_unless}
use Rattle.ledger.proofs.HandedBack.{handed}
use Rattle.scenario.specs.Days.{IsRunning, HandsBack}

-- of the ledger that it leaves
pub left : (P : Book → Type 0) (f : Option Refusal) (new old b : Book) → b ≡ unless f new old →
    P new → P old → P b
left P f new old b e h k = subst P (sym e) (by_unless P f new old (λ _. h) k)

answered : {A : Type 0} (P : Book → A → Type 0) (f : Option Refusal) (x : A) (new old : Book) →
    P new x →
    MatchResult (call_answer f x) (P (unless f new old)) (λ _. unless f new old ≡ old)
answered P None x new old h = h
answered P (Some why) x new old h = refl

-- of its answer and the ledger
pub after_call : {A : Type 0} (P : Book → A → Type 0) (f : Option Refusal) (x : A)
    (new old b : Book) (r : Result A Refusal) →
    r ≡ call_answer f x → b ≡ unless f new old → P new x → MatchResult r (P b) (λ _. b ≡ old)
after_call P f x new old b r er eb h =
    subst (λ (v : Book). MatchResult r (P v) (λ _. v ≡ old)) (sym eb)
    (subst (λ v. MatchResult v (P (unless f new old)) (λ _. unless f new old ≡ old)) (sym er)
    (answered P f x new old h))

-- where it was accepted
pub accepted : {A : Type 0} (P : Book → A → Type 0) (f : Option Refusal) (x : A) (new old b : Book)
    (r : Result A Refusal) →
    r ≡ call_answer f x → b ≡ unless f new old → P new x → IfOk r (P b)
accepted P f x new old b r er eb h =
    MatchResult-weaker r (after_call P f x new old b r er eb h) (λ _ p. p) (λ _ _. tt)

-- where a call on a day was accepted
pub accepted_day : {A T : Type 0} (P : Book → A → Type 0) (f : Option Refusal) (day : T) (x : A)
    (new old b : Book) (r : Result A (Refused T)) →
    r ≡ token_answer f day x → b ≡ unless f new old → P new x → IfOk r (P b)
accepted_day P f day x new old b r er eb h =
    MatchResult-weaker r (handed P f day x new old b r er eb h) (λ _ p. p) (λ _ _. tt)

-- the day that runs can be abandoned
pub no_ground : (l : Book) (day : DayToken) → IsRunning l day → abandonment_fault l day ≡ None
no_ground l day running = ap (λ (b : Bool). first_ground ((not b, NotRunning) ∷ [])) running

-- the ledger is not between days
pub not_idle : (p : Phase) (day : DayToken) → is_running p day ≡ true → is_idle p ≡ false
not_idle Idle (OpenToken day) e = sym e
not_idle Idle (MeasuredToken day) e = sym e
not_idle (Open n w) day e = refl
not_idle (Measured n w g x q) day e = refl

-- a second ground is met, whether the first one is or not
pub second_ground : {A : Type 0} (a b : Bool) (v w : Refusal) (o : Option Refusal) (x : A) →
    b ≡ false →
    IsErr (call_answer (cond a (Some v) (cond (not b) (Some w) o)) x)
second_ground true b v w o x e = refl
second_ground false true v w o x e = cc
second_ground false false v w o x e = refl

-- a day that is handed back still runs on the ledger whose day it is
pub still_running : {A T : Type 0} (token : T → DayToken) (day : T) (l : Book)
    (r : Result A (Refused T)) →
    IfErr r (λ e. e.given ≡ day) → IsRunning l (token day) →
    IfErr r (λ e. IsRunning l (token e.given))
still_running {A} {T} token day l r back running =
    IfErr-weaker r (λ e. e.given ≡ day) (λ e. IsRunning l (token e.given))
    (λ (e : Refused T) is. subst (λ (d : T). IsRunning l (token d)) (sym is) running) back
