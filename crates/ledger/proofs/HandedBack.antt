-- The token, a day or a slip, that a refusal hands back.
use Rattle.std.proofs.Common.{◌≡◌, IfErr, None, Some, Option, Result, sym, refl, ap, ◌∙◌, subst, MatchResult}
use Rattle.std.specs.Result.{IsOk}
use Rattle.refusals.specs.declared.Refusal.{Refusal}
use Rattle.ledger.specs.declared.book.Book.{Book}
use Rattle.refusals.specs.declared.Refused.{Refused}
use Rattle.ledger.specs.Grounds.{token_answer, unless}
use Rattle.ledger.proofs.Grounds.{by_option}

-- it is the token that was handed in
pub same_token : {A T : Type 0} (f : Option Refusal) (t : T) (x : A) (r : Result A (Refused T)) →
    r ≡ token_answer f t x → IfErr r (λ e. e.given ≡ t)
same_token f t x r er =
    subst (λ z. IfErr z (λ e. e.given ≡ t)) (sym er)
    (by_option (λ o. IfErr (token_answer o t x) (λ e. e.given ≡ t)) f (λ _. tt) (λ _. refl))

-- a call without a ground of refusal is not refused
pub taken : {A T : Type 0} (f : Option Refusal) (t : T) (x : A) (r : Result A (Refused T)) →
    f ≡ None → r ≡ token_answer f t x → IsOk r
taken f t x r none is = subst IsOk (sym (is ∙ ap (λ (o : Option Refusal). token_answer o t x) none))
    refl

-- the token and the running day after a refusal
abbrev pub Back : {T : Type 0} → T → Book → Book → Refused T → Type 0
Back day old new e = (e.given ≡ day) × (new.phase ≡ old.phase)

back : {A T : Type 0} (P : Book → A → Type 0) (f : Option Refusal) (day : T) (x : A)
    (new old : Book) → P new x → MatchResult (token_answer f day x) (P (unless f new old))
    (Back day old (unless f new old))
back P None day x new old h = h
back P (Some w) day x new old h = (refl, refl)

pub handed : {A T : Type 0} (P : Book → A → Type 0) (f : Option Refusal) (day : T) (x : A)
    (new old b : Book) (r : Result A (Refused T)) → r ≡ token_answer f day x →
    b ≡ unless f new old → P new x → MatchResult r (P b) (Back day old b)
handed P f day x new old b r er eb h =
    subst (λ (v : Book). MatchResult r (P v) (Back day old v)) (sym eb)
    (subst (λ v. MatchResult v (P (unless f new old)) (Back day old (unless f new old))) (sym er)
    (back P f day x new old h))
