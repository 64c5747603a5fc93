-- The token and the phase after a call of the ledger.
use Rattle.std.proofs.Common.{◌≡◌, true, Some, None, Ok, Err, Option, ap, ◌∙◌}
use Rattle.refusals.specs.declared.Refusal.{Refusal}
use Rattle.refusals.specs.declared.Refused.{Refused}
use Rattle.ledger.specs.declared.book.Book.{Book}
use Rattle.ledger.specs.Grounds.{call_answer, token_answer, unless}
use Rattle.player.specs.declared.station.RunningDay.{RunningDay}
use Rattle.player.specs.RunningDay.{is_tied}

-- a call that ends no day and begins none
pub tied_in_same_phase : (f : Option Refusal) (new old after : Book) (day : RunningDay) →
    new.phase ≡ old.phase → after ≡ unless f new old →
    is_tied old.phase day ≡ true → is_tied after.phase day ≡ true
tied_in_same_phase None new old after day same book tied =
    ap (λ (b : Book). is_tied b.phase day) book ∙ ap (λ ph. is_tied ph day) same ∙ tied
tied_in_same_phase (Some w) new old after day same book tied =
    ap (λ (b : Book). is_tied b.phase day) book ∙ tied

-- a call on no token that was accepted
pub tied_after_acceptance : {A : Type 0} (f : Option Refusal) (x y : A) (new old after : Book)
    (day : A → RunningDay) →
    Ok y ≡ call_answer f x → after ≡ unless f new old →
    is_tied new.phase (day x) ≡ true → is_tied after.phase (day y) ≡ true
tied_after_acceptance None x y new old after day e book tied =
    let same : y ≡ x = cc in
    ap (λ (b : Book). is_tied b.phase (day y)) book ∙ ap (λ v. is_tied new.phase (day v)) same
    ∙ tied
tied_after_acceptance (Some w) x y new old after day e book tied = cc

-- the same that was refused
pub tied_after_refusal : {A : Type 0} (f : Option Refusal) (x : A) (why : Refusal)
    (new old after : Book) (day : RunningDay) →
    Err why ≡ call_answer f x → after ≡ unless f new old →
    is_tied old.phase day ≡ true → is_tied after.phase day ≡ true
tied_after_refusal None x why new old after day e book tied = cc
tied_after_refusal (Some w) x why new old after day e book tied =
    ap (λ (b : Book). is_tied b.phase day) book ∙ tied

-- a call on a token that was accepted
pub tied_after_token_call : {A T : Type 0} (f : Option Refusal) (token : T) (x y : A)
    (new old after : Book) (day : A → RunningDay) →
    Ok y ≡ token_answer f token x → after ≡ unless f new old →
    is_tied new.phase (day x) ≡ true → is_tied after.phase (day y) ≡ true
tied_after_token_call None token x y new old after day e book tied =
    let same : y ≡ x = cc in
    ap (λ (b : Book). is_tied b.phase (day y)) book ∙ ap (λ v. is_tied new.phase (day v)) same
    ∙ tied
tied_after_token_call (Some w) token x y new old after day e book tied = cc

-- the same that handed its token back
pub tied_after_hand_back : {A T : Type 0} (f : Option Refusal) (token : T) (x : A)
    (back : Refused T) (new old after : Book) (day : T → RunningDay) →
    Err back ≡ token_answer f token x → after ≡ unless f new old →
    is_tied old.phase (day token) ≡ true → is_tied after.phase (day back.given) ≡ true
tied_after_hand_back None token x back new old after day e book tied = cc
tied_after_hand_back (Some w) token x back new old after day e book tied =
    let same : back.given ≡ token = cc in
    ap (λ (b : Book). is_tied b.phase (day back.given)) book
    ∙ ap (λ t. is_tied old.phase (day t)) same
    ∙ tied
