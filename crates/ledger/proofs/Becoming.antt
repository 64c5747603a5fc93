-- The outcome of a call, from whether a ground of refusal was met.
use Rattle.std.proofs.Common.{◌≡◌, List, Some, None, Ok, Err, Option, Result, refl}
use Rattle.refusals.specs.declared.Refusal.{Refusal}
use Rattle.refusals.specs.declared.Refused.{Refused}
use Rattle.rows.specs.declared.point.Point.{Point}
use Rattle.ledger.specs.declared.book.Book.{Book}
use Rattle.ledger.specs.Outcomes.{Outcome, Became, token_outcome}
use Rattle.ledger.proofs.Grounds.{some_none}

-- no ground was met
pub accepted : {A T : Type 0} (token : T) (f : Option Refusal) (l : Book) (s : List Point)
    (a : Outcome A) (r : Result A (Refused T)) (l' : Book) (s' : List Point) →
    f ≡ None → r ≡ Ok a.answer → l' ≡ a.book → s' ≡ a.rows →
    Became (token_outcome token f l s a) r l' s'
accepted token None l s a r l' s' none answer book rows = record
    { answer = answer; book = book; rows = rows }
accepted token (Some w) l s a r l' s' none answer book rows = some_none w none

-- one was met
pub turned_down : {A T : Type 0} (token : T) (f : Option Refusal) (l : Book) (s : List Point)
    (a : Outcome A) (why : Refusal) →
    f ≡ Some why → Became (token_outcome token f l s a)
    (Err (record { why = why; given = token })) l s
turned_down token None l s a why some = cc
turned_down token (Some w) l s a why some = record { answer = cc; book = refl; rows = refl }
