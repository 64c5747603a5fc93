-- What a call gives: its answer, and the ledger and the sheet after it.
use Rattle.std.specs.Prelude.{◌≡◌, List, Option, Result}
use Rattle.refusals.specs.declared.Refusal.{Refusal}
use Rattle.refusals.specs.declared.Refused.{Refused}
use Rattle.rows.specs.declared.point.Point.{Point}
use Rattle.ledger.specs.declared.book.Book.{Book}
use Rattle.ledger.specs.Grounds.{call_answer, token_answer, unless}

pub record Outcome (A : Type 0) : Type 0 where
  pub answer : A
  pub book : Book
  pub rows : List Point

-- the outcome of a call on the ledger l and the sheet s: the accepted one where no ground is met;
-- else the ground is returned and all stays
abbrev pub call_outcome : {A : Type 0} → Option Refusal → Book → List Point → Outcome A →
    Outcome (Result A Refusal)
call_outcome fault l s accepted =
    record {
      answer = call_answer fault accepted.answer;
      book = unless fault accepted.book l;
      rows = unless fault accepted.rows s;
    }

-- the same of a call that hands its token back
abbrev pub token_outcome : {A T : Type 0} → T → Option Refusal → Book → List Point → Outcome A →
    Outcome (Result A (Refused T))
token_outcome token fault l s accepted =
    record {
      answer = token_answer fault token accepted.answer;
      book = unless fault accepted.book l;
      rows = unless fault accepted.rows s;
    }

-- a call with this outcome returned r, and left the ledger at l and the sheet at s
pub record Became {A : Type 0} (o : Outcome A) (r : A) (l : Book) (s : List Point) : Type 0 where
  pub answer : r ≡ o.answer
  pub book : l ≡ o.book
  pub rows : s ≡ o.rows
