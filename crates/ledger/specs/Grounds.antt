-- How a call answers: the first ground met is returned, and a refused call changes nothing.
use Rattle.std.specs.Prelude.{Bool, cond, List, [], ◌∷◌, Some, None, Ok, Err, Option, Result}
use Rattle.refusals.specs.declared.Refusal.{Refusal}
use Rattle.refusals.specs.declared.Refused.{Refused}

-- the first ground that is met, in the order of the list
abbrev pub first_ground : List (Bool × Refusal) → Option Refusal
first_ground [] = None
first_ground (g ∷ gs) = cond g.0 (Some g.1) (first_ground gs)

-- the answer of a call, and of one that hands its token back
abbrev pub call_answer : {A : Type 0} → Option Refusal → A → Result A Refusal
call_answer None x = Ok x
call_answer (Some why) x = Err why

abbrev pub token_answer : {A T : Type 0} → Option Refusal → T → A → Result A (Refused T)
token_answer None token x = Ok x
token_answer (Some why) token x = Err (record { why = why; given = token })

-- what there is after a call: the new where no ground is met, and else the old
abbrev pub unless : {A : Type 0} → Option Refusal → A → A → A
unless None new old = new
unless (Some why) new old = old
