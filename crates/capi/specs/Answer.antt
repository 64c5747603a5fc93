-- What C gets for a result.
use Rattle.std.specs.Prelude.{ℕ, Ok, Err, Result}
use Rattle.refusals.specs.declared.Refusal.{Refusal}
use Rattle.refusals.specs.Numbers.{number_of}
use Rattle.calendar.specs.declared.date.Date.{Date}
use Rattle.capi.specs.declared.answer.Answer.{Answer}
use Rattle.capi.specs.declared.answer.DateAnswer.{DateAnswer}

-- Status 0 and the value, or the refusal's number and 0.
abbrev pub answer_of : Result ℕ Refusal → Answer
answer_of (Ok value) = record { status = 0; value = value }
answer_of (Err e) = record { status = number_of e; value = 0 }

-- Status 0 and the date, or the refusal's number and zeros.
abbrev pub date_answer_of : Result Date Refusal → DateAnswer
date_answer_of (Ok date) =
    record { status = 0; year = date.year; month = date.month; day = date.day }
date_answer_of (Err e) = record { status = number_of e; year = 0; month = 0; day = 0 }
