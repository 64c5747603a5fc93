-- Dates as three numbers, and what C gets for a day number.
use Rattle.std.specs.Prelude.{◌≡◌, ℕ, ◌<◌, ◌≤◌, Err}
use Rattle.refusals.specs.declared.Refusal.TheVariants.{NoSuchDay}
use Rattle.calendar.specs.declared.date.Date.{Date}
use Rattle.calendar.specs.Days.{last_day, IsDateOf}
use Rattle.capi.specs.declared.answer.DateAnswer.{DateAnswer}
use Rattle.capi.specs.Answer.{date_answer_of}

-- The date that a year, a month and a day write.
abbrev pub date_of : ℕ → ℕ → ℕ → Date
date_of year month day = record { year = year; month = month; day = day }

-- Status 0 and the one date that has the number, or the refusal of a number past the last day.
abbrev pub AnswersDate : ℕ → DateAnswer → Type 0
AnswersDate number answer =
    (number ≤ last_day
    → (answer.status ≡ 0) × IsDateOf (date_of answer.year answer.month answer.day) number)
    × (last_day < number → answer ≡ date_answer_of (Err NoSuchDay))
