-- The outcomes of a station's calls: those of its ledger's calls on the day that runs, by its
-- number.
use Rattle.std.specs.Prelude.{◌≡◌, ℕ, cond, List, length, Err, Result, nat_lt}
use Rattle.std.specs.Result.{result_map_both}
use Rattle.refusals.specs.declared.Refusal.{Refusal}
use Rattle.refusals.specs.declared.Refusal.TheVariants.{PointSheetLength, NotRunning}
use Rattle.refusals.specs.declared.Refused.{Refused}
use Rattle.profiles.specs.declared.weather.Weather.{Weather}
use Rattle.rows.specs.declared.point.Point.{Point}
use Rattle.rows.specs.Limits.{max_points}
use Rattle.ledger.specs.declared.book.Book.{Book}
use Rattle.ledger.specs.declared.measured.MeasuredDay.{MeasuredDay}
use Rattle.ledger.specs.declared.day.OpenDay.{OpenDay}
use Rattle.ledger.specs.declared.day.SharedOut.{SharedOut}
use Rattle.ledger.specs.Accounts.{metered_at}
use Rattle.ledger.specs.Days.{opening, metered_entry, measurement, ended_book}
use Rattle.ledger.specs.Grounds.{unless}
use Rattle.ledger.specs.Outcomes.{Outcome, Became, call_outcome}
use Rattle.ledger.specs.Sharing.{ShareOutInputs, WorkSheets, share_out, work_sheets_after}
use Rattle.player.specs.declared.station.RunningDay.{RunningDay}
use Rattle.player.specs.declared.station.RunningDay.TheVariants.{Measured}
use Rattle.player.specs.RunningDay.{number_of, open_day, idle_fault}

-- the outcome with its answer mapped
abbrev pub map_answer : {A B : Type 0} → (A → B) → Outcome A → Outcome B
map_answer f o = record { answer = f o.answer; book = o.book; rows = o.rows }

-- the answer of a call, with f of what it gives
abbrev pub map_ok : {A B : Type 0} → (A → B) → Result A Refusal → Result B Refusal
map_ok f r = result_map_both f (λ (why : Refusal). why) r

-- the answer of a call that hands its token back, without the token
abbrev pub map_ok_without_token : {A B T : Type 0} → (A → B) → Result A (Refused T) →
    Result B Refusal
map_ok_without_token {T = T} f r = result_map_both f (λ (back : Refused T). back.why) r

-- its answer is the day's number
abbrev pub day_opening : Book → List Point → Weather → Outcome (Result ℕ Refusal)
day_opening l s weather =
    map_answer (map_ok (λ (day : OpenDay). day.number)) (opening l s weather)

-- its answer is the trader's metered sum of the day
abbrev pub day_entry : Book → List Point → RunningDay → ℕ → ℕ → Outcome (Result ℕ Refusal)
day_entry l s running t litres =
    let entry = metered_entry l s (open_day running) t litres in
    map_answer (map_ok (λ (x : Unit). metered_at entry.book.traders t)) entry

-- its answer is the day's number
abbrev pub day_measurement : Book → List Point → RunningDay → ℕ → ℕ → Outcome (Result ℕ Refusal)
day_measurement l s running inflow rate =
    map_answer (map_ok_without_token (λ (day : MeasuredDay). day.number))
    (measurement l s (open_day running) inflow rate)

-- the ledger with no day running: the day that runs is abandoned
abbrev pub closed_book : Book → RunningDay → Book
closed_book l running = unless (idle_fault running) (ended_book l) l

-- its answer is the day's number
abbrev pub day_abandonment : Book → List Point → RunningDay → Outcome (Result ℕ Refusal)
day_abandonment l s running =
    call_outcome (idle_fault running) l s
    (record { answer = number_of running; book = ended_book l; rows = s })

-- why there is no share-out where no day is measured
abbrev pub unmeasured_ground : List Point → Refusal
unmeasured_ground s = cond (nat_lt max_points (length s)) PointSheetLength NotRunning

abbrev pub day_share_out : Book → List Point → RunningDay → ShareOutInputs →
    Outcome (Result SharedOut Refusal)
day_share_out l s (Measured day) m =
    map_answer (map_ok_without_token (λ (out : SharedOut). out)) (share_out l s day m)
day_share_out l s running m = record { answer = Err (unmeasured_ground s); book = l; rows = s }

abbrev pub day_work_sheets : Book → List Point → RunningDay → ShareOutInputs → WorkSheets
day_work_sheets l s (Measured day) m = work_sheets_after l s day m
day_work_sheets l s running m = m.sheets

-- a share-out so handed in returned r, and left the ledger at l', the sheet at s', the work sheets
-- at w
pub record SharesDayOut (l : Book) (s : List Point) (running : RunningDay) (m : ShareOutInputs)
    (r : Result SharedOut Refusal) (l' : Book) (s' : List Point) (w : WorkSheets) : Type 0 where
  pub became : Became (day_share_out l s running m) r l' s'
  pub uses : w.uses ≡ (day_work_sheets l s running m).uses
  pub shares : w.shares ≡ (day_work_sheets l s running m).shares
