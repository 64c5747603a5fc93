use Rattle.std.proofs.Common.{[], refl, arith}
use Rattle.std.proofs.lemmas.Bool.{eq-eqb}
use Rattle.ledger.specs.declared.book.Book.{Book}
use Rattle.ledger.specs.declared.measured.MeasuredDay.{MeasuredDay}
use Rattle.ledger.specs.Days.{accepted_measurement}
use Rattle.ledger.specs.Tokens.{MeasuredToken}
use Rattle.ledger.proofs.HandedBack.{handed}
use Rattle.scenario.specs.Days.{IsRunning, SharesAtMost}
use Rattle.scenario.proofs.Answering.{left, accepted_day}
use Rattle.scenario.proofs.Counts.{no_call}
use Rattle.scenario.proofs.calls.take_inflow.Goals as goal

pub returns : goal.returns
returns c =
    let l = c.args.ledger.now.book in
    let e = c.take_inflow.ensures.became [] in
    record {
      running = accepted_day (λ (b : Book) (day : MeasuredDay). IsRunning b (MeasuredToken day)) _
          c.args.day _ _ l _ _ e.answer e.book (eq-eqb _ _ refl);
      refused = handed (λ _ _. Unit {0}) _ c.args.day _ _ l _ _ e.answer e.book tt;
      shared = left (SharesAtMost 0 l) _ (accepted_measurement l [] c.args.day c.args.inflow
          c.args.rate).book l _ e.book (record { shared = omega arith; bookings = refl })
          (no_call 0 l);
    }
