use Rattle.std.proofs.Common.{◌≡◌, [], sym, subst, refl, arith}
use Rattle.std.proofs.lemmas.Bool.{eq-eqb}
use Rattle.std.specs.Result.{IsErr}
use Rattle.ledger.specs.declared.book.Book.{Book}
use Rattle.ledger.specs.declared.day.OpenDay.{OpenDay}
use Rattle.ledger.specs.Days.{accepted_opening}
use Rattle.ledger.specs.Tokens.{OpenToken}
use Rattle.scenario.specs.Days.{IsRunning, SharesAtMost}
use Rattle.scenario.proofs.Answering.{left, accepted, after_call, second_ground, not_idle}
use Rattle.scenario.proofs.Counts.{no_call}
use Rattle.scenario.proofs.calls.open.Goals as goal

pub returns : goal.returns
returns c =
    let l = c.args.ledger.now.book in
    let e = c.open.ensures.became [] in
    record {
      running = accepted (λ (b : Book) (day : OpenDay). IsRunning b (OpenToken day)) _ _ _ l _ _
          e.answer e.book (eq-eqb _ _ refl);
      refused = after_call (λ _ _. Unit {0}) _ _ _ l _ _ e.answer e.book tt;
      one_at_a_time = λ day running. subst IsErr (sym e.answer)
          (second_ground _ _ _ _ _ _ (not_idle l.phase day running));
      shared = left (SharesAtMost 0 l) _ (accepted_opening l [] c.args.weather).book l _ e.book
          (record { shared = omega arith; bookings = refl }) (no_call 0 l);
    }
