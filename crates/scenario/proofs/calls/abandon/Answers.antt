use Rattle.std.proofs.Common.{[], refl, arith}
use Rattle.ledger.specs.Days.{ended_book}
use Rattle.ledger.proofs.HandedBack.{handed}
use Rattle.scenario.specs.Days.{SharesAtMost}
use Rattle.scenario.proofs.Answering.{left}
use Rattle.scenario.proofs.Counts.{no_call}
use Rattle.scenario.proofs.calls.abandon.Goals as goal

pub returns : goal.returns
returns g c =
    let l = c.args.ledger.now.book in
    let e = c.abandon_on.ensures [] in
    record {
      refused = handed (λ _ _. Unit {0}) _ c.args.day _ _ l _ _ e.answer e.book tt;
      shared = left (SharesAtMost 0 l) _ (ended_book l) l _ e.book
          (record { shared = omega arith; bookings = refl }) (no_call 0 l);
    }
