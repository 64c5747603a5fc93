use Rattle.std.proofs.Common.{refl, arith}
use Rattle.ledger.specs.Sharing.{shared_book}
use Rattle.ledger.proofs.HandedBack.{handed}
use Rattle.scenario.specs.Days.{SharesAtMost}
use Rattle.scenario.proofs.Answering.{left}
use Rattle.scenario.proofs.Counts.{no_call}
use Rattle.scenario.proofs.calls.share_out.Goals as goal

pub returns : goal.returns
returns g c =
    let l = c.args.ledger.now.book in
    let e = c.share_out.ensures.became.became in
    record {
      refused = handed (λ _ _. Unit {0}) _ c.args.day _ _ l _ _ e.answer e.book tt;
      shared = left (SharesAtMost 1 l) _ (shared_book l c.args.sheet.now _) l _ e.book
          (record { shared = omega arith; bookings = refl }) (no_call 1 l);
    }
