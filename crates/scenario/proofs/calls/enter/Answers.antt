use Rattle.std.proofs.Common.{◌≡◌, [], refl, arith}
use Rattle.ledger.specs.declared.book.Book.{Book}
use Rattle.ledger.specs.Days.{accepted_entry}
use Rattle.scenario.specs.Days.{SharesAtMost}
use Rattle.scenario.proofs.Answering.{left}
use Rattle.scenario.proofs.Counts.{no_call}
use Rattle.scenario.proofs.calls.enter.Goals as goal

pub returns : goal.returns
returns c =
    let l = c.args.ledger.now.book in
    let e = c.enter.ensures.became [] in
    record {
      running = left (λ (b : Book). b.phase ≡ l.phase) _
          (accepted_entry l [] c.args.trader c.args.litres).book l _ e.book refl refl;
      shared = left (SharesAtMost 0 l) _ (accepted_entry l [] c.args.trader c.args.litres).book l _
          e.book (record { shared = omega arith; bookings = refl }) (no_call 0 l);
    }
