use Rattle.std.proofs.Common.{◌≡◌, refl}
use Rattle.ledger.specs.declared.book.Book.{Book}
use Rattle.ledger.specs.Readings.{reading_fault, accepted_reading}
use Rattle.scenario.proofs.Answering.{left}
use Rattle.ledger_tests.proofs.Reading.{reading_makes}
use Rattle.ledger_tests.proofs.readings.slips.reading.Goals as goal

pub returns : goal.returns
returns c =
    let l = c.args.ledger.now.book in
    let s = c.args.sheet.now in
    let k = c.args.point in
    let dial = c.args.dial in
    let became = c.read.ensures.became in
    record {
      slip = reading_makes l s k dial _ _ _ became;
      day = left (λ (b : Book). b.phase ≡ l.phase) (reading_fault l s k dial)
          (accepted_reading l s k dial).book l _ became.book refl refl;
    }
