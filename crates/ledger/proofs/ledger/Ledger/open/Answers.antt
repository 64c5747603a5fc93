use Rattle.std.proofs.Common.{◌≡◌, ◌+◌, Err, ◌∙◌, rules}
use Rattle.ledger.specs.Days.{opening_fault}
use Rattle.ledger.specs.declared.book.Book.{Book}
use Rattle.ledger.specs.declared.day.OpenDay.{OpenDay}
use Rattle.ledger.specs.declared.day.Phase.TheVariants.{Open}
use Rattle.ledger.proofs.Grounds.{stays, unchanged}
use Rattle.ledger.proofs.ledger.Ledger.open.Goals as goal

pub returns-in_err-check_opening : goal.returns-in_err-check_opening
returns-in_err-check_opening c =
    let l = c.args.self.now.book in
    let n = l.counts.opened + 1 in
    let day : OpenDay = record { number = n } in
    let book : Book = record l {
      counts = record l.counts { opened = n };
      phase = Open n c.args.weather;
    } in
    let why = c.in_err-check_opening.field-0.0 in
    let kept = stays (opening_fault l c.args.weather) tt day book l why
    c.in_err-check_opening.ensures in
    let returned : c.from_residual.result ≡ Err why = search rules in
    let answer = returned ∙ kept.0 in
    record {
      became = λ s. record {
        answer = answer;
        book = kept.1;
        rows = unchanged (opening_fault l c.args.weather) s;
      };
      run = λ s. record {
        answer = answer;
        book = kept.1;
        rows = unchanged (opening_fault l c.args.weather) s;
      };
    }
