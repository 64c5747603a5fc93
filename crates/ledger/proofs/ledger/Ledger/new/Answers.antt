use Rattle.std.proofs.Common.{[], sym, subst}
use Rattle.ledger.specs.Accounts.{IsSound}
use Rattle.ledger.specs.History.{IsHistoryOf, start}
use Rattle.ledger.specs.declared.book.Book.{Book}
use Rattle.ledger.proofs.Keep.{new_sound}
use Rattle.ledger.proofs.ledger.Ledger.new.Goals as goal

pub returns-clause-run : goal.returns-clause-run
returns-clause-run c = λ s. subst (λ (b : Book). IsHistoryOf [] b s) (sym c.new.ensures)
    (start c.args.first_day s)

pub invariant_of-result : goal.invariant_of-result
invariant_of-result c = record {
  sound = subst IsSound (sym c.new.ensures)
      (new_sound c.args.first_day);
}
