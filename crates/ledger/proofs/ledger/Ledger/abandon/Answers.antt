use Rattle.std.proofs.Common.{sym, subst}
use Rattle.ledger.specs.Accounts.{IsSound}
use Rattle.ledger.proofs.Keep.{ended_sound}
use Rattle.ledger.proofs.ledger.Ledger.abandon.Goals as goal

pub invariant_of-self : goal.invariant_of-self
invariant_of-self g c = record {
  sound = subst IsSound (sym c.end_day.ensures)
      (ended_sound c.args.self.now.book c.args.self.now.sound);
}
