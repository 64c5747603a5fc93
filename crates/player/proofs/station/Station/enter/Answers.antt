use Rattle.std.proofs.Common.{[], refl, rules}
use Rattle.ledger.specs.Days.{entry_fault}
use Rattle.player.proofs.Ties.{tied_in_same_phase}
use Rattle.player.proofs.station.Station.enter.Goals as goal

pub invariant_of-self : goal.invariant_of-self
invariant_of-self c =
    let l = c.args.self.now.ledger.book in
    let entered = c.enter.ensures.became [] in
    record {
      tied =
          tied_in_same_phase (entry_fault l c.in-Open.day c.args.trader c.args.litres) _ l _ _
          refl entered.book c.args.self.now.tied;
    }

pub returns-in_err-enter-in-Open-clause-became : goal.returns-in_err-enter-in-Open-clause-became
returns-in_err-enter-in-Open-clause-became c s =
    let entered = c.enter.ensures.became s in search rules

pub returns-in_ok-enter-in-Open-clause-became : goal.returns-in_ok-enter-in-Open-clause-became
returns-in_ok-enter-in-Open-clause-became c s =
    let entered = c.enter.ensures.became s in search rules
