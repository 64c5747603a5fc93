use Rattle.std.proofs.Common.{◌≡◌, true, [], refl, sym, subst, ◌∙◌, eq-eqb, rules}
use Rattle.ledger.specs.Days.{measurement_fault}
use Rattle.player.specs.declared.station.RunningDay.{RunningDay}
use Rattle.player.specs.declared.station.RunningDay.TheVariants.{Open, Measured}
use Rattle.player.specs.RunningDay.{is_tied}
use Rattle.player.proofs.Ties.{tied_after_token_call, tied_after_hand_back}
use Rattle.player.proofs.station.Station.take_inflow.Goals as goal

pub invariant_of-self : goal.invariant_of-self
invariant_of-self c =
    let l = c.args.self.now.ledger.book in
    let day = c.in-Open.day in
    let after = c.take_inflow.new.self.book in
    let measured = c.in-Ok.ensures.became [] in
    let tied =
    tied_after_token_call (measurement_fault l day c.args.litres c.args.rate) day _ c.in-Ok.day
    _ l after (λ d. Measured d) measured.answer measured.book
    (eq-eqb day.number day.number refl)
    in
    record {
      tied = subst (λ (d : RunningDay). is_tied after.phase d ≡ true) (sym c.begin.ensures) tied;
    }

pub invariant_of-self-in-Err : goal.invariant_of-self-in-Err
invariant_of-self-in-Err c =
    let l = c.args.self.now.ledger.book in
    let day = c.in-Open.day in
    let after = c.take_inflow.new.self.book in
    let returned = c.in-Err.ensures.became [] in
    let ran =
    subst (λ (d : RunningDay). is_tied l.phase d ≡ true)
    (sym c.replace.ensures.value ∙ c.in-Open.is) c.args.self.now.tied
    in
    let tied =
    tied_after_hand_back (measurement_fault l day c.args.litres c.args.rate) day _
    c.in-Err.field-0 _ l after (λ d. Open d) returned.answer returned.book ran
    in
    record {
      tied =
          subst (λ (d : RunningDay). is_tied after.phase d ≡ true)
          (sym c.begin-in-Err.ensures) tied;
    }

pub returns-in-Ok : goal.returns-in-Ok
returns-in-Ok c = record { became = λ s. let measured = c.in-Ok.ensures.became s in search rules }

pub returns-in-Err : goal.returns-in-Err
returns-in-Err c = record { became = λ s. let returned = c.in-Err.ensures.became s in search rules }
