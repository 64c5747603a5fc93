use Rattle.std.proofs.Common.{◌≡◌, ◌+◌, true, [], refl, sym, subst, ◌∙◌, eq-eqb, rules}
use Rattle.ledger.specs.Days.{opening_fault}
use Rattle.player.specs.declared.station.RunningDay.{RunningDay}
use Rattle.player.specs.declared.station.RunningDay.TheVariants.{Open}
use Rattle.player.specs.RunningDay.{is_tied}
use Rattle.player.proofs.Ties.{tied_after_acceptance, tied_after_refusal}
use Rattle.player.proofs.station.Station.open.Goals as goal

pub invariant_of-self : goal.invariant_of-self
invariant_of-self c =
    let l = c.args.self.now.ledger.book in
    let opened = c.open.ensures.became [] in
    record {
      tied =
          tied_after_refusal (opening_fault l c.args.weather) _ _ _ l c.open.new.self.book
          c.args.self.now.running (sym c.in_err-day-in-Idle.was ∙ opened.answer) opened.book
          c.args.self.now.tied;
    }

pub returns-in_err-day-in-Idle : goal.returns-in_err-day-in-Idle
returns-in_err-day-in-Idle c =
    record { became = λ s. let opened = c.open.ensures.became s in search rules }

pub invariant_of-self-in-Idle : goal.invariant_of-self-in-Idle
invariant_of-self-in-Idle c =
    let l = c.args.self.now.ledger.book in
    let number = l.counts.opened + 1 in
    let after = c.open.new.self.book in
    let opened = c.open.ensures.became [] in
    let tied =
    tied_after_acceptance (opening_fault l c.args.weather) _ c.in_ok-day-in-Idle.day _ l after
    (λ day. Open day) (sym c.in_ok-day-in-Idle.was ∙ opened.answer) opened.book
    (eq-eqb number number refl)
    in
    record {
      tied = subst (λ (day : RunningDay). is_tied after.phase day ≡ true)
          (sym c.begin.ensures) tied;
    }

pub returns-in_ok-day-in-Idle : goal.returns-in_ok-day-in-Idle
returns-in_ok-day-in-Idle c =
    record { became = λ s. let opened = c.open.ensures.became s in search rules }
