use Rattle.std.proofs.Common.{◌≡◌, true, sym, subst, ◌∙◌}
use Rattle.ledger.specs.Sharing.{inputs_of, share_out_fault, accepted_share_out}
use Rattle.player.specs.declared.station.RunningDay.{RunningDay}
use Rattle.player.specs.declared.station.RunningDay.TheVariants.{Measured}
use Rattle.player.specs.RunningDay.{is_tied}
use Rattle.player.proofs.Ties.{tied_after_hand_back}
use Rattle.player.proofs.station.Station.share.Goals as goal

pub invariant_of-self-in-Err : goal.invariant_of-self-in-Err
invariant_of-self-in-Err g c =
    let l = c.args.self.now.ledger.book in
    let s = c.as_mut_slice.result.now in
    let day = c.in-Measured.day in
    let after = c.share_out.new.self.book in
    let handed =
    inputs_of (g.P.Profile.tells c.args.profile.now) g.P.Profile.segments
    g.R.ShareRule.shares c.as_mut_slice-in-Measured.result.now
    c.as_mut_slice-in-Measured-2.result.now
    in
    let accepted = accepted_share_out l s handed in
    let returned = c.in-Err.ensures.became.became in
    let ran =
    subst (λ (d : RunningDay). is_tied l.phase d ≡ true)
    (sym c.replace.ensures.value ∙ c.in-Measured.is) c.args.self.now.tied
    in
    let tied =
    tied_after_hand_back (share_out_fault l s day handed) day accepted.answer
    c.in-Err.field-0 accepted.book l after (λ d. Measured d) returned.answer returned.book ran
    in
    record {
      tied = subst (λ (d : RunningDay). is_tied after.phase d ≡ true) (sym c.begin.ensures) tied;
    }
