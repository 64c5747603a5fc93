use Rattle.std.proofs.Common.{refl, sym, arith}
use Rattle.std.proofs.lemmas.List.Edits.{fill_by_more}
use Rattle.shares.specs.Rules.{running_share}
use Rattle.shares.specs.RunningLaws.{share_up_to-zero}
use Rattle.shares.proofs.RunningTurns.{running_turn, running_shares_by_place}
use Rattle.shares.proofs.running.RunningProportionalRule.share_fairly.Goals as goal

pub loop-i-init : goal.loop-i-init
loop-i-init c = record {
  sum = refl;
  given = sym (share_up_to-zero _ _);
  shares = λ k h. absurd (omega arith);
}

pub overflow_sub-out : goal.overflow_sub-out
overflow_sub-out c =
    let l = c.loop-i.invariant in
    let fairly = c.args.sharing.now.fairly in
    let x = c.floor-so_far.ensures.value in
    (running_turn _ _ _ _ _ _ fairly c.loop-i-test.true l.sum l.given x).rises

pub loop-i-preserved : goal.loop-i-preserved
loop-i-preserved c =
    let s = c.args.sharing.now in
    let l = c.loop-i.invariant in
    let x = c.floor-so_far.ensures.value in
    let share = running_share s.quantity s.weights.now in
    let t =
    running_turn s.quantity s.weights.now _ _ _ _ s.fairly c.loop-i-test.true l.sum l.given x in
    let more = fill_by_more share c.loop-i.out c.loop-i.i 0 (omega arith) l.shares in
    record { sum = t.sum_next; given = t.given_next; shares = rw t.share more }

pub returns : goal.returns
returns c =
    running_shares_by_place _ _ _ (omega arith)
    (λ k h. c.loop-i.invariant.shares k (omega arith))
