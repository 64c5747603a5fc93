use Rattle.std.proofs.Common.{◌≡◌, get_or, refl, sym, length-set, arith, rules}
use Rattle.shares.specs.Rules.{remainders, litres_left}
use Rattle.shares.specs.Counts.{IsCut}
use Rattle.shares.specs.LargestLaws.{length-remainders}
use Rattle.shares.proofs.LargestTurns.{LitreTurn, litre_above, litre_at, no_litre_at, no_litre_below, largest_shares_by_place, shares_up_to_zero, shares_up_to_more}
use Rattle.shares.proofs.largest.LargestRemainderProportionalRule.share_fairly.Goals as goal
use Rattle.shares.proofs.largest.LargestRemainderProportionalRule.share_fairly.Goals.{After-cut-cut, then-r-cut, else-r-cut+then-r-cut-2+then-more-gt0, else-r-cut+else-r-cut-2, else-r-cut-2-via-then-r-cut-2+else-more-gt0, else-r-cut-2-via-else-r-cut-2}

-- the cut is found among the remainders of the sharing
found : (c : After-cut-cut) →
    let a = c.args.sharing.now.quantity in
    let ws = c.args.sharing.now.weights.now in
    IsCut (remainders a ws) (litres_left a ws) c.cut-cut.result.at c.cut-cut.result.more
found c =
    rw (c.new.result.rems, c.new.result.remain, c.new.ensures.same_sharing) at c.cut-cut.ensures

pub loop-i-init : goal.loop-i-init
loop-i-init c =
    let s = c.args.sharing.now in
    let rems = rw c.new.ensures.same_sharing at c.new.result.rems in
    let long = length-remainders s.quantity s.weights.now in
    let cut = found (goal.at.loop-i-init c).After-cut-cut in
    record {
      long = search (rules, rems, long);
      so_far = shares_up_to_zero _ _ _ _ _ cut (search (rules, rems));
    }

pub loop-i-preserved : goal.loop-i-preserved
loop-i-preserved c =
    let s = c.args.sharing.now in
    let a = s.quantity in
    let ws = s.weights.now in
    let l = c.loop-i in
    let so_far = c.loop-i.invariant.so_far in
    let here : get_or l.out l.i 0 ≡ get_or (remainders a ws) l.i 0 =
    so_far.remainders l.i (omega arith) in
    let i = c.loop-i-test.true in
    let x = c.floor.ensures.value in
    let cut = found (goal.at.loop-i-preserved c).After-cut-cut in
    let b = c.if-r-cut in
    let turn : LitreTurn a ws l.i c.floor.result c.cut-cut.result.at b.extra b.more =
    elim c.if-r-cut.branch [
      | then-r-cut w ↦
          rw (w.extra-is, w.more-is)
          (litre_above _ _ _ _ i x _ _ _ cut so_far.rest (omega arith))
      | else-r-cut+then-r-cut-2+then-more-gt0 w ↦
          rw (w.extra-is, w.more-is)
          (litre_at _ _ _ _ i x _ _ _ cut so_far.rest (omega arith) w.if-more-gt0.true)
      | else-r-cut+else-r-cut-2 w ↦ elim w.else-r-cut-2.branch [
        | else-r-cut-2-via-then-r-cut-2+else-more-gt0 w' ↦
            rw (w.extra-is, w.more-is)
            (no_litre_at _ _ _ _ i x _ _ _ cut so_far.rest (omega arith) (omega arith))
        | else-r-cut-2-via-else-r-cut-2 w' ↦
            rw (w.extra-is, w.more-is)
            (no_litre_below _ _ _ _ i x _ _ _ cut so_far.rest (omega arith))
      ]
    ]
    in
    record {
      long = simp length-set (omega arith);
      so_far = shares_up_to_more _ _ _ _ _ _ _ _ _ _ (omega arith) so_far refl turn;
    }

pub returns : goal.returns
returns c =
    let l = c.loop-i.invariant in
    largest_shares_by_place _ _ _ (sym l.long) (λ k lt. l.so_far.shares k (omega arith))
