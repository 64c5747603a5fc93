use Rattle.std.proofs.Common.{ℕ, get_or, sym, ◌∙◌, arith}
use Rattle.std.proofs.lemmas.List.Edits.{fill_by_more}
use Rattle.shares.specs.Rules.{remainders}
use Rattle.shares.specs.LargestLaws.{remainder_at}
use Rattle.shares.proofs.LargestTurns.{floor_turn, remainders_by_place, left_of_floors}
use Rattle.shares.proofs.largest.Rounding.new.Goals as goal

pub overflow_add-given : goal.overflow_add-given
overflow_add-given c =
    let l = c.loop-i.invariant in
    let fairly = c.args.sharing.now.fairly in
    let t = floor_turn _ _ _ _ _ fairly c.loop-i-test.true l.given c.floor-given.ensures.value in
    record { fits = t.fits }

pub loop-i-preserved : goal.loop-i-preserved
loop-i-preserved c =
    let s = c.args.sharing.now in
    let l = c.loop-i in
    let inside = c.loop-i-test.true in
    let rem = λ (k : ℕ). get_or (remainders s.quantity s.weights.now) k 0 in
    let t = floor_turn _ _ _ _ _ s.fairly inside l.invariant.given c.floor-given.ensures.value in
    let more = fill_by_more rem l.sheet l.i 0 (omega arith) l.invariant.rems in
    record {
      given = t.next;
      rems = rw (c.remainder.ensures ∙ sym (remainder_at _ _ _ inside)) more;
    }

pub overflow_sub-result : goal.overflow_sub-result
overflow_sub-result c =
    let fairly = c.args.sharing.now.fairly in
    (left_of_floors _ _ _ _ fairly c.loop-i-test.false c.loop-i.invariant.given).0

pub invariant_of-result : goal.invariant_of-result
invariant_of-result c =
    let l = c.loop-i.invariant in
    let fairly = c.args.sharing.now.fairly in
    record {
      rems = remainders_by_place _ _ _ (omega arith) (λ k h. l.rems k (omega arith));
      remain = (left_of_floors _ _ _ _ fairly c.loop-i-test.false l.given).1;
    }
