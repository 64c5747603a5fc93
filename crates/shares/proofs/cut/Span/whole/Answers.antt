use Rattle.std.proofs.Common.{sym, arith}
use Rattle.shares.specs.Counts.{count_from-zero}
use Rattle.shares.proofs.Cutting.{may_be_cut}
use Rattle.shares.proofs.cut.Span.whole.Goals as goal

pub invariant_of-result : goal.invariant_of-result
invariant_of-result c =
    let r = c.args.rounding.now in
    let s = r.sharing in
    let ws = s.weights.now in
    let f =
    may_be_cut s.quantity ws s.total r.rest r.sheet.now s.fairly s.whole r.rems r.remain in
    record {
      places = f.places;
      limit = f.limit;
      order = omega arith;
      reached = sym (count_from-zero _);
      passed = f.none;
      enough = f.most;
      few = omega arith;
    }
