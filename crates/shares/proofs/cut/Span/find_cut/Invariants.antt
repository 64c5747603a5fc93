use Rattle.std.proofs.Common.{◌≡◌, ◌-◌}
use Rattle.shares.proofs.cut.Span.find_cut.Given as goal

abbrev pub invariant-loop-self : goal.invariant-loop-self
invariant-loop-self l = record {
  rems : l.self.rems.now ≡ l.initial.self.rems.now;
  wanted : l.self.wanted ≡ l.initial.self.wanted;
}

abbrev pub decreases-loop-self : goal.decreases-loop-self
decreases-loop-self l = l.self.high - l.self.low
