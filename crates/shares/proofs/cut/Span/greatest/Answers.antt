use Rattle.std.proofs.Common.{◌≡◌, rules}
use Rattle.shares.proofs.Cutting.{greatest, greatest_is}
use Rattle.shares.proofs.cut.Span.greatest.Goals as goal

pub returns : goal.returns
returns c =
    let span = c.args.self.now in
    let e : c.fold.result ≡ greatest span.rems.now span.low span.high = search rules in
    let l = greatest_is span.rems.now span.low span.high span.order in
    rw e (record { from = l.from; to = l.to; same = l.same })
