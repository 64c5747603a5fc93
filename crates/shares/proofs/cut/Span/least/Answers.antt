use Rattle.std.proofs.Common.{◌≡◌, rules}
use Rattle.shares.proofs.Cutting.{least, least_is}
use Rattle.shares.proofs.cut.Span.least.Goals as goal

pub returns : goal.returns
returns c =
    let span = c.args.self.now in
    let e : c.fold.result ≡ least span.rems.now span.low span.high = search rules in
    let l = least_is span.rems.now span.low span.high span.order in
    rw e (record { from = l.from; to = l.to; same = l.same })
