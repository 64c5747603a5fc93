use Rattle.std.proofs.Common.{ℕ, ◌<◌, ◌++◌, map, length, drop, sum, sym, ap, ◌∙◌, subst, arith}
use Rattle.std.specs.List.{range_with_len}
use Rattle.std.proofs.lemmas.List.{length-take-le, get_or-take}
use Rattle.profiles.specs.declared.weather.Weather.{Weather}
use Rattle.rows.specs.declared.point.Point.{Point}
use Rattle.rows.specs.Rows.{no_row}
use Rattle.ledger.proofs.ShareOut.{segment_small, weighed_is}
use Rattle.ledger.proofs.ledger.Ledger.weigh_day.Goals as goal

pub weigh-total-requires-clause-segments : goal.weigh-total-requires-clause-segments
weigh-total-requires-clause-segments g c =
    λ k h.
    let l = c.args.self.now.book in
    let s = c.args.sheet.now in
    let n = l.counts.points in
    let len = length-take-le n s c.requires.room in
    let below : k < n = omega arith in
    subst (λ (p : Point). p.segment < 8) (sym (get_or-take n s k no_row below))
    (segment_small l s (length c.args.uses.now) c.requires k below)

pub returns : goal.returns
returns g c =
    let l = c.args.self.now.book in
    let f = g.P.Profile.tells c.args.profile.now in
    let asked = c.ask-factors.ensures ∙ ap (λ (w : Weather). map
    (λ (k : ℕ). f k w) (range_with_len 0 8)) c.weather.ensures in
    let same = weighed_is l c.args.sheet.now f (length c.args.uses.now) c.requires
    c.ask-factors.result asked in
    record {
      factors = asked;
      written = ap (λ u. u ++ drop l.counts.points c.args.uses.now)
          (c.weigh-total.ensures.written ∙ same);
      total = c.weigh-total.ensures.total ∙ ap sum same;
    }
