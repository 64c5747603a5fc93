use Rattle.std.proofs.Common.{inl, inr, ⊎_elim, rules}
use Rattle.profiles.proofs.Layering.{no_season, passed_on}
use Rattle.profiles.proofs.season.SeasonLayerProfile.tell.Goals as goal

pub returns-then-segment-self : goal.returns-then-segment-self
returns-then-segment-self g c =
    let l = c.args.self.now in
    let w = c.args.weather in
    let below = g.P.Profile.tells l.below c.args.segment w in
    passed_on l.segment l.sheet.numbers c.args.segment w below c.tell-below.result (search rules)
    (⊎_elim inl
    (λ late. inr (g.met.P.Profile.outside _ _ _ (no_season _ _ w late.1)))
    c.then-segment-self.either)
