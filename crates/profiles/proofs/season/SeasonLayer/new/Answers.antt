use Rattle.std.proofs.Common.{refl, ap, ◌∙◌}
use Rattle.profiles.specs.Layers.{layer_factors}
use Rattle.profiles.proofs.Layering.{no_season, layer_factors-whole}
use Rattle.profiles.proofs.season.SeasonLayer.new.Goals as goal

pub returns : goal.returns
returns g c = record {
  holds = (refl, refl, c.filled.ensures);
  idle = λ segment w.
      let own = c.args.segment in
      let below = g.P.Profile.tells c.args.below segment w in
      ap (λ numbers. layer_factors own numbers segment w below) c.filled.ensures
      ∙ layer_factors-whole own segment w below
      (g.met.P.Profile.are_factors _ _ _)
      (λ late. g.met.P.Profile.outside _ _ _ (no_season _ segment w late));
}
