use Rattle.std.proofs.Common.{◌≡◌, get_or, refl, ap, ◌∙◌}
use Rattle.std.proofs.lemmas.Bool.{cond_both}
use Rattle.profiles.specs.Asked.{is_asked, place}
use Rattle.profiles.specs.Laws.{factors_of}
use Rattle.profiles.specs.Tables.{table_segments, table_cells}
use Rattle.profiles.proofs.Limits.{get_or-replicate_zero}
use Rattle.profiles.proofs.table.TableProfile.new.Goals as goal

pub returns : goal.returns
returns c = record {
  holds = c.filled.ensures;
  zero = λ segment w.
      let at = place segment w in
      let z = ap (λ l. get_or l at 0) c.filled.ensures ∙ get_or-replicate_zero table_cells at in
      cond_both (is_asked table_segments segment w) _ _ (λ x. x ≡ factors_of 0 0)
      (λ _. ap (λ x. factors_of x x) z)
      (λ _. refl);
}
