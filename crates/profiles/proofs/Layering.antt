-- What a layer leaves of the factors below it.
use Rattle.std.proofs.Common.{◌≡◌, ℕ, ◌<◌, ◌≤◌, false, eqb, ◌⊎◌, List, get_or, replicate, ℤ, sym, refl, ap, ◌∙◌, ⊎_elim, mul-div_cancel, arith, lit<}
use Rattle.std.proofs.lemmas.Bool.{cases_lt, cond-false, cond_both, ne_eqb}
use Rattle.std.proofs.lemmas.List.{get_or-replicate}
use Rattle.std.proofs.lemmas.Int.{ints}
use Rattle.std.proofs.lemmas.Bool.Decides.{nat_tests}
use Rattle.profiles.specs.declared.factors.Factors.{Factors}
use Rattle.profiles.specs.declared.weather.Weather.{Weather}
use Rattle.profiles.specs.Asked.{seasons, columns, is_asked, column, place}
use Rattle.profiles.specs.Laws.{whole, factors_of, AreFactors}
use Rattle.profiles.specs.Layers.{layer_cells, scaled_factor, layer_factors}
use Rattle.profiles.specs.ProfileLaws.{layer_factors-zero}

pub no_season : (segments segment : ℕ) (w : Weather) → seasons ≤ w.season →
    is_asked segments segment w ≡ false
no_season segments segment w h = grind (arith, nat_tests)

module _ (own : ℕ) (numbers : List ℕ) (segment : ℕ) (w : Weather) (f : Factors) where
  other_segment : (segment ≡ own → ⊥) → f ≡ layer_factors own numbers segment w f
  other_segment ne = sym (cond-false _ _ _ (ne_eqb segment own ne))

  zero_below : f ≡ factors_of 0 0 → f ≡ layer_factors own numbers segment w f
  zero_below e = e ∙ sym (layer_factors-zero own numbers segment w f e)

  -- the factors from below, passed on as r
  pub passed_on : (r : Factors) → r ≡ f → (segment ≡ own → ⊥) ⊎ (f ≡ factors_of 0 0) →
      r ≡ layer_factors own numbers segment w f
  passed_on r e why = e ∙ ⊎_elim other_segment zero_below why

column_inside : (t : ℤ) → column t < columns
column_inside t = grind (arith, ints, nat_tests)

-- a season number of one leaves a factor as it is
scaled_factor-whole : (day : ℕ) → day ≤ whole → scaled_factor day whole ≡ day
scaled_factor-whole day h = rw (mul-div_cancel day (lit< tt)) (omega arith)

-- a layer whose numbers are all one changes nothing
pub layer_factors-whole : (own segment : ℕ) (w : Weather) (f : Factors) → AreFactors f →
    (seasons ≤ w.season → f ≡ factors_of 0 0) →
    layer_factors own (replicate layer_cells whole) segment w f ≡ f
layer_factors-whole own segment w f factors none =
    let numbers = replicate layer_cells whole in
    ⊎_elim
    (λ in'.
    let c = column_inside w.temperature in
    let at = place w.season w in
    let number : get_or numbers at 0 ≡ whole =
    get_or-replicate layer_cells at whole 0 (omega arith) in
    let day = ap (scaled_factor f.day) number ∙ scaled_factor-whole f.day factors.1 in
    cond_both (eqb segment own) _ _ (λ x. x ≡ f)
    (λ _. ap (factors_of f.multiplier) day)
    (λ _. refl))
    (λ late. sym (zero_below own numbers segment w f (none late)))
    (cases_lt w.season seasons)
