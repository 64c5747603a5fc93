-- The laws of the profiles.
use Rattle.std.proofs.Common.{◌≡◌, ℕ, ◌≤◌, eqb, List, zero-mul, arith}
use native.Mathlib.Nat.{zero-div}
use Rattle.std.specs.Prelude.{slice_index}
use Rattle.std.proofs.lemmas.Bool.{cond-false, cond_both}
use Rattle.profiles.specs.declared.factors.Factors.{Factors}
use Rattle.profiles.specs.declared.weather.Weather.{Weather}
use Rattle.profiles.specs.Asked.{is_asked, place}
use Rattle.profiles.specs.Laws.{whole, factors_of, AreFactors, Tells, TellsFactors, TellsZeroOutside, factors_where_asked}
use Rattle.profiles.specs.Even.{even_segments, even_tells}
use Rattle.profiles.specs.Tables.{table_segments, table_tells}
use Rattle.profiles.specs.Layers.{scaled_factor, with_scaled_day, layer_factors, layer_tells}

-- one segment at least, and eight at most
pub even_few : (1 ≤ even_segments) × (even_segments ≤ 8)
even_few = (omega arith, omega arith)

pub table_few : (1 ≤ table_segments) × (table_segments ≤ 8)
table_few = (omega arith, omega arith)

are_factors_where_asked : (segments segment : ℕ) (w : Weather) (f : Factors) → AreFactors f →
    AreFactors (factors_where_asked segments segment w f)
are_factors_where_asked segments segment w f h =
    cond_both (is_asked segments segment w) _ _ AreFactors
    (λ _. h)
    (λ _. (omega arith, omega arith))

pub even_tells_factors : (factor : ℕ) → factor ≤ whole → TellsFactors (even_tells factor)
even_tells_factors factor h segment w = are_factors_where_asked even_segments segment w _ (h, h)

pub even_tells_outside : (factor : ℕ) → TellsZeroOutside even_segments (even_tells factor)
even_tells_outside factor segment w h = cond-false _ _ _ h

pub table_tells_factors : (numbers : List ℕ) → ((k : ℕ) → slice_index numbers k ≤ whole) →
    TellsFactors (table_tells numbers)
table_tells_factors numbers h segment w =
    let n = h (place segment w) in are_factors_where_asked table_segments segment w _ (n, n)

pub table_tells_outside : (numbers : List ℕ) → TellsZeroOutside table_segments (table_tells numbers)
table_tells_outside numbers segment w h = cond-false _ _ _ h

scaled_factor-zero : (number : ℕ) → scaled_factor 0 number ≡ 0
scaled_factor-zero number = rw (zero-mul number, zero-div whole)

-- a layer leaves factors of 0
pub layer_factors-zero : (own : ℕ) (numbers : List ℕ) (segment : ℕ) (w : Weather) (f : Factors) →
    f ≡ factors_of 0 0 → layer_factors own numbers segment w f ≡ factors_of 0 0
layer_factors-zero own numbers segment w f e =
    cond_both (eqb segment own) _ _ (λ x. x ≡ factors_of 0 0)
    (λ _. rw (e, scaled_factor-zero (slice_index numbers (place w.season w))))
    (λ _. e)

module _ (own : ℕ) (numbers : List ℕ) (below : Tells) where
  pub layer_tells_factors : TellsFactors below → TellsFactors (layer_tells own numbers below)
  layer_tells_factors h segment w =
      let f = below segment w in
      let number = slice_index numbers (place w.season w) in
      cond_both (eqb segment own) (with_scaled_day number f) f AreFactors
      (λ _. ((h segment w).0, omega arith))
      (λ _. h segment w)

  pub layer_tells_outside : (segments : ℕ) → TellsZeroOutside segments below →
      TellsZeroOutside segments (layer_tells own numbers below)
  layer_tells_outside segments outside segment w h =
      layer_factors-zero own numbers segment w (below segment w) (outside segment w h)
