-- What C gets for a charge and for a fee, by any rule and of any numbers.
use Rattle.std.specs.Prelude.{ℕ, ◌*◌, Bool, ◌&&◌}
use Rattle.charges.specs.Quantity.{ok_or_energy}
use Rattle.charges.specs.Tariff.{rate_fits}
use Rattle.capi.specs.declared.answer.Answer.{Answer}
use Rattle.capi.specs.Answer.{answer_of}

-- The charge by a rule, where all quantities are in their limits; else the refusal.
abbrev pub charge_answer : {R : Type 0} → (R → Bool) → (R → ℕ) → R → Answer
charge_answer fits charge rule = answer_of (ok_or_energy (fits rule) (charge rule))

-- The charge times the rate, where the quantities and the rate are in their limits; else the
-- refusal.
abbrev pub fee_answer : {R : Type 0} → (R → Bool) → (R → ℕ) → R → ℕ → Answer
fee_answer fits charge rule rate =
    answer_of (ok_or_energy (fits rule && rate_fits rate) (charge rule * rate))
