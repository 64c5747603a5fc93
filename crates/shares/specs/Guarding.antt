-- A guarded rule keeps the laws of share rules.
use Rattle.std.specs.Prelude.{◌≡◌, ℕ, ◌<◌, true, false, List, length, sum, slice_index}
use Rattle.std.proofs.Common.{sym, ap, subst, ◌∙◌, ⊎_elim, mul-zero, arith}
use Rattle.std.proofs.lemmas.Nat.{mul-le}
use Rattle.std.proofs.lemmas.List.{length-replicate, get_or-replicate}
use Rattle.std.proofs.lemmas.Bool.{cases_lt, cond-true, cond-false, cond_both}
use Rattle.shares.specs.Fair.{fair, zeros, Near}
use Rattle.shares.specs.Laws.{Rule, GivesOneEach, SharesWhole, SharesNear, SharesIdle, SharesFairly, IsShareRule, guarded_rule}

-- a share near to no weight is none
pub near_zero : (a s x : ℕ) → Near a s 0 x → x ≡ 0
near_zero a s x near =
    let none = mul-zero a in
    ⊎_elim
    (λ some. let m = mul-le 1 s x s some (omega arith) in absurd (omega (arith, near.0)))
    (λ le. omega arith)
    (cases_lt 0 x)

module _ (rule : Rule) where
  pub guarded_rule-fair : (a : ℕ) (ws : List ℕ) → fair a ws ≡ true →
      guarded_rule rule a ws ≡ rule a ws
  guarded_rule-fair a ws h = cond-true _ _ _ h

  pub guarded_refused : (a : ℕ) (ws : List ℕ) → fair a ws ≡ false →
      guarded_rule rule a ws ≡ zeros (length ws)
  guarded_refused a ws h = cond-false _ _ _ h

  pub guarded_places : GivesOneEach rule → GivesOneEach (guarded_rule rule)
  guarded_places h a ws =
      cond_both (fair a ws) _ _ (λ l. length l ≡ length ws) (λ _. h a ws)
      (λ _. length-replicate {A = ℕ} (length ws) 0)

  pub guarded_whole : SharesWhole rule → SharesWhole (guarded_rule rule)
  guarded_whole h a ws y = ap sum (guarded_rule-fair a ws y) ∙ h a ws y

  pub guarded_near : SharesNear rule → SharesNear (guarded_rule rule)
  guarded_near h a ws i y in' =
      subst (λ l. Near a (sum ws) (slice_index ws i) (slice_index l i))
      (sym (guarded_rule-fair a ws y)) (h a ws i y in')

  -- also where the quantity cannot be shared
  pub guarded_idle : SharesIdle rule → (a : ℕ) (ws : List ℕ) (i : ℕ) → i < length ws →
      slice_index ws i ≡ 0 → slice_index (guarded_rule rule a ws) i ≡ 0
  guarded_idle h a ws i in' z =
      cond_both (fair a ws) _ _ (λ l. slice_index l i ≡ 0) (λ y. h a ws i y in' z)
      (λ _. get_or-replicate (length ws) i 0 0 in')

  pub near_idle : SharesNear rule → SharesIdle rule
  near_idle h a ws i y in' z =
      let x = slice_index (rule a ws) i in
      near_zero a (sum ws) x (subst (λ w. Near a (sum ws) w x) z (h a ws i y in'))

  pub guarded_laws : SharesFairly rule → IsShareRule (guarded_rule rule)
  guarded_laws laws = record {
    places = guarded_places laws.places;
    whole = guarded_whole laws.whole;
    near = guarded_near laws.near;
    idle = guarded_idle (near_idle laws.near);
    refused = guarded_refused;
  }
