-- Cases on whether two numbers are equal, and what stands at a place once another was written.
use Rattle.std.proofs.Common.{◌≡◌, ℕ, ◌<◌, Bool, true, false, cond, eqb, List, length, get_or, set, sym, ap, subst, ⊎_elim}
use Rattle.std.proofs.lemmas.List.{get_or-set_same, get_or-set_other}
use Rattle.std.proofs.lemmas.Bool.{eq-eqb, ne_eqb, cases_eq}

pub by_eqb : (j t : ℕ) (P : Bool → Type 0) → (j ≡ t → P true) → ((j ≡ t → ⊥) → P false) →
    P (eqb j t)
by_eqb j t P same other =
    ⊎_elim (λ e. subst P (sym (eq-eqb j t e)) (same e))
    (λ n. subst P (sym (ne_eqb j t n)) (other n)) (cases_eq j t)

-- what stands at t once x was put at j
pub set_at : {X A : Type 0} (f : X → A) (xs : List X) (j : ℕ) (x d : X) (t : ℕ) → j < length xs →
    f (get_or (set xs j x) t d) ≡ cond (eqb j t) (f x) (f (get_or xs t d))
set_at {X} {A} f xs j x d t h =
    by_eqb j t (λ b. f (get_or (set xs j x) t d) ≡ cond b (f x) (f (get_or xs t d)))
    (λ e. subst (λ (k : ℕ). f (get_or (set xs j x) k d) ≡ f x) e
    (ap f (get_or-set_same xs j x d h)))
    (λ n. ap f (get_or-set_other xs j t x d (λ q. n (sym q))))
