-- Numbers that keep within a limit.
use Rattle.std.proofs.Common.{◌≡◌, ℕ, ◌≤◌, get_or, replicate, ⊎_elim, arith}
use Rattle.std.proofs.lemmas.List.{get_or-replicate, get_or_past, length-replicate}
use Rattle.std.proofs.lemmas.Bool.{cases_lt}

pub get_or-replicate_limit : (n x limit k : ℕ) → x ≤ limit → get_or (replicate n x) k 0 ≤ limit
get_or-replicate_limit n x limit k h =
    ⊎_elim
    (λ in'. let e = get_or-replicate n k x 0 in' in omega arith)
    (λ past.
    let e = get_or_past (replicate n x) k 0 (omega (arith, length-replicate {A = ℕ} n x)) in
    omega arith)
    (cases_lt k n)

pub get_or-replicate_zero : (n k : ℕ) → get_or {A = ℕ} (replicate n 0) k 0 ≡ 0
get_or-replicate_zero n k = omega (arith, get_or-replicate_limit n 0 0 k (omega arith))
