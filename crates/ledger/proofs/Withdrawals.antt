-- A withdrawal that is not refused. A slip is only its number and its point, so a sheet on which it
-- is open at every place will do.
use Rattle.std.proofs.Common.{◌≡◌, ℕ, ◌<◌, ◌≤◌, true, ◌≢◌, replicate, None, sym, ◌∙◌, subst, arith}
use lib.ListN.{length-replicate, get_or-replicate}
use Rattle.std.proofs.lemmas.Bool.{and_from, cond-false, not_from_true, not_from_false, le-leb, lt-leb, eq-eqb, ne_eqb}
use Rattle.ledger.specs.declared.book.Book.{Book}
use Rattle.rows.specs.declared.point.Point.{Point}
use Rattle.ledger.specs.declared.slip.Slip.{Slip}
use Rattle.rows.specs.Limits.{max_points}
use Rattle.rows.specs.Bookings.{is_slip_of}
use Rattle.ledger.specs.Readings.{withdrawal_fault}
use Rattle.rows.specs.Rows.{no_row}

is_slip : (p : Point) (n : ℕ) → 0 < n → p.slip ≡ n → is_slip_of p n ≡ true
is_slip p n some e =
    let other : p.slip ≢ 0 = λ z. let q : ⊥ = omega arith in q in
    and_from _ _ (not_from_false _ (ne_eqb _ _ other)) (eq-eqb _ _ e)

pub withdrawn : (n : ℕ) (l : Book) (p : Point) (s : Slip) → l.counts.points ≤ n → n ≤ max_points →
    p.slip ≡ s.number → 0 < s.number → s.point < l.counts.points →
    withdrawal_fault l (replicate n p) s ≡ None
withdrawn n l p s room short e some there =
    let len = length-replicate n p in
    let place : s.point < n = omega arith in
    let fits = and_from _ _ (le-leb _ _ (subst (λ m. l.counts.points ≤ m) (sym len) room))
    (le-leb _ _ (subst (λ m. m ≤ max_points) (sym len) short)) in
    let own = subst (λ (q : Point). is_slip_of q s.number ≡ true)
    (sym (get_or-replicate n s.point p no_row place)) (is_slip p s.number some e) in
    cond-false _ _ _ (not_from_true _ fits) ∙ (cond-false _ _ _ (lt-leb _ _ there)
    ∙ cond-false _ _ _ (not_from_true _ own))
