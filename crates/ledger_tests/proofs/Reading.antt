-- The slip that a reading makes.
use Rattle.std.proofs.Common.{◌≡◌, ℕ, ◌+◌, ◌<◌, List, IfOk, Result, sym, subst, arith}
use Rattle.refusals.specs.declared.Refusal.{Refusal}
use Rattle.rows.specs.declared.point.Point.{Point}
use Rattle.ledger.specs.declared.book.Book.{Book}
use Rattle.ledger.specs.declared.slip.Slip.{Slip}
use Rattle.ledger.specs.Outcomes.{Became, call_outcome}
use Rattle.ledger.specs.Readings.{reading_fault, reading_at, accepted_reading}
use Rattle.ledger.proofs.AcceptedReadings.{reads}
use Rattle.ledger.proofs.Grounds.{by_option}
use Rattle.ledger_tests.specs.Slips.{IsEndable}

pub reading_makes : (l : Book) (s : List Point) (k dial : ℕ) (r : Result Slip Refusal) (l' : Book)
    (s' : List Point) →
    Became (reading_at l s k dial) r l' s' → IfOk r (λ slip. IsEndable l' slip)
reading_makes l s k dial r l' s' became =
    let some : 0 < l.counts.readings + 1 = omega arith in
    subst (λ (b : Book). IfOk r (λ slip. IsEndable b slip)) (sym became.book)
    (subst (λ (z : Result Slip Refusal). IfOk z (λ slip. IsEndable
    (reading_at l s k dial).book slip)) (sym became.answer)
    (by_option
    (λ fault. let o = call_outcome fault l s (accepted_reading l s k dial) in
    IfOk o.answer (λ slip. IsEndable o.book slip))
    (reading_fault l s k dial)
    (λ none. (some, (reads l s k dial none).there.admitted))
    (λ _. tt)))
