-- Days shared out and readings booked, over several calls.
use Rattle.std.proofs.Common.{ℕ, ◌+◌, ◌∙◌, refl, arith}
use Rattle.ledger.specs.declared.book.Book.{Book}
use Rattle.scenario.specs.Days.{SharesAtMost}

-- over none
pub no_call : (n : ℕ) (l : Book) → SharesAtMost n l l
no_call n l = record { shared = omega arith; bookings = refl }

-- over two in turn
pub in_turn : (m n : ℕ) (a b c : Book) → SharesAtMost m a b → SharesAtMost n b c →
    SharesAtMost (m + n) a c
in_turn m n a b c h k =
    let first = h.shared in
    let second = k.shared in
    record { shared = omega arith; bookings = k.bookings ∙ h.bookings }
