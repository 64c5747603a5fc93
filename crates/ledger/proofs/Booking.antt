-- A slip that ends by a booking, for the trader who had the point or at a hand-over.
use Rattle.std.proofs.Common.{◌≡◌, ℕ, List, set, ℤ, None, Ok, Option, ap, ◌∙◌, w64, SFits, to_z, of_z}
use Rattle.std.proofs.lemmas.Int.{to_z-of_z}
use Rattle.refusals.specs.declared.Refusal.{Refusal}
use Rattle.rows.specs.declared.point.Point.{Point}
use Rattle.rows.specs.Bookings.{kept_correction, booked_row}
use Rattle.rows.specs.Rows.{row_at}
use Rattle.ledger.specs.declared.book.Book.{Book}
use Rattle.ledger.specs.declared.slip.Slip.{Slip}
use Rattle.ledger.specs.Outcomes.{token_outcome, Became}
use Rattle.ledger.specs.Readings.{booked_book, accepted_booking}
use Rattle.ledger.proofs.Becoming.{accepted}

-- owner: who has the point then, by its row; by: what was booked
module _ (l : Book) (s : List Point) (slip : Slip) (fault : Option Refusal) (row : Point)
    (none : fault ≡ None) (is : row ≡ row_at s slip.point) where
  pub booked_step : (owner : Point → ℕ) (by : ℤ) (l' : Book) (row' : Point) → SFits w64 by →
      by ≡ kept_correction row →
      l' ≡ booked_book l row → row' ≡ booked_row row (owner row) →
      Became (token_outcome slip fault l s (accepted_booking l s slip
      (owner (row_at s slip.point)))) (Ok (to_z w64 (of_z w64 by))) l' (set s slip.point row')
  booked_step owner by l' row' fits b st r =
      accepted slip fault l s _ _ _ _ none
      (ap (λ (z : ℤ). Ok z) (to_z-of_z w64 by fits ∙ b ∙ ap kept_correction is))
      (st ∙ ap (booked_book l) is)
      (ap (set s slip.point) (r ∙ ap (λ (q : Point). booked_row q (owner q)) is))
