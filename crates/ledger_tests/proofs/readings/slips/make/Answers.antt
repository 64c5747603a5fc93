use Rattle.std.proofs.Common.{◌≡◌, ℕ, List, ℤ, IfErr, Option, Result, refl, arith}
use Rattle.std.proofs.lemmas.Grind.{common_steps}
use Rattle.refusals.specs.declared.Refusal.{Refusal}
use Rattle.refusals.specs.declared.Refused.{Refused}
use Rattle.rows.specs.declared.point.Point.{Point}
use Rattle.ledger.specs.declared.book.Book.{Book}
use Rattle.ledger.specs.declared.slip.Slip.{Slip}
use Rattle.ledger.specs.Outcomes.{Became, token_outcome}
use Rattle.ledger.specs.Readings.{booking_fault, hand_over_fault, withdrawal_fault, accepted_booking}
use Rattle.ledger.proofs.HandedBack.{same_token}
use Rattle.scenario.proofs.Answering.{left}
use Rattle.ledger_tests.proofs.readings.slips.make.Goals as goal

-- what a booking, for any trader, leaves of slip, points and running day
record Leaves (l l' : Book) (given : Slip) (r : Result ℤ (Refused Slip)) : Type 0 where
  slip : IfErr r (λ e. e.given ≡ given)
  points : l'.counts.points ≡ l.counts.points
  day : l'.phase ≡ l.phase

booking_leaves : (l : Book) (s : List Point) (slip : Slip) (t : ℕ) (f : Option Refusal)
    (r : Result ℤ (Refused Slip)) (l' : Book) (s' : List Point) →
    Became (token_outcome slip f l s (accepted_booking l s slip t)) r l' s' → Leaves l l' slip r
booking_leaves l s slip t f r l' s' became =
    let new = (accepted_booking l s slip t).book in
    record {
      slip = same_token f slip _ r became.answer;
      points = left (λ (b : Book). b.counts.points ≡ l.counts.points) f new l l' became.book refl
          refl;
      day = left (λ (b : Book). b.phase ≡ l.phase) f new l l' became.book refl refl;
    }

pub returns-in-Book : goal.returns-in-Book
returns-in-Book c =
    let k = booking_leaves c.args.ledger.now.book c.args.sheet.now c.args.slip _ _ _ _ _
    c.book.ensures.became in
    record { slip = k.slip; points = k.points; day = k.day }

pub returns-in-HandOver : goal.returns-in-HandOver
returns-in-HandOver c =
    let k = booking_leaves c.args.ledger.now.book c.args.sheet.now c.args.slip c.in-HandOver.trader
    _ _ _ _ c.hand_over.ensures.became in
    record { slip = k.slip; points = k.points; day = k.day }

pub returns-in-Withdraw : goal.returns-in-Withdraw
returns-in-Withdraw c =
    let fault = withdrawal_fault c.args.ledger.now.book c.args.sheet.now c.args.slip in
    let back = same_token fault c.args.slip _ _ c.withdraw.ensures.became.answer in
    record { slip = grind (arith, common_steps); points = refl; day = refl }
