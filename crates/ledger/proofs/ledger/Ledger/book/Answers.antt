use Rattle.std.proofs.Common.{rules}
use Rattle.rows.specs.declared.point.Point.{Point}
use Rattle.ledger.specs.Readings.{booking_fault}
use Rattle.ledger.proofs.AcceptedReadings.{books}
use Rattle.ledger.proofs.Booking.{booked_step}
use Rattle.ledger.proofs.ledger.Ledger.book.Goals as goal

pub book_row-correction-requires-clause-owned : goal.book_row-correction-requires-clause-owned
book_row-correction-requires-clause-owned c =
    let l = c.args.self.now.book in
    let s = c.args.sheet.now in
    let slip = c.args.slip in
    let k = c.in-Ok.ensures in
    rw k.1 (books l s slip k.0).owned

pub returns-in-Ok : goal.returns-in-Ok
returns-in-Ok c =
    let l = c.args.self.now.book in
    let s = c.args.sheet.now in
    let slip = c.args.slip in
    let k = c.in-Ok.ensures in
    let b = c.book_row-correction.ensures in
    let e = booked_step l s slip (booking_fault l s slip) c.in-Ok.fit.row k.0 k.1
    (λ (r : Point). r.trader) c.book_row-correction.result c.book_row-correction.new.self.book c.booked.result
    (search rules) b.moved b.state c.booked.ensures in
    record { became = e; run = e }
