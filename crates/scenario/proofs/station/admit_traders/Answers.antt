use Rattle.std.proofs.Common.{◌≡◌, [], refl, arith}
use Rattle.ledger.specs.declared.book.Book.{Book}
use Rattle.ledger.specs.Days.{accepted_trader_admission, trader_admission_fault}
use Rattle.ledger.specs.Grounds.{unless}
use Rattle.scenario.specs.Days.{SharesAtMost}
use Rattle.scenario.proofs.Answering.{left}
use Rattle.scenario.proofs.Counts.{no_call, in_turn}
use Rattle.scenario.proofs.station.admit_traders.Goals as goal

one_more : (first l b : Book) → SharesAtMost 0 first l →
    b ≡ unless (trader_admission_fault l) (accepted_trader_admission l []).book l → SharesAtMost 0 first b
one_more first l b h e =
    in_turn 0 0 first l b h
    (left (SharesAtMost 0 l) _ (accepted_trader_admission l []).book l b e
    (record { shared = omega arith; bookings = refl }) (no_call 0 l))

pub loop-preserved : goal.loop-preserved
loop-preserved c = one_more _ c.loop.ledger.book _ c.loop.invariant
    (c.admit_trader.ensures.became []).book

pub returns-in_err-admit_trader : goal.returns-in_err-admit_trader
returns-in_err-admit_trader c = one_more _ c.loop.ledger.book _ c.loop.invariant
    (c.admit_trader.ensures.became []).book
