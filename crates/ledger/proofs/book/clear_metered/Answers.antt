use Rattle.std.proofs.Common.{refl, arith}
use Rattle.ledger.specs.Accounts.{unmetered_trader}
use Rattle.ledger.proofs.Loops.{map_step, map_done}
use Rattle.ledger.proofs.book.clear_metered.Goals as goal

pub loop-trader-preserved : goal.loop-trader-preserved
loop-trader-preserved c = map_step unmetered_trader c.args.traders.now c.loop-trader.traders
    c.loop-trader.trader-index _ (omega arith) c.loop-trader.invariant refl

pub returns : goal.returns
returns c = map_done unmetered_trader c.args.traders.now c.loop-trader.traders
    c.loop-trader.trader-index (omega arith) c.loop-trader.invariant
