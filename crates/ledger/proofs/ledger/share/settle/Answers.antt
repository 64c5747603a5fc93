use Rattle.std.proofs.Common.{◌≤◌, pos, ◌≤ℤ◌, arith}
use Rattle.ledger.specs.declared.book.Trader.{Trader}
use Rattle.ledger.specs.Accounts.{settled_trader}
use Rattle.ledger.specs.Limits.{max_litres}
use Rattle.ledger.proofs.Loops.{map_step, map_done, still}
use Rattle.ledger.proofs.ledger.share.settle.Goals as goal

pub settle-requires : goal.settle-requires
settle-requires c =
    let i = c.loop-trader.trader-index in
    let ts = c.args.traders.now in
    let ys = c.loop-trader.traders in
    record {
      account =
          still (λ (t : Trader). t.account ≤ℤ pos 6_000_000_000_000_000_000) settled_trader ts ys i
          c.loop-trader.invariant (c.requires.within i);
      metered = still (λ (t : Trader). t.metered ≤ max_litres) settled_trader ts ys i
          c.loop-trader.invariant (c.requires.small i);
    }

pub loop-trader-preserved : goal.loop-trader-preserved
loop-trader-preserved c = map_step settled_trader c.args.traders.now c.loop-trader.traders
    c.loop-trader.trader-index _ (omega arith) c.loop-trader.invariant c.settle.ensures

pub returns : goal.returns
returns c = map_done settled_trader c.args.traders.now c.loop-trader.traders
    c.loop-trader.trader-index (omega arith) c.loop-trader.invariant
