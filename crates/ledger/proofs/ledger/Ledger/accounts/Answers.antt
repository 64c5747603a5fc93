use Rattle.std.proofs.Common.{sym, ap, ◌∙◌, arith}
use Rattle.std.proofs.lemmas.List.{take_all}
use Rattle.std.proofs.lemmas.Int.{ints}
use Rattle.ledger.specs.Accounts.{all_accounts}
use Rattle.ledger.proofs.Loops.{accounts_more, accounts_none}
use Rattle.ledger.proofs.ledger.Ledger.accounts.Goals as goal

pub loop-trader-init : goal.loop-trader-init
loop-trader-init c = (
  sym accounts_none,
  record {
    high = omega (arith, ints);
    low = omega (arith, ints);
  },
)

pub loop-trader-preserved : goal.loop-trader-preserved
loop-trader-preserved c =
    let ts = c.args.self.now.book.traders in
    let i = c.loop-trader.trader-index in
    let sound = c.args.self.now.sound in
    let p = sound.places in
    let more = accounts_more ts i (omega arith) in
    let e = c.loop-trader.invariant.0 in
    let hi = c.loop-trader.invariant.1.high in
    let lo = c.loop-trader.invariant.1.low in
    let a = sound.accounts i in
    let ahi = a.high in
    let alo = a.low in
    let s = sound.shared in
    let b = sound.bookings in
    let r = sound.readings in
    (omega (arith, ints), record { high = omega (arith, ints); low = omega (arith, ints) })

pub returns : goal.returns
returns c =
    let p = c.args.self.now.sound.places in
    let hi = c.loop-trader.invariant.1.high in
    let lo = c.loop-trader.invariant.1.low in
    record {
      value = c.loop-trader.invariant.0 ∙ ap all_accounts
          (take_all c.loop-trader.trader-index c.args.self.now.book.traders (omega arith));
      bound = record { high = omega (arith, ints); low = omega (arith, ints) };
    }
