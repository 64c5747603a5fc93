use Rattle.std.proofs.Common.{◌≡◌, ◌*◌, take}
use Rattle.ledger.specs.Accounts.{all_accounts}
use Rattle.rows.specs.Within.{IsWithin}
use Rattle.ledger.proofs.ledger.Ledger.accounts.Given as goal

abbrev pub invariant-loop-trader : goal.invariant-loop-trader
invariant-loop-trader l = (l.all ≡ all_accounts (take l.trader-index l.self.book.traders))
    × IsWithin l.all (l.trader-index * 5_000_004_000_000_000_000)
