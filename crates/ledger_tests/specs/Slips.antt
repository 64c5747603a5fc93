-- Which slips a test can end.
use Rattle.std.specs.Prelude.{◌<◌}
use Rattle.ledger.specs.declared.book.Book.{Book}
use Rattle.ledger.specs.declared.slip.Slip.{Slip}

-- a slip of a point of this ledger's
abbrev pub IsEndable : Book → Slip → Type 0
IsEndable l s = (0 < s.number) × (s.point < l.counts.points)
