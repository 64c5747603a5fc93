use Rattle.std.proofs.Common.{◌≡◌, length, take, drop, replicate}
use Rattle.journal.specs.Words.{texts_of}
use Rattle.journal.specs.Numbers.{numbers_within, numbers_after}
use Rattle.journal.specs.Calls.{max32}
use Rattle.journal.proofs.call.numbers.Given as goal

abbrev pub invariant-loop-i : goal.invariant-loop-i
invariant-loop-i g l =
    (length l.found ≡ g.row.N)
    × (numbers_within (replicate g.row.N max32) (texts_of l.args)
    ≡ numbers_after (take l.i l.found)
    (numbers_within (drop l.i (replicate g.row.N max32)) (drop l.i (texts_of l.args))))
