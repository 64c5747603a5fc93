use Rattle.std.proofs.Common.{ap, ◌∙◌, arith}
use Rattle.journal.specs.Numbers.{number_of}
use Rattle.journal.proofs.Decimals.{number_of-decimal}
use Rattle.journal.proofs.number.number.Goals as goal

pub returns-clause-back : goal.returns-clause-back
returns-clause-back c n h e = c.read_number.ensures ∙ ap (number_of c.args.limit) e
    ∙ number_of-decimal c.args.limit n (omega arith) h
