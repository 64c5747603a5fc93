use Rattle.ledger.specs.Tokens.{OpenToken}
use Rattle.ledger_tests.proofs.open.opening_beside.Goals as goal

pub unwrap_err-why-requires : goal.unwrap_err-why-requires
unwrap_err-why-requires c = c.open.ensures.one_at_a_time (OpenToken c.args.day.now) c.requires
