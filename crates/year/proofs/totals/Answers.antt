use Rattle.std.proofs.Common.{◌∙◌, arith, w64, SFits, rules}
use mir.Syntax.{w128}
use Rattle.std.proofs.lemmas.Int.{ints, to_z-of_z}
use Rattle.year.proofs.Year.{year_law}
use Rattle.year.proofs.totals.Goals as goal

pub returns : goal.returns
returns c =
    let l = c.args.ledger.now.book in
    let fa : SFits w128 c.accounts-accounts.result = search rules in
    let fc : SFits w64 c.correction-correction.result = search rules in
    let a = c.accounts-accounts.ensures.value in
    let hi = c.accounts-accounts.ensures.bound.high in
    let lo = c.accounts-accounts.ensures.bound.low in
    let x = c.loss-loss.ensures in
    let z = c.correction-correction.ensures in
    record {
      loss = x;
      accounts = to_z-of_z w128 _ fa ∙ a;
      correction = to_z-of_z w64 _ fc ∙ z;
      sum = omega (arith, ints);
      inflow = λ h p. let b = (year_law h l _ p).balance in omega (arith, ints);
      law = λ h p. year_law h l _ p;
    }
