use Rattle.std.proofs.Common.{◌≡◌, ℕ, not, [], ◌∷◌, ap, ◌∙◌, arith}
use Rattle.std.specs.List.{list_all}
use Rattle.refusals.specs.declared.Refusal.TheVariants.{ForeignSheet, NotRunning, SlipOpenAtShareOut, SegmentNotServed}
use Rattle.rows.specs.Rows.{is_served}
use Rattle.ledger.specs.Grounds.{first_ground}
use Rattle.ledger.specs.Sharing.{early_fault_of}
use Rattle.ledger.specs.Tokens.{is_measured}
use Rattle.ledger.proofs.ShareOut.{grounds_tested}
use Rattle.ledger.proofs.ledger.Ledger.check_share_out.Given as given
use Rattle.ledger.proofs.ledger.Ledger.check_share_out.Goals as goal
use Rattle.ledger.proofs.ledger.Ledger.check_share_out.Goals.{After-test_rows-tests}

-- once the rows are tested, the ground is the first that the tests give
tested : (g : given.Over) (c : After-test_rows-tests g) →
    early_fault_of c.args.self.now.book c.args.sheet.now c.args.day.now g.P.Profile.segments
    c.args.uses c.args.shares ≡ first_ground ((not c.test_rows-tests.result.may_share, ForeignSheet)
    ∷ (not (is_measured c.args.self.now.book.phase c.args.day.now.number), NotRunning) ∷
    (not c.test_rows-tests.result.free, SlipOpenAtShareOut) ∷
    (not c.test_rows-tests.result.served, SegmentNotServed) ∷ [])
tested g c =
    let f = c.in_ok-rows.ensures in
    let t = c.test_rows-tests.ensures in
    let served = t.served ∙ ap (λ (k : ℕ). list_all (is_served k) c.in_ok-rows.rows.now)
    c.segments_of.ensures in
    grounds_tested c.args.self.now.book c.args.sheet.now c.args.day.now c.in_ok-rows.rows.now
    g.P.Profile.segments c.args.uses c.args.shares f.0 f.1 _ _ _ t.share t.free served
    (omega arith) (omega arith)

pub returns-then-not-tests : goal.returns-then-not-tests
returns-then-not-tests g c = let t = tested g (goal.at.returns-then-not-tests g
    c).After-test_rows-tests in grind (arith, t)

pub returns-then-not-is_running : goal.returns-then-not-is_running
returns-then-not-is_running g c = let t = tested g
    (goal.at.returns-then-not-is_running g c).After-test_rows-tests in grind (arith, t)

pub returns-then-not-tests-2 : goal.returns-then-not-tests-2
returns-then-not-tests-2 g c = let t = tested g (goal.at.returns-then-not-tests-2 g
    c).After-test_rows-tests in grind (arith, t)

pub returns-then-not-tests-3 : goal.returns-then-not-tests-3
returns-then-not-tests-3 g c = let t = tested g (goal.at.returns-then-not-tests-3 g
    c).After-test_rows-tests in grind (arith, t)

pub returns : goal.returns
returns g c = let t = tested g (goal.at.returns g c).After-test_rows-tests in grind (arith, t)
