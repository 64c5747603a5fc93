use Rattle.std.proofs.Common.{◌≡◌, ◌∷◌, ◌<◌, length, ap, ◌∙◌, rules, sym}
use Rattle.journal.specs.Words.{lines_of}
use Rattle.journal.proofs.LineCuts.{lines_of-front}
use Rattle.journal.proofs.lines.LinesIterator.next.Goals as goal

-- the first line comes off
front : (c : goal.After-rest-2-1) →
    lines_of c.args.self.now.rest.now ≡ c.cut_line.result.0.now ∷ lines_of c.cut_line.result.1.now
front c =
    let h : 0 < length c.args.self.now.rest.now = search rules in
    lines_of-front c.args.self.now.rest.now h
    ∙ (λ j. sym c.cut_line.ensures.line j ∷ lines_of (sym c.cut_line.ensures.rest j))

pub returns-clause-steps : goal.returns-clause-steps
returns-clause-steps c = front c

pub returns-clause-goes : goal.returns-clause-goes
returns-clause-goes c = let e = ap length (front c) in search rules
