use Rattle.std.proofs.Common.{rules, tests}
use Rattle.std.proofs.lemmas.Iterator.{YieldsList-from_slice}
use Rattle.std.proofs.lemmas.Iterator.Search.{find_from_yields_List}
use Rattle.std.specs.Str.{bytes_eq}
use Rattle.journal.proofs.kind.find.Goals as goal

pub returns : goal.returns
returns g c =
    let found =
    find_from_yields_List (λ (x : g.row.W.Denot). bytes_eq c.args.word.now
    (g.W.Worded.word_of x)) _ _
    c.find.result c.find.ensures.ran (YieldsList-from_slice _ c.iter.ensures.rest)
    (λ x b q k. search (rules, tests)) in
    search (rules, found)
