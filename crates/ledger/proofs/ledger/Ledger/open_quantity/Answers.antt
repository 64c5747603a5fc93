use Rattle.std.proofs.Common.{◌≡◌, ◌≤◌, leb, length, sym, ap, ◌∙◌, arith}
use Rattle.std.proofs.lemmas.List.{length-take-le}
use Rattle.std.proofs.lemmas.Bool.{leb-true, and_parts}
use Rattle.rows.specs.Limits.{max_points}
use Rattle.rows.proofs.Rows.{open_sums_small}
use Rattle.ledger.proofs.ledger.Ledger.open_quantity.Goals as goal

pub open_sums-requires : goal.open_sums-requires
open_sums-requires c =
    let s = c.args.sheet.now in
    let n = c.args.self.now.book.counts.points in
    let rows = c.in_ok-rows.rows.now in
    let f = c.in_ok-rows.ensures in
    let parts = and_parts (leb n (length s)) (leb (length s) max_points) f.0 in
    let room : n ≤ length s = leb-true _ _ parts.0 in
    let short : length s ≤ 4096 = leb-true _ _ parts.1 in
    let len : length rows ≡ n = ap length f.1 ∙ length-take-le n s room in
    let small = open_sums_small c.args.trader rows
    (sym c.are_summable.ensures ∙ c.if-not-are_summable.false) in
    omega arith
