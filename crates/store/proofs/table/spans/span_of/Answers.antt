use Rattle.std.proofs.Common.{sym, arith, rules}
use Rattle.store.proofs.RowChecks.{row_of_four, lawful_span}
use Rattle.store.proofs.table.spans.span_of.Goals as goal

pub returns : goal.returns
returns c =
    let low = rw c.in-Some-2.is at c.in_ok-lo.ensures in
    let high = rw c.in-Some-3.is at c.in_ok-hi.ensures in
    lawful_span c.args.row.now c.in-Int.field-0 c.in-Blob.source.now c.in-Some-2.lo c.in-Some-3.hi _
    (row_of_four c.args.row.now _ _ _ _ (omega (arith, c.column_count.ensures, c.if-column_count-ne4.false)) (rw c.in-Int.is at c.in_ok-get_ref.ensures.ok).1 (rw c.in-Blob.is at c.in_ok-source.ensures.ok).1 (sym low.0) (sym high.0))
    c.in-Some.ensures.some.1 low.1 (omega (arith, c.if-hi-lo.false)) high.2 (search (rules, c.in-Some.ensures.some.0))
