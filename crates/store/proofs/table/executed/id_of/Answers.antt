use Rattle.std.proofs.Common.{sym, arith, rules}
use Rattle.store.proofs.RowChecks.{row_of_three, lawful_id}
use Rattle.store.proofs.table.executed.id_of.Goals as goal

pub returns : goal.returns
returns c =
    let got = rw c.in-Some-2.is at c.in_ok-lo.ensures in
    lawful_id c.args.row.now c.in-Int.field-0 c.in-Blob.source.now c.in-Some-2.lo _
    (row_of_three c.args.row.now _ _ _ (omega (arith, c.column_count.ensures, c.if-column_count-ne3.false)) (rw c.in-Int.is at c.in_ok-get_ref.ensures.ok).1 (rw c.in-Blob.is at c.in_ok-source.ensures.ok).1 (sym got.0))
    c.in-Some.ensures.some.1 got.1 (omega (arith, c.if-lo-ge-MOST.false)) (search (rules, c.in-Some.ensures.some.0))
