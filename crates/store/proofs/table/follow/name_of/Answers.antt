use Rattle.std.proofs.Common.{arith}
use Rattle.store.proofs.RowChecks.{row_of_three, lawful_name}
use Rattle.store.proofs.table.follow.name_of.Goals as goal

pub returns : goal.returns
returns c =
    lawful_name c.args.row.now c.in-Int.field-0 c.in-Blob.schema.now c.in-Blob-2.table.now _ _
    (row_of_three c.args.row.now _ _ _ (omega (arith, c.column_count.ensures, c.if-column_count-ne3.false)) (rw c.in-Int.is at c.in_ok-get_ref.ensures.ok).1 (rw c.in-Blob.is at c.in_ok-schema.ensures.ok).1 (rw c.in-Blob-2.is at c.in_ok-table.ensures.ok).1)
    c.in_ok-from_slice.ensures.items c.in_ok-from_slice-2.ensures.items
