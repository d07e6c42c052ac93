use Rattle.std.proofs.Common.{true, sym, arith}
use Rattle.store.proofs.RowChecks.{row_of_five, lawful_held}
use Rattle.store.proofs.table.held.held_rule.Goals as goal

pub returns : goal.returns
returns c =
    let got = rw c.in-Some.is at c.in_ok-number_at.ensures in
    lawful_held c.args.row.now c.in-Int.field-0 c.in-Blob.field-0.now c.in-Blob-2.field-0.now c.in-Blob-3.image.now c.in-Some.field-0 true
    (row_of_five c.args.row.now _ _ _ _ _ (omega (arith, c.column_count.ensures, c.if-column_count-ne5.false)) (rw c.in-Int.is at c.in_ok-get_ref.ensures.ok).1 (rw c.in-Blob.is at c.in_ok-get_ref-2.ensures.ok).1 (rw c.in-Blob-2.is at c.in_ok-get_ref-3.ensures.ok).1
    (rw c.in-Blob-3.is at c.in_ok-image.ensures.ok).1 (sym got.0)) got.1 got.2 (rw c.if-not-is_image.false at c.is_image.ensures)
