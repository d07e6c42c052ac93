use Rattle.binlog.proofs.Names.{◌∙◌, sym, ap, ltb-true, is_null, owned_value}
use Rattle.binlog.specs.RowsWritten.{digit}
use Rattle.binlog.proofs.RowWriting.{null_there}
use Rattle.binlog.proofs.bitmap.null_bit.Goals as goal

pub returns-in-Some-Null-clause-bit : goal.returns-in-Some-Null-clause-bit
returns-in-Some-Null-clause-bit c =
    let there = c.in-Some-Null.ensures.lookup in
    ap (λ x. digit (is_null (owned_value x))) (sym c.in-Some-Null.field-0-is) ∙ ap digit (null_there c.args.cells.now c.args.i c.in-Some-Null.field-0.now (ltb-true _ _ (sym there.0)) there.1)

pub returns-in-Some-Number-clause-bit : goal.returns-in-Some-Number-clause-bit
returns-in-Some-Number-clause-bit c =
    let there = c.in-Some-Number.ensures.lookup in
    ap (λ x. digit (is_null (owned_value x))) (sym c.in-Some-Number.field-0-is) ∙ ap digit (null_there c.args.cells.now c.args.i c.in-Some-Number.field-0.now (ltb-true _ _ (sym there.0)) there.1)

pub returns-in-Some-Bytes-clause-bit : goal.returns-in-Some-Bytes-clause-bit
returns-in-Some-Bytes-clause-bit c =
    let there = c.in-Some-Bytes.ensures.lookup in
    ap (λ x. digit (is_null (owned_value x))) (sym c.in-Some-Bytes.field-0-is) ∙ ap digit (null_there c.args.cells.now c.args.i c.in-Some-Bytes.field-0.now (ltb-true _ _ (sym there.0)) there.1)
