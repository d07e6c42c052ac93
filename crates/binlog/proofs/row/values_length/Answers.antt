use Rattle.binlog.proofs.Names.{◌∙◌, ◌+◌, ap, arith, length, length-append, owned_value, shape, value_bytes, value_fits}
use Rattle.binlog.proofs.RowWriting.{value_there, values_from, value_next, values_end}
use Rattle.gtid.proofs.Appending.{sum_next, sum_all}
use Rattle.binlog.proofs.row.values_length.Goals as goal

pub value_length-requires-clause-fits : goal.value_length-requires-clause-fits
value_length-requires-clause-fits c =
    ap (λ s. value_fits s (owned_value c.index-cells-i.result)) c.shape_of.ensures.shape
    ∙ value_there c.args.types.now c.args.cells.now c.loop-i.i c.index-types-i.result c.index-cells-i.result c.requires.fit c.loop-i-test.true c.index-types-i.is c.index-cells-i.is

pub loop-i-preserved : goal.loop-i-preserved
loop-i-preserved c =
    let is = value_next c.args.types.now c.args.cells.now c.loop-i.i c.index-types-i.result c.index-cells-i.result c.requires.as_many c.loop-i-test.true c.index-types-i.is c.index-cells-i.is in
    let value = value_bytes (shape c.index-types-i.result.kind) (owned_value c.index-cells-i.result) in
    let rest = values_from c.args.types.now c.args.cells.now (c.loop-i.i + 1) in
    let same = ap (λ s. length (value_bytes s (owned_value c.index-cells-i.result))) c.shape_of.ensures.shape in
    sum_next (length value) (length rest) c.value_length.result _ c.loop-i.invariant (ap length is ∙ length-append value rest) (omega (arith, c.value_length.ensures, c.value_length.type_inv, same)) c.saturating_add-sum.ensures

pub returns : goal.returns
returns c = sum_all c.loop-i.invariant (ap length (values_end c.args.types.now c.args.cells.now c.loop-i.i c.requires.as_many c.loop-i-test.false))
