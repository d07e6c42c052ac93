use Rattle.binlog.proofs.Names.{◌∙◌, ◌+◌, ap, refl, arith, length, subst, owned_value, shape, value_bytes, value_fits}
use Rattle.gtid.specs.Appending.{AppendsBytes}
use Rattle.gtid.proofs.Appending.{first_write, next_fits, next_write, last_write}
use Rattle.binlog.proofs.RowWriting.{value_there, values_from, value_next, values_end}
use Rattle.binlog.proofs.row.write_values.Goals as goal

pub loop-i-init : goal.loop-i-init
loop-i-init c = first_write c.args.out.now _ _ refl

pub write_value-requires-clause-fits : goal.write_value-requires-clause-fits
write_value-requires-clause-fits c =
    ap (λ s. value_fits s (owned_value c.index-cells-i.result)) c.shape_of.ensures.shape
    ∙ value_there c.args.types.now c.args.cells.now c.loop-i.i c.index-types-i.result c.index-cells-i.result c.requires.fit c.loop-i-test.true c.index-types-i.is c.index-cells-i.is

pub write_value-requires-clause-room : goal.write_value-requires-clause-room
write_value-requires-clause-room c =
    let is = value_next c.args.types.now c.args.cells.now c.loop-i.i c.index-types-i.result c.index-cells-i.result c.requires.as_many c.loop-i-test.true c.index-types-i.is c.index-cells-i.is in
    let fits = next_fits (value_bytes (shape c.index-types-i.result.kind) (owned_value c.index-cells-i.result)) (values_from c.args.types.now c.args.cells.now (c.loop-i.i + 1)) c.loop-i.invariant is c.requires.room in
    omega (arith, fits, ap (λ s. length (value_bytes s (owned_value c.index-cells-i.result))) c.shape_of.ensures.shape)

pub loop-i-preserved : goal.loop-i-preserved
loop-i-preserved c =
    let is = value_next c.args.types.now c.args.cells.now c.loop-i.i c.index-types-i.result c.index-cells-i.result c.requires.as_many c.loop-i-test.true c.index-types-i.is c.index-cells-i.is in
    next_write (value_bytes (shape c.index-types-i.result.kind) (owned_value c.index-cells-i.result)) (values_from c.args.types.now c.args.cells.now (c.loop-i.i + 1)) c.loop-i.invariant is
    (subst (λ s. AppendsBytes c.loop-i.out c.write_value.new.out (value_bytes s (owned_value c.index-cells-i.result))) c.shape_of.ensures.shape c.write_value.ensures)

pub returns : goal.returns
returns c = last_write c.loop-i.invariant (values_end c.args.types.now c.args.cells.now c.loop-i.i c.requires.as_many c.loop-i-test.false)
