use Rattle.columns.proofs.Names.{◌%◌, suc, sym, subst, arith, IsTrue, Float, IsReal}
use Rattle.std.specs.Float.{float_is_finite}
use Rattle.columns.specs.FieldCells.{IsDoubleFieldCell}
use Rattle.columns.proofs.Types.{le_of}
use Rattle.columns.proofs.FloatBits.{double_finite}
use Rattle.columns.proofs.FieldWrites.{refused_real, written_field}
use Rattle.columns.proofs.field_cell.write_double.Goals as goal

pub returns-in-Ok : goal.returns-in-Ok
returns-in-Ok c =
    written_field (IsDoubleFieldCell c.args.field.now) (IsReal c.args.field.now) (c.double_bytes.result) c.args.out.now.items c.append.new.out.items c.append.result c.appended.result c.appended.ensures c.append.ensures.ok c.append.ensures.err
    (c.in-Ok.value, c.in-Ok.ensures.found, c.double_bytes.ensures.cell)

pub returns-in-Err : goal.returns-in-Err
returns-in-Err c =
    refused_real (IsDoubleFieldCell c.args.field.now) c.args.field.now c.args.out.now.items c.in-Err.wrong c.in-Err.ensures.fault
    (λ cell is.
    let finite = double_finite is.2.0 (le_of (suc (is.2.0 % 0x8000000000000000)) 0x7ff0000000000000 is.2.2) in
    let other = c.in-Err.ensures.only is.0 (subst (λ (x : Float). IsTrue (float_is_finite x)) (sym is.2.4) finite) is.1 in
    absurd (grind (arith, other)))
