use Rattle.std.proofs.Common.{◌%◌, Some, suc, ap, ◌∙◌, arith}
use Rattle.columns.specs.FieldCells.{IsFloatFieldCell, IsReal}
use Rattle.columns.proofs.Types.{le_of}
use Rattle.columns.proofs.FloatBits.{float_finite}
use Rattle.columns.proofs.FieldWrites.{refused_real, written_field}
use Rattle.columns.proofs.field_cell.write_float.Goals as goal

pub returns-in-Ok : goal.returns-in-Ok
returns-in-Ok c =
    written_field (IsFloatFieldCell c.args.field.now) (IsReal c.args.field.now) (c.float_bytes.result) c.args.out.now.items c.append.new.out.items c.append.result c.appended.result c.appended.ensures c.append.ensures.ok c.append.ensures.err
    (c.in-Ok.value, c.in-Ok.ensures.found, c.float_bytes.ensures.cell)

pub returns-in-Err : goal.returns-in-Err
returns-in-Err c =
    refused_real (IsFloatFieldCell c.args.field.now) c.args.field.now c.args.out.now.items c.in-Err.wrong c.in-Err.ensures.fault
    (λ cell is.
    let finite = float_finite is.2.0 (le_of (suc (is.2.0 % 0x80000000)) 0x7f800000 is.2.2) in
    let other = c.in-Err.ensures.only is.2.0 finite (is.1 ∙ ap Some is.2.4) in
    absurd (grind (arith, other)))
