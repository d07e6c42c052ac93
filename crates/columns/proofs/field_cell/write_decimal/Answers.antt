use Rattle.columns.proofs.Names.{bytes_cell, decimal_bytes}
use Rattle.columns.specs.FieldDecimals.{IsDecimalForm}
use Rattle.columns.specs.FieldCells.{IsDecimalFieldCell}
use Rattle.columns.proofs.FieldWrites.{refused, written_field}
use Rattle.columns.proofs.field_cell.write_decimal.Goals as goal

pub returns-in-Ok : goal.returns-in-Ok
returns-in-Ok c =
    let value = c.in-Ok.value in
    written_field (IsDecimalFieldCell c.args.precision c.args.scale c.args.field.now) (IsDecimalForm c.args.scale c.args.field.now) (decimal_bytes value.negative value.precision value.scale value.digits) c.args.out.now.items c.write.new.out.items c.write.result c.appended.result c.appended.ensures c.write.ensures.ok c.write.ensures.err
    (value, c.in-Ok.ensures.precision, c.in-Ok.ensures.scale, c.in-Ok.ensures.found, λ i. bytes_cell (decimal_bytes value.negative (c.in-Ok.ensures.precision i) (c.in-Ok.ensures.scale i) value.digits))

pub returns-in-Err : goal.returns-in-Err
returns-in-Err c =
    refused (IsDecimalFieldCell c.args.precision c.args.scale c.args.field.now) (IsDecimalForm c.args.scale) c.args.field.now c.args.out.now.items c.in-Err.wrong c.in-Err.ensures.fault
    (λ cell is. c.in-Err.ensures.only is.0 is.1 is.2 is.3)
