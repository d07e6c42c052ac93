use Rattle.columns.proofs.Names.{ap, bytes_cell}
use Rattle.columns.specs.Fields.{AreFourDigits}
use Rattle.columns.specs.FieldCells.{IsYearFieldCell}
use Rattle.columns.proofs.FieldWrites.{written_field}
use Rattle.columns.proofs.field_cell.write_year.Goals as goal

pub returns-in-Ok : goal.returns-in-Ok
returns-in-Ok c =
    written_field (IsYearFieldCell c.args.field.now) (AreFourDigits c.args.field.now) (c.bytes.result) c.args.out.now.items c.append.new.out.items c.append.result c.appended.result c.appended.ensures c.append.ensures.ok c.append.ensures.err
    (c.in-Ok.year, c.in-Ok.ensures.found, ap bytes_cell c.bytes.ensures)
