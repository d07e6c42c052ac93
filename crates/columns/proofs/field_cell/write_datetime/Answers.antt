use Rattle.columns.proofs.Names.{refl, IsMomentForm}
use Rattle.columns.specs.Moments.{moment_bytes}
use Rattle.columns.specs.FieldCells.{IsDatetimeFieldCell}
use Rattle.columns.proofs.FieldWrites.{written_field}
use Rattle.columns.proofs.field_cell.write_datetime.Goals as goal

pub returns-in-Ok : goal.returns-in-Ok
returns-in-Ok c =
    written_field (IsDatetimeFieldCell c.args.digits c.args.field.now) (IsMomentForm c.args.digits c.args.field.now) (moment_bytes c.in-Ok.at) c.args.out.now.items c.write.new.out.items c.write.result c.appended.result c.appended.ensures c.write.ensures.ok c.write.ensures.err
    (c.in-Ok.at, c.in-Ok.ensures.digits, c.in-Ok.ensures.found, refl)
