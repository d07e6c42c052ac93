use Rattle.columns.proofs.Names.{ℕ, ap, bytes_cell, fraction_size}
use Rattle.columns.specs.Spans.{span_bytes}
use Rattle.columns.specs.FieldForms.{IsSpanForm}
use Rattle.columns.specs.FieldCells.{IsTimeFieldCell}
use Rattle.columns.proofs.FieldWrites.{written_field}
use Rattle.columns.proofs.field_cell.write_time.Goals as goal

pub returns-in-Ok : goal.returns-in-Ok
returns-in-Ok c =
    written_field (IsTimeFieldCell c.args.digits c.args.field.now) (IsSpanForm c.args.digits c.args.field.now) (span_bytes (fraction_size c.in-Ok.at.fraction.digits) c.in-Ok.at) c.args.out.now.items c.write.new.out.items c.write.result c.appended.result c.appended.ensures c.write.ensures.ok c.write.ensures.err
    (c.in-Ok.at, c.in-Ok.ensures.digits, c.in-Ok.ensures.found, ap (λ (d : ℕ). bytes_cell (span_bytes (fraction_size d) c.in-Ok.at)) c.in-Ok.ensures.digits)
