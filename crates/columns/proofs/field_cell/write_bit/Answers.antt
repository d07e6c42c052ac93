use Rattle.columns.proofs.Names.{refl, IsNumeral}
use Rattle.columns.specs.Bits.{bit_bytes}
use Rattle.columns.specs.FieldCells.{IsBitsFieldCell}
use Rattle.columns.proofs.FieldWrites.{written_field}
use Rattle.columns.proofs.field_cell.write_bit.Goals as goal

pub returns-in-Ok : goal.returns-in-Ok
returns-in-Ok c =
    written_field (IsBitsFieldCell c.args.bits c.args.field.now) (IsNumeral 10 c.args.field.now) (bit_bytes c.args.bits c.in-Ok.number) c.args.out.now.items c.write_bits.new.out.items c.write_bits.result c.appended.result c.appended.ensures c.write_bits.ensures.ok c.write_bits.ensures.err
    (c.in-Ok.number, c.in-Ok.ensures.small, c.in-Ok.ensures.found, refl)
