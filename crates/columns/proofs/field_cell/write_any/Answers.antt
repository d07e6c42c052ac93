use Rattle.std.proofs.Common.{subst}
use Rattle.columns.specs.FieldCells.{IsShapeFieldCell, IsShapeForm}
use Rattle.columns.specs.FieldWrites.{WritesField}
use Rattle.columns.specs.declared.shape.Shape.{Shape}
use Rattle.columns.proofs.field_cell.write_any.Goals as goal

pub returns : goal.returns
returns c =
    let kind = c.args.kind in
    let field = c.args.field.now in
    subst (λ (shape : Shape). WritesField (IsShapeFieldCell shape kind.name kind.sign c.args.set field) (IsShapeForm shape field) c.write_of_shape.result c.args.out.now.items c.write_of_shape.new.out.items) c.shape.ensures.shape c.write_of_shape.ensures
