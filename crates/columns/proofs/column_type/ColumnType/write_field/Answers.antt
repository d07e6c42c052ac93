use Rattle.columns.specs.ColumnFields.{IsColumnFieldCell, IsColumnFieldForm}
use Rattle.columns.proofs.FieldWrites.{gives_found, gives_only, gives_kept, gives_fault}
use Rattle.columns.proofs.column_type.ColumnType.write_field.Goals as goal

pub returns-clause-found : goal.returns-clause-found
returns-clause-found c =
    let kind = c.args.self.now in
    gives_found (IsColumnFieldCell kind c.args.set c.args.field.now) (IsColumnFieldForm kind c.args.field.now) c.write_column.result c.args.out.now.items c.write_column.new.out.items c.write_column.ensures

pub returns-clause-only : goal.returns-clause-only
returns-clause-only c cell is =
    let kind = c.args.self.now in
    gives_only (IsColumnFieldCell kind c.args.set c.args.field.now) (IsColumnFieldForm kind c.args.field.now) c.write_column.result c.args.out.now.items c.write_column.new.out.items c.write_column.ensures cell is

pub returns-clause-err : goal.returns-clause-err
returns-clause-err c =
    let kind = c.args.self.now in
    gives_kept (IsColumnFieldCell kind c.args.set c.args.field.now) (IsColumnFieldForm kind c.args.field.now) c.write_column.result c.args.out.now.items c.write_column.new.out.items c.write_column.ensures

pub returns-clause-fault : goal.returns-clause-fault
returns-clause-fault c =
    let kind = c.args.self.now in
    gives_fault (IsColumnFieldCell kind c.args.set c.args.field.now) (IsColumnFieldForm kind c.args.field.now) c.write_column.result c.args.out.now.items c.write_column.new.out.items c.write_column.ensures
