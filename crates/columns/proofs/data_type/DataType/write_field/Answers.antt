use Rattle.columns.specs.FieldCells.{IsFieldCell, IsFieldForm}
use Rattle.columns.proofs.FieldWrites.{gives_found, gives_only, gives_kept, gives_fault}
use Rattle.columns.proofs.data_type.DataType.write_field.Goals as goal

pub returns-clause-found : goal.returns-clause-found
returns-clause-found c =
    let kind = c.args.self in
    gives_found (IsFieldCell kind.name kind.numbers kind.sign c.args.set c.args.field.now) (IsFieldForm kind.name kind.numbers c.args.field.now) c.write_any.result c.args.out.now.items c.write_any.new.out.items c.write_any.ensures

pub returns-clause-only : goal.returns-clause-only
returns-clause-only c cell is =
    let kind = c.args.self in
    gives_only (IsFieldCell kind.name kind.numbers kind.sign c.args.set c.args.field.now) (IsFieldForm kind.name kind.numbers c.args.field.now) c.write_any.result c.args.out.now.items c.write_any.new.out.items c.write_any.ensures cell is

pub returns-clause-err : goal.returns-clause-err
returns-clause-err c =
    let kind = c.args.self in
    gives_kept (IsFieldCell kind.name kind.numbers kind.sign c.args.set c.args.field.now) (IsFieldForm kind.name kind.numbers c.args.field.now) c.write_any.result c.args.out.now.items c.write_any.new.out.items c.write_any.ensures

pub returns-clause-fault : goal.returns-clause-fault
returns-clause-fault c =
    let kind = c.args.self in
    gives_fault (IsFieldCell kind.name kind.numbers kind.sign c.args.set c.args.field.now) (IsFieldForm kind.name kind.numbers c.args.field.now) c.write_any.result c.args.out.now.items c.write_any.new.out.items c.write_any.ensures
