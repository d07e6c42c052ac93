use Rattle.columns.proofs.Names.{ℕ, subst, IsNumeral, WritesField}
use Rattle.columns.specs.ColumnFields.{IsOrdinalFieldCell, IsSetFieldCell}
use Rattle.columns.proofs.column_cell.write_column.Goals as goal

pub returns-in-Enum : goal.returns-in-Enum
returns-in-Enum c =
    let field = c.args.field.now in
    let old = c.args.out.now.items in
    rw c.in-Enum.is
    (subst (λ (n : ℕ). WritesField (IsOrdinalFieldCell n field) (IsNumeral 10 field) c.ordinal_of.result old old) c.count.ensures (c.ordinal_of.ensures old))

pub returns-in-Set : goal.returns-in-Set
returns-in-Set c =
    let field = c.args.field.now in
    let old = c.args.out.now.items in
    rw c.in-Set.is
    (subst (λ (n : ℕ). WritesField (IsSetFieldCell n field) (IsNumeral 10 field) c.choices_of.result old old) c.count-in-Set.ensures.count (c.choices_of.ensures old))
