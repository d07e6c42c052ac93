-- What the cells of a column hold, by its type. MySQL Reference Manual, "Data Type Storage Requirements".
use Rattle.std.specs.Prelude.{◌*◌, ◌-◌, ◌^◌, ◌≤◌, ⊤}
use Rattle.columns.specs.TypeText.{first_number, second_number}
use Rattle.columns.specs.declared.arguments.Arguments.{Arguments}
use Rattle.columns.specs.declared.shape.Shape.{Shape}
use Rattle.columns.specs.declared.shape.Shape.TheVariants as shape
use Rattle.columns.specs.declared.type_name.TypeName.{TypeName}
use Rattle.columns.specs.declared.type_name.TypeName.TheVariants as name
use Rattle.columns.specs.declared.value.integer.IntegerWidth.TheVariants.{One, Two, Three, Four, Eight}

-- A character takes at most four bytes in each character set.
abbrev pub shape_of : TypeName → Arguments → Shape
shape_of name.Tinyint numbers = shape.Integer One
shape_of name.Smallint numbers = shape.Integer Two
shape_of name.Mediumint numbers = shape.Integer Three
shape_of name.Int numbers = shape.Integer Four
shape_of name.Bigint numbers = shape.Integer Eight
shape_of name.Decimal numbers = shape.Decimal (first_number numbers) (second_number numbers)
shape_of name.Float numbers = shape.Float
shape_of name.Double numbers = shape.Double
shape_of name.Bit numbers = shape.Bits (first_number numbers)
shape_of name.Year numbers = shape.Year
shape_of name.Date numbers = shape.Date
shape_of name.Time numbers = shape.Time (first_number numbers)
shape_of name.Datetime numbers = shape.Datetime (first_number numbers)
shape_of name.Timestamp numbers = shape.Timestamp (first_number numbers)
shape_of name.Char numbers = shape.Text (4 * first_number numbers)
shape_of name.Varchar numbers = shape.Text (4 * first_number numbers)
shape_of name.Tinytext numbers = shape.Text (2 ^ 8 - 1)
shape_of name.Text numbers = shape.Text (2 ^ 16 - 1)
shape_of name.Mediumtext numbers = shape.Text (2 ^ 24 - 1)
shape_of name.Longtext numbers = shape.Text (2 ^ 32 - 1)
shape_of name.Binary numbers = shape.Bytes (first_number numbers)
shape_of name.Varbinary numbers = shape.Bytes (first_number numbers)
shape_of name.Tinyblob numbers = shape.Bytes (2 ^ 8 - 1)
shape_of name.Blob numbers = shape.Bytes (2 ^ 16 - 1)
shape_of name.Mediumblob numbers = shape.Bytes (2 ^ 24 - 1)
shape_of name.Longblob numbers = shape.Bytes (2 ^ 32 - 1)
shape_of _ numbers = shape.Other

-- The numbers of a shape are those of some type.
abbrev pub IsShape : Shape → Type 0
IsShape (shape.Decimal precision scale) = (1 ≤ precision) × (precision ≤ 65) × (scale ≤ precision) × (scale ≤ 30)
IsShape (shape.Bits bits) = (1 ≤ bits) × (bits ≤ 64)
IsShape (shape.Time digits) = digits ≤ 6
IsShape (shape.Datetime digits) = digits ≤ 6
IsShape (shape.Timestamp digits) = digits ≤ 6
IsShape _ = ⊤
