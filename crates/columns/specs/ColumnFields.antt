-- Which cell a server sends for the value that a field of a line is, in a column of any type: an ENUM as the ordinal of
-- its member, a SET as the number of its bits. MySQL Reference Manual, "The ENUM Type" and "The SET Type".
use Rattle.std.specs.Prelude.{◌≡◌, ℕ, ◌^◌, ◌<◌, ◌≤◌, List, vec_len}
use Rattle.std.specs.Str.Parse.{IsNumeral}
use Rattle.binlog.specs.Cell.{CellValue}
use Rattle.binlog.specs.Cell.CellValue.{number_cell}
use Rattle.columns.specs.Choices.{ordinal_size, set_size}
use Rattle.columns.specs.Fields.{IsDigitsOf}
use Rattle.columns.specs.FieldCells.{IsFieldCell, IsFieldForm}
use Rattle.columns.specs.declared.character_set.CharacterSet.{CharacterSet}
use Rattle.columns.specs.declared.column_type.ColumnType.{ColumnType}
use Rattle.columns.specs.declared.column_type.ColumnType.TheVariants.{Scalar, Enum, Set}

-- The field is an ordinal of one of so many members, or 0, and the cell is that of it.
abbrev pub IsOrdinalFieldCell : ℕ → List ℕ → CellValue → Type 0
IsOrdinalFieldCell members field cell =
    (ordinal : ℕ) × (ordinal ≤ members) × IsDigitsOf ordinal field × (cell ≡ number_cell ordinal (ordinal_size members))

-- The field is the number of bits of so many members, the lowest for the first one, and the cell is that of it.
abbrev pub IsSetFieldCell : ℕ → List ℕ → CellValue → Type 0
IsSetFieldCell members field cell =
    (bits : ℕ) × (bits < 2 ^ members) × IsDigitsOf bits field × (cell ≡ number_cell bits (set_size members))

-- The cell is that of the value that the field is in a column of this type.
abbrev pub IsColumnFieldCell : ColumnType → CharacterSet → List ℕ → CellValue → Type 0
IsColumnFieldCell (Scalar kind) set field cell = IsFieldCell kind.name kind.numbers kind.sign set field cell
IsColumnFieldCell (Enum list) set field cell = IsOrdinalFieldCell (vec_len list.members) field cell
IsColumnFieldCell (Set list) set field cell = IsSetFieldCell (vec_len list.members) field cell

-- The field is of the form that fields of a column of this type have.
abbrev pub IsColumnFieldForm : ColumnType → List ℕ → Type 0
IsColumnFieldForm (Scalar kind) field = IsFieldForm kind.name kind.numbers field
IsColumnFieldForm (Enum list) field = IsNumeral 10 field
IsColumnFieldForm (Set list) field = IsNumeral 10 field
