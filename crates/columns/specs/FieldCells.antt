-- Which cell a server sends for the value that a field of a line is, by the type of the column: numbers, dates and times
-- as the client prints them, but a BIT as its number; texts and bytes as their hexadecimal digits. MySQL Reference
-- Manual, "Data Types" and "String Functions and Operators" (HEX).
use Rattle.std.specs.Prelude.{◌≡◌, ℕ, ◌^◌, ◌<◌, ◌≤◌, List, length, Some, Ok, IsSome, IsOk, ⊤}
use Rattle.std.specs.Float.{binary64}
use Rattle.std.specs.Float.Ieee.{Float}
use Rattle.std.specs.Str.Parse.{IsNumeral}
use Rattle.hex.specs.Hex.{decode_of}
use Rattle.fast_float.specs.Parse.{parse_float}
use Rattle.binlog.specs.Cell.{CellValue}
use Rattle.binlog.specs.Cell.CellValue.{bytes_cell}
use Rattle.columns.specs.Integers.{IsIntegerCell}
use Rattle.columns.specs.RealCells.{IsFloatValue, IsDoubleValue}
use Rattle.columns.specs.Decimals.{decimal_bytes}
use Rattle.columns.specs.Bits.{bit_bytes}
use Rattle.columns.specs.Dates.{year_text, year_bytes, date_text, date_bytes}
use Rattle.columns.specs.Moments.{moment_text, moment_bytes}
use Rattle.columns.specs.Spans.{span_text, span_bytes}
use Rattle.columns.specs.Stamps.{stamp_text, stamp_bytes}
use Rattle.columns.specs.Times.{fraction_size}
use Rattle.columns.specs.Padding.{padding, IsPadded, IsUnpadded}
use Rattle.columns.specs.Fields.{IsDigitsOf, IsWithSign, IsSignedNumeral, AreFourDigits, number_of}
use Rattle.columns.specs.FieldForms.{IsDateForm, IsMomentForm, IsSpanForm}
use Rattle.columns.specs.FieldDecimals.{IsDecimalField, IsDecimalForm}
use Rattle.columns.specs.declared.arguments.Arguments.{Arguments}
use Rattle.columns.specs.declared.character_set.CharacterSet.{CharacterSet}
use Rattle.columns.specs.Shapes.{shape_of}
use Rattle.columns.specs.declared.shape.Shape.{Shape}
use Rattle.columns.specs.declared.shape.Shape.TheVariants as shape
use Rattle.columns.specs.declared.sign.Sign.{Sign}
use Rattle.columns.specs.declared.type_name.TypeName.{TypeName}
use Rattle.columns.specs.declared.type_name.TypeName.TheVariants as name
use Rattle.columns.specs.declared.value.integer.Integer.{Integer}
use Rattle.columns.specs.declared.value.integer.IntegerWidth.{IntegerWidth}
use Rattle.columns.specs.declared.value.decimal.Decimal.{Decimal}
use Rattle.columns.specs.declared.value.year.Year.{Year}
use Rattle.columns.specs.declared.value.date.Date.{Date}
use Rattle.columns.specs.declared.value.span.Time.{Time}
use Rattle.columns.specs.declared.value.moment.Datetime.{Datetime}
use Rattle.columns.specs.declared.value.stamp.Timestamp.{Timestamp}
use Rattle.columns.specs.declared.value.field_fault.FieldFault.{FieldFault}
use Rattle.columns.specs.declared.value.field_fault.FieldFault.TheVariants.{Text, Range, Memory}

-- The field is an integer, and the cell is that of it.
abbrev pub IsIntegerFieldCell : IntegerWidth → Sign → List ℕ → CellValue → Type 0
IsIntegerFieldCell width sign field cell =
    (integer : Integer) × IsWithSign (number_of integer) field × IsIntegerCell width sign integer cell

abbrev pub IsDecimalFieldCell : ℕ → ℕ → List ℕ → CellValue → Type 0
IsDecimalFieldCell precision scale field cell =
    (value : Decimal) × (value.precision ≡ precision) × (value.scale ≡ scale) × IsDecimalField value field ×
    (cell ≡ bytes_cell (decimal_bytes value.negative precision scale value.digits))

abbrev pub IsFloatFieldCell : List ℕ → CellValue → Type 0
IsFloatFieldCell field cell = (value : Float) × (parse_float binary64 field ≡ Some value) × IsFloatValue value cell

abbrev pub IsDoubleFieldCell : List ℕ → CellValue → Type 0
IsDoubleFieldCell field cell = (value : Float) × (parse_float binary64 field ≡ Some value) × IsDoubleValue value cell

abbrev pub IsBitsFieldCell : ℕ → List ℕ → CellValue → Type 0
IsBitsFieldCell bits field cell =
    (number : ℕ) × (number < 2 ^ bits) × IsDigitsOf number field × (cell ≡ bytes_cell (bit_bytes bits number))

abbrev pub IsYearFieldCell : List ℕ → CellValue → Type 0
IsYearFieldCell field cell = (at : Year) × (field ≡ year_text at.year) × (cell ≡ bytes_cell (year_bytes at.year))

abbrev pub IsDateFieldCell : List ℕ → CellValue → Type 0
IsDateFieldCell field cell =
    (at : Date) × (field ≡ date_text at.year at.month at.day) × (cell ≡ bytes_cell (date_bytes at.year at.month at.day))

abbrev pub IsTimeFieldCell : ℕ → List ℕ → CellValue → Type 0
IsTimeFieldCell digits field cell =
    (at : Time) × (at.fraction.digits ≡ digits) × (field ≡ span_text at) ×
    (cell ≡ bytes_cell (span_bytes (fraction_size digits) at))

abbrev pub IsDatetimeFieldCell : ℕ → List ℕ → CellValue → Type 0
IsDatetimeFieldCell digits field cell =
    (at : Datetime) × (at.fraction.digits ≡ digits) × (field ≡ moment_text at) × (cell ≡ bytes_cell (moment_bytes at))

abbrev pub IsTimestampFieldCell : ℕ → List ℕ → CellValue → Type 0
IsTimestampFieldCell digits field cell =
    (at : Timestamp) × (at.fraction.digits ≡ digits) × (field ≡ stamp_text at) × (cell ≡ bytes_cell (stamp_bytes at))

-- How many bytes a field stands for: of a BINARY just as many as the column has, zeros at the end among them, and of others at most so
-- many.
abbrev pub HasLength : TypeName → ℕ → ℕ → Type 0
HasLength name.Binary most length = length ≡ most
HasLength _ most length = length ≤ most

-- The field is the hexadecimal digits of so many bytes, and the cell is these without the padding at their end.
abbrev pub IsHexFieldCell : ℕ → TypeName → CharacterSet → List ℕ → CellValue → Type 0
IsHexFieldCell most kind set field cell =
    (all bytes : List ℕ) × (decode_of field ≡ Ok all) × HasLength kind most (length all) × IsPadded (padding kind set) bytes all ×
    IsUnpadded (padding kind set) bytes × (cell ≡ bytes_cell bytes)

-- The cell is that of the value that the field is in a column of this shape, as a server sends it; of a text and of bytes the type
-- counts as well.
abbrev pub IsShapeFieldCell : Shape → TypeName → Sign → CharacterSet → List ℕ → CellValue → Type 0
IsShapeFieldCell (shape.Integer width) kind sign set field cell = IsIntegerFieldCell width sign field cell
IsShapeFieldCell (shape.Decimal precision scale) kind sign set field cell = IsDecimalFieldCell precision scale field cell
IsShapeFieldCell shape.Float kind sign set field cell = IsFloatFieldCell field cell
IsShapeFieldCell shape.Double kind sign set field cell = IsDoubleFieldCell field cell
IsShapeFieldCell (shape.Bits bits) kind sign set field cell = IsBitsFieldCell bits field cell
IsShapeFieldCell shape.Year kind sign set field cell = IsYearFieldCell field cell
IsShapeFieldCell shape.Date kind sign set field cell = IsDateFieldCell field cell
IsShapeFieldCell (shape.Time digits) kind sign set field cell = IsTimeFieldCell digits field cell
IsShapeFieldCell (shape.Datetime digits) kind sign set field cell = IsDatetimeFieldCell digits field cell
IsShapeFieldCell (shape.Timestamp digits) kind sign set field cell = IsTimestampFieldCell digits field cell
IsShapeFieldCell (shape.Text most) kind sign set field cell = IsHexFieldCell most kind set field cell
IsShapeFieldCell (shape.Bytes most) kind sign set field cell = IsHexFieldCell most kind set field cell
IsShapeFieldCell shape.Other kind sign set field cell = ⊥

-- The same in a column of this type.
abbrev pub IsFieldCell : TypeName → Arguments → Sign → CharacterSet → List ℕ → CellValue → Type 0
IsFieldCell kind numbers sign set field cell = IsShapeFieldCell (shape_of kind numbers) kind sign set field cell

abbrev pub AreHexDigits : List ℕ → Type 0
AreHexDigits field = IsOk (decode_of field)

-- it is a number with or without an exponent
abbrev pub IsReal : List ℕ → Type 0
IsReal field = IsSome (parse_float binary64 field)

-- The field is of the form that fields of a column of this shape have.
abbrev pub IsShapeForm : Shape → List ℕ → Type 0
IsShapeForm (shape.Integer width) field = IsSignedNumeral field
IsShapeForm (shape.Decimal precision scale) field = IsDecimalForm scale field
IsShapeForm shape.Float field = IsReal field
IsShapeForm shape.Double field = IsReal field
IsShapeForm (shape.Bits bits) field = IsNumeral 10 field
IsShapeForm shape.Year field = AreFourDigits field
IsShapeForm shape.Date field = IsDateForm field
IsShapeForm (shape.Time digits) field = IsSpanForm digits field
IsShapeForm (shape.Datetime digits) field = IsMomentForm digits field
IsShapeForm (shape.Timestamp digits) field = IsMomentForm digits field
IsShapeForm (shape.Text most) field = AreHexDigits field
IsShapeForm (shape.Bytes most) field = AreHexDigits field
IsShapeForm shape.Other field = ⊥

-- The same in a column of this type.
abbrev pub IsFieldForm : TypeName → Arguments → List ℕ → Type 0
IsFieldForm kind numbers field = IsShapeForm (shape_of kind numbers) field

-- What is wrong with a field: it is not of the form; or it is, and no cell is that of it, as a clause of its own says;
-- or memory was refused.
abbrev pub IsCellFieldFault : Type 0 → FieldFault → Type 0
IsCellFieldFault Form Text = ¬ Form
IsCellFieldFault Form Range = Form
IsCellFieldFault Form Memory = ⊤
