-- Which value the cell of a column stands for, by the column's type. MySQL Reference Manual, "Data Types" and "Data Type
-- Storage Requirements".
use Rattle.std.specs.Prelude.{Some, ◌≡◌, ℕ, ◌+◌, ◌-◌, ◌^◌, ◌<◌, ◌≤◌, length}
use Rattle.binlog.specs.Cell.{CellValue}
use Rattle.binlog.specs.Cell.CellValue.{bytes_cell}
use Rattle.columns.specs.Integers.{IsIntegerCell, byte_count}
use Rattle.columns.specs.RealCells.{IsFloatValue, IsDoubleValue}
use Rattle.columns.specs.Cells.{number_fault, bytes_fault, within_fault}
use Rattle.columns.specs.declared.value.fault.CellFault.{CellFault}
use Rattle.columns.specs.declared.value.fault.CellFault.TheVariants.{Kind}
use Rattle.columns.specs.Decimals.{decimal_bytes, decimal_size}
use Rattle.columns.specs.TypeText.{first_number}
use Rattle.columns.specs.Bits.{bit_bytes, bit_size}
use Rattle.columns.specs.Dates.{year_bytes, date_bytes}
use Rattle.columns.specs.Moments.{moment_bytes, IsSameMoment}
use Rattle.columns.specs.Spans.{span_bytes, IsSameSpan}
use Rattle.columns.specs.Stamps.{stamp_bytes, IsSameStamp}
use Rattle.columns.specs.Times.{fraction_size}
use Rattle.columns.specs.declared.arguments.Arguments.{Arguments}
use Rattle.columns.specs.Shapes.{shape_of}
use Rattle.columns.specs.declared.shape.Shape.{Shape}
use Rattle.columns.specs.declared.shape.Shape.TheVariants as shape
use Rattle.columns.specs.declared.sign.Sign.{Sign}
use Rattle.columns.specs.declared.type_name.TypeName.{TypeName}
use Rattle.columns.specs.declared.type_name.TypeName.TheVariants as name
use Rattle.columns.specs.declared.value.integer.IntegerWidth.{IntegerWidth}
use Rattle.columns.specs.declared.typed_value.TypedValue.{TypedValue}
use Rattle.columns.specs.declared.typed_value.TypedValue.TheVariants.{Integer, Decimal, Float, Double, Bits, Year, Date, Time, Datetime, Timestamp, Text, Bytes}

abbrev pub IsIntegerOf : IntegerWidth → Sign → TypedValue → CellValue → Type 0
IsIntegerOf width sign (Integer integer) cell = IsIntegerCell width sign integer cell
IsIntegerOf width sign _ cell = ⊥

abbrev pub IsDecimalOf : ℕ → ℕ → TypedValue → CellValue → Type 0
IsDecimalOf precision scale (Decimal value) cell =
    (value.precision ≡ precision) × (value.scale ≡ scale) × (cell ≡ bytes_cell (decimal_bytes value.negative precision scale value.digits))
IsDecimalOf precision scale _ cell = ⊥

-- the number whose bits the cell has
abbrev pub IsFloatOf : TypedValue → CellValue → Type 0
IsFloatOf (Float real) cell = IsFloatValue real.value cell
IsFloatOf _ cell = ⊥

abbrev pub IsDoubleOf : TypedValue → CellValue → Type 0
IsDoubleOf (Double real) cell = IsDoubleValue real.value cell
IsDoubleOf _ cell = ⊥

abbrev pub IsBitsOf : ℕ → TypedValue → CellValue → Type 0
IsBitsOf bits (Bits number) cell = (number < 2 ^ bits) × (cell ≡ bytes_cell (bit_bytes bits number))
IsBitsOf bits _ cell = ⊥

abbrev pub IsYearOf : TypedValue → CellValue → Type 0
IsYearOf (Year at) cell = cell ≡ bytes_cell (year_bytes at.year)
IsYearOf _ cell = ⊥

abbrev pub IsDateOf : TypedValue → CellValue → Type 0
IsDateOf (Date at) cell = cell ≡ bytes_cell (date_bytes at.year at.month at.day)
IsDateOf _ cell = ⊥

abbrev pub IsTimeOf : ℕ → TypedValue → CellValue → Type 0
IsTimeOf digits (Time at) cell = (at.fraction.digits ≡ digits) × (cell ≡ bytes_cell (span_bytes (fraction_size digits) at))
IsTimeOf digits _ cell = ⊥

abbrev pub IsDatetimeOf : ℕ → TypedValue → CellValue → Type 0
IsDatetimeOf digits (Datetime at) cell = (at.fraction.digits ≡ digits) × (cell ≡ bytes_cell (moment_bytes at))
IsDatetimeOf digits _ cell = ⊥

abbrev pub IsTimestampOf : ℕ → TypedValue → CellValue → Type 0
IsTimestampOf digits (Timestamp at) cell = (at.fraction.digits ≡ digits) × (cell ≡ bytes_cell (stamp_bytes at))
IsTimestampOf digits _ cell = ⊥

-- at most so many bytes
abbrev pub IsTextWithin : ℕ → TypedValue → CellValue → Type 0
IsTextWithin most (Text bytes) cell = (length bytes.now ≤ most) × (cell ≡ bytes_cell bytes.now)
IsTextWithin most _ cell = ⊥

abbrev pub AreBytesWithin : ℕ → TypedValue → CellValue → Type 0
AreBytesWithin most (Bytes bytes) cell = (length bytes.now ≤ most) × (cell ≡ bytes_cell bytes.now)
AreBytesWithin most _ cell = ⊥

-- how many zeros stand after so many bytes: a BINARY has all bytes of its type
abbrev pub zeros_after : TypeName → Arguments → ℕ → ℕ
zeros_after name.Binary numbers length = first_number numbers - length
zeros_after _ numbers length = 0

-- The cell is that of the value in a column of this shape.
abbrev pub IsOfShape : Shape → Sign → TypedValue → CellValue → Type 0
IsOfShape (shape.Integer width) sign value cell = IsIntegerOf width sign value cell
IsOfShape (shape.Decimal precision scale) sign value cell = IsDecimalOf precision scale value cell
IsOfShape shape.Float sign value cell = IsFloatOf value cell
IsOfShape shape.Double sign value cell = IsDoubleOf value cell
IsOfShape (shape.Bits bits) sign value cell = IsBitsOf bits value cell
IsOfShape shape.Year sign value cell = IsYearOf value cell
IsOfShape shape.Date sign value cell = IsDateOf value cell
IsOfShape (shape.Time digits) sign value cell = IsTimeOf digits value cell
IsOfShape (shape.Datetime digits) sign value cell = IsDatetimeOf digits value cell
IsOfShape (shape.Timestamp digits) sign value cell = IsTimestampOf digits value cell
IsOfShape (shape.Text most) sign value cell = IsTextWithin most value cell
IsOfShape (shape.Bytes most) sign value cell = AreBytesWithin most value cell
IsOfShape shape.Other sign value cell = ⊥

-- The cell is that of the value in a column of this type.
abbrev pub IsValueOf : TypeName → Arguments → Sign → TypedValue → CellValue → Type 0
IsValueOf kind numbers sign value cell = IsOfShape (shape_of kind numbers) sign value cell

-- Two values are of one kind, and the same in each part; FLOAT and DOUBLE are the same numbers with the same sign.
abbrev pub IsSameValue : TypedValue → TypedValue → Type 0
IsSameValue (Integer a) (Integer b) = a ≡ b
IsSameValue (Decimal a) (Decimal b) = (a.precision ≡ b.precision) × (a.scale ≡ b.scale) × (a.negative ≡ b.negative) × (a.digits ≡ b.digits)
IsSameValue (Float a) (Float b) = a.value ≡ b.value
IsSameValue (Double a) (Double b) = a.value ≡ b.value
IsSameValue (Bits a) (Bits b) = a ≡ b
IsSameValue (Year a) (Year b) = a.year ≡ b.year
IsSameValue (Date a) (Date b) = (a.year ≡ b.year) × (a.month ≡ b.month) × (a.day ≡ b.day)
IsSameValue (Time a) (Time b) = IsSameSpan a b
IsSameValue (Datetime a) (Datetime b) = IsSameMoment a b
IsSameValue (Timestamp a) (Timestamp b) = IsSameStamp a b
IsSameValue (Text a) (Text b) = a.now ≡ b.now
IsSameValue (Bytes a) (Bytes b) = a.now ≡ b.now
IsSameValue _ _ = ⊥

-- What is wrong with a cell that stands for no value in a column of this shape.
abbrev pub IsShapeFault : Shape → CellValue → CellFault → Type 0
IsShapeFault (shape.Integer width) cell fault = number_fault (byte_count width) cell ≡ Some fault
IsShapeFault (shape.Decimal precision scale) cell fault = fault ≡ bytes_fault (decimal_size precision scale) cell
IsShapeFault shape.Float cell fault = fault ≡ bytes_fault 4 cell
IsShapeFault shape.Double cell fault = fault ≡ bytes_fault 8 cell
IsShapeFault (shape.Bits bits) cell fault = fault ≡ bytes_fault (bit_size bits) cell
IsShapeFault shape.Year cell fault = fault ≡ bytes_fault 1 cell
IsShapeFault shape.Date cell fault = fault ≡ bytes_fault 3 cell
IsShapeFault (shape.Time digits) cell fault = fault ≡ bytes_fault (3 + fraction_size digits) cell
IsShapeFault (shape.Datetime digits) cell fault = fault ≡ bytes_fault (5 + fraction_size digits) cell
IsShapeFault (shape.Timestamp digits) cell fault = fault ≡ bytes_fault (4 + fraction_size digits) cell
IsShapeFault (shape.Text most) cell fault = fault ≡ within_fault cell
IsShapeFault (shape.Bytes most) cell fault = fault ≡ within_fault cell
IsShapeFault shape.Other cell fault = fault ≡ Kind

-- The same in a column of this type.
abbrev pub IsCellFault : TypeName → Arguments → CellValue → CellFault → Type 0
IsCellFault kind numbers cell fault = IsShapeFault (shape_of kind numbers) cell fault
