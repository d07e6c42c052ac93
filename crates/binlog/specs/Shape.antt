-- How the value of a column is stored in a row. MySQL Source Documentation, Binlog Event: binary_log::Rows_event, and
-- the storage of decimals and times of binary_log::Table_map_event's types.
use Rattle.std.specs.Prelude.{◌≡◌, ℕ, ◌+◌, ◌-◌, ◌*◌, ◌/◌, ◌%◌, ◌<◌, ◌≤◌, ◌^◌, ◌⊎◌, Bool, true, List, ◌++◌, length, take, drop, nat_lt, if◌then◌else◌, Result, Ok, Err}
use Rattle.byteorder.specs.Endian.{little_bytes, little_number}
use Rattle.binlog.specs.Cell.{CellValue, number_cell, bytes_cell}
use Rattle.binlog.specs.Column.{is_between}
use Rattle.binlog.specs.declared.column.kind.ColumnKind.{ColumnKind}
use Rattle.binlog.specs.declared.column.kind.ColumnKind.TheVariants.{Tiny, Short, Int24, Long, LongLong, Varchar, Blob, Bit, NewDecimal, Float, Double, Date, Year, Timestamp2, Datetime2, Time2, Char, Enum, Set}
use Rattle.binlog.specs.declared.column.value.Shape.{Shape}
use Rattle.binlog.specs.declared.column.value.Shape.TheVariants.{Number, Fixed, Prefixed}

-- how many bytes k decimal digits take: four for each nine, and one for each two of the rest, rounded up
abbrev pub digits_size : ℕ → ℕ
digits_size k = 4 * (k / 9) + (k % 9 + 1) / 2

-- how many bytes the length takes in front of a text of at most this many bytes
abbrev pub prefix_of : ℕ → ℕ
prefix_of maximum = if nat_lt maximum 256 then 1 else 2

abbrev pub shape : ColumnKind → Shape
shape Tiny = Number 1
shape Short = Number 2
shape Int24 = Number 3
shape Long = Number 4
shape LongLong = Number 8
shape (Varchar maximum) = Prefixed (prefix_of maximum)
shape (Blob prefix) = Prefixed prefix
shape (Bit bits) = Fixed ((bits + 7) / 8)
shape (NewDecimal precision scale) = Fixed (digits_size (precision - scale) + digits_size scale)
shape Float = Fixed 4
shape Double = Fixed 8
shape Date = Fixed 3
shape Year = Fixed 1
shape (Timestamp2 fraction) = Fixed (4 + (fraction + 1) / 2)
shape (Datetime2 fraction) = Fixed (5 + (fraction + 1) / 2)
shape (Time2 fraction) = Fixed (3 + (fraction + 1) / 2)
shape (Char maximum) = Prefixed (prefix_of maximum)
shape (Enum width) = Number width
shape (Set width) = Number width

-- numbers and lengths of a size that is supported
abbrev pub is_readable : Shape → Bool
is_readable (Number width) = is_between 1 8 width
is_readable (Fixed size) = true
is_readable (Prefixed size) = is_between 1 4 size

-- The bytes are the cell's value.
abbrev pub IsValue : Shape → CellValue → List ℕ → Type 0
IsValue (Number width) (number_cell n w) bytes = (w ≡ width) × (n < 256 ^ width) × (bytes ≡ little_bytes width n)
IsValue (Fixed size) (bytes_cell value) bytes = (bytes ≡ value) × (length value ≡ size)
IsValue (Prefixed size) (bytes_cell value) bytes = (length value < 256 ^ size) × (bytes ≡ little_bytes size (length value) ++ value)
IsValue _ _ bytes = ⊥

-- The bytes end before a value of the shape does: `place` is the offset in it of what does not fit, its length or else
-- its bytes.
abbrev pub EndsInValue : Shape → List ℕ → ℕ → Type 0
EndsInValue (Number width) bytes place = (place ≡ 0) × (length bytes < width)
EndsInValue (Fixed size) bytes place = (place ≡ 0) × (length bytes < size)
EndsInValue (Prefixed size) bytes place =
    ((place ≡ 0) × (length bytes < size))
    ⊎ ((place ≡ size) × (size ≤ length bytes) × (length bytes - size < little_number size bytes))

-- ---- The value at the front of bytes.

-- how many bytes the value takes, or (Err) the offset in it of the length or the bytes that don't fit
abbrev pub value_end : Shape → List ℕ → Result ℕ ℕ
value_end (Number width) bytes = if nat_lt (length bytes) width then Err 0 else Ok width
value_end (Fixed size) bytes = if nat_lt (length bytes) size then Err 0 else Ok size
value_end (Prefixed size) bytes =
    if nat_lt (length bytes) size then Err 0
    else if nat_lt (length bytes - size) (little_number size bytes) then Err size
    else Ok (size + little_number size bytes)

-- its cell, if it fits
abbrev pub cell_of : Shape → List ℕ → CellValue
cell_of (Number width) bytes = number_cell (little_number width bytes) width
cell_of (Fixed size) bytes = bytes_cell (take size bytes)
cell_of (Prefixed size) bytes = bytes_cell (take (little_number size bytes) (drop size bytes))
