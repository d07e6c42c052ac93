-- The columns of a table, as type codes and metadata encode them.
use Rattle.std.specs.Prelude.{ℕ, ◌+◌, ◌*◌, List, [], ◌∷◌, drop, slice_index, ◌==◌, if◌then◌else◌, Option, Some, None}
use Rattle.binlog.specs.ColumnCode as codes
use Rattle.binlog.specs.Column.{real_type, string_length, column_fault}
use Rattle.binlog.specs.Table.{AreColumns, IsNamed, metadata_length, codes_at, metadata_place}
use Rattle.binlog.specs.declared.fault.EventFaultKind.{EventFaultKind}
use Rattle.binlog.specs.declared.column.kind.ColumnKind.{ColumnKind}
use Rattle.binlog.specs.declared.column.kind.ColumnKind.TheVariants.{Tiny, Short, Int24, Long, LongLong, Varchar, Blob, Bit, NewDecimal, Float, Double, Date, Year, Timestamp2, Datetime2, Time2, Char, Enum, Set}

-- the type of a column that is not at fault, from its type code and the first two bytes from its metadata on
unfoldable pub kind_of : ℕ → ℕ → ℕ → ColumnKind
kind_of code first second =
    if code == codes.tiny then Tiny
    else if code == codes.short then Short
    else if code == codes.long then Long
    else if code == codes.float then Float
    else if code == codes.double then Double
    else if code == codes.longlong then LongLong
    else if code == codes.int24 then Int24
    else if code == codes.date then Date
    else if code == codes.year then Year
    else if code == codes.varchar then Varchar (first + 256 * second)
    else if code == codes.bit then Bit (8 * second + first)
    else if code == codes.timestamp2 then Timestamp2 first
    else if code == codes.datetime2 then Datetime2 first
    else if code == codes.time2 then Time2 first
    else if code == codes.newdecimal then NewDecimal first second
    else if code == codes.blob then Blob first
    else if real_type first == codes.string then Char (string_length first second)
    else if real_type first == codes.enum then Enum second
    else Set second

abbrev pub column_front : Option EventFaultKind → ColumnKind → List ColumnKind → List ColumnKind
column_front None kind others = kind ∷ others
column_front (Some fault) kind others = []

-- the columns of these type codes, whose metadata is at the front of the bytes, one after the other: all of them, or
-- those before the first that is at fault
abbrev pub columns_of : List ℕ → List ℕ → List ColumnKind
columns_of [] bytes = []
columns_of (code ∷ codes) bytes = column_front (column_fault code bytes) (kind_of code (slice_index bytes 0) (slice_index bytes 1)) (columns_of codes (drop (metadata_length code) bytes))

-- the columns in an event from an offset on
abbrev pub columns_at : List ℕ → ℕ → List ColumnKind
columns_at bytes place = columns_of (codes_at bytes place) (drop (metadata_place bytes place) bytes)

-- some columns
pub record HasColumns (bytes : List ℕ) : Type 0 where
  pub columns : List ColumnKind
  pub are_columns : AreColumns columns bytes

-- some number and names, and what follows them
pub record HasNames (body : List ℕ) : Type 0 where
  pub id : ℕ
  pub schema : List ℕ
  pub table : List ℕ
  pub rest : List ℕ
  pub named : IsNamed id schema table rest body
