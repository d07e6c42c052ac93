-- Table maps. MySQL Source Documentation, Binlog Event: binary_log::Table_map_event.
use Rattle.std.specs.Prelude.{◌≡◌, ℕ, suc, ◌+◌, ◌-◌, ◌<◌, ◌≤◌, ◌^◌, Bool, ◌&&◌, not, List, [], ◌∷◌, ◌++◌, length, take, drop, map, slice_index, flat_map, sum_by, ◌==◌, nat_le, Option, Some, None, is_none, unwrap_or, IsTrue}
use Rattle.std.specs.List.{AllByRecursion}
use Rattle.byteorder.specs.Endian.{little_bytes}
use Rattle.wire.specs.Integer.{IsLengthEncoded}
use Rattle.binlog.specs.Fault.{refuse, needs, first_of}
use Rattle.binlog.specs.Count.{count_width, count_at, no_count}
use Rattle.binlog.specs.Column.{type_code, metadata, is_lawful, metadata_size, metadata_fault}
use Rattle.binlog.specs.Row.{bitmap_size}
use Rattle.binlog.specs.declared.column.kind.ColumnKind.{ColumnKind}
use Rattle.binlog.specs.declared.fault.EventFaultKind.{EventFaultKind}
use Rattle.binlog.specs.declared.fault.EventFaultKind.TheVariants.{ColumnType as UnknownColumn, Metadata, Columns}
use Rattle.binlog.specs.declared.fault.EventFault.{EventFault}

-- ---- The layout.

-- how many columns a table has at most. MySQL Reference Manual, "Limits on Table Column Count and Row Size"
abbrev pub most_columns : ℕ
most_columns = 4096

-- a table's number, its names and the types of its columns
pub record TableValue : Type 0 where
  pub id : ℕ
  pub schema : List ℕ
  pub table : List ℕ
  pub columns : List ColumnKind

-- The body begins with a table's number, flags and its two names, each after its length and before a terminator, and
-- goes on with the rest. Flags and terminators are left free.
pub record IsNamed (id : ℕ) (schema table rest body : List ℕ) : Type 0 where
  pub flags : List ℕ
  pub first_terminator : ℕ
  pub second_terminator : ℕ
  pub body_is : body ≡ little_bytes 6 id ++ flags ++ length schema ∷ schema ++ first_terminator ∷ length table ∷ table ++ second_terminator ∷ rest
  pub an_id : id < 2 ^ 48
  pub sizes : (length flags ≡ 2) × (length schema < 256) × (length table < 256)

-- The bytes are the columns of a table: their number, a type code each, the length of all metadata, the metadata, and a
-- bitmap of those that may be null. That bitmap's bits and what follows it are left free.
pub record AreColumns (columns : List ColumnKind) (bytes : List ℕ) : Type 0 where
  pub count : List ℕ
  pub metadata_length : List ℕ
  pub nullable : List ℕ
  pub ignored : List ℕ
  pub bytes_are : bytes ≡ count ++ map type_code columns ++ metadata_length ++ flat_map metadata columns ++ nullable ++ ignored
  pub counted : IsLengthEncoded (length columns) count
  pub number : (1 ≤ length columns) × (length columns ≤ most_columns)
  pub lawful : AllByRecursion (λ kind. IsTrue (is_lawful kind)) columns
  pub measured : IsLengthEncoded (length (flat_map metadata columns)) metadata_length
  pub nullable_length : length nullable ≡ bitmap_size (length columns)

-- The body is the table map.
pub record IsTableMap (t : TableValue) (body : List ℕ) : Type 0 where
  pub rest : List ℕ
  pub named : IsNamed t.id t.schema t.table rest body
  pub columns : AreColumns t.columns rest

-- ---- The faults, of the whole event, whose body begins at 19.

-- where the table's name begins, and where its terminator is
abbrev pub table_place : List ℕ → ℕ
table_place bytes = 30 + slice_index bytes 27

abbrev pub terminator_place : List ℕ → ℕ
terminator_place bytes = table_place bytes + slice_index bytes (table_place bytes - 1)

-- the names
abbrev pub named_schema : List ℕ → List ℕ
named_schema bytes = take (slice_index bytes 27) (drop 28 bytes)

abbrev pub named_table : List ℕ → List ℕ
named_table bytes = take (slice_index bytes (table_place bytes - 1)) (drop (table_place bytes) bytes)

unfoldable pub names_fault : List ℕ → Option EventFault
names_fault bytes =
    let table = table_place bytes in
    first_of (
    needs bytes 19 6 ∷ needs bytes 25 2 ∷ needs bytes 27 1 ∷ needs bytes 28 (slice_index bytes 27) ∷ needs bytes (table - 2) 1
    ∷ needs bytes (table - 1) 1 ∷ needs bytes table (slice_index bytes (table - 1)) ∷ needs bytes (terminator_place bytes) 1
    ∷ [])

-- The type code of this column, counted from 0, is at an offset: after the names and the number of columns.
pub record IsCodeOf (bytes : List ℕ) (at column : ℕ) : Type 0 where
  pub at_is : at ≡ terminator_place bytes + 1 + count_width bytes (terminator_place bytes + 1) + column
  pub within : column < count_at bytes (terminator_place bytes + 1)

-- The names or the number of columns cannot be read.
abbrev pub HasNoColumns : List ℕ → Type 0
HasNoColumns bytes = IsTrue (is_none (first_of (names_fault bytes ∷ no_count bytes (terminator_place bytes + 1) Columns ∷ []))) → ⊥

abbrev pub is_column_count : ℕ → Bool
is_column_count n = nat_le 1 n && nat_le n most_columns

-- the first type code that is not supported; the codes begin at an offset
abbrev pub types_fault : ℕ → List ℕ → Option EventFault
types_fault place [] = None
types_fault place (code ∷ others) = first_of (refuse (is_none (metadata_size code)) (UnknownColumn code) place ∷ types_fault (suc place) others ∷ [])

abbrev pub metadata_length : ℕ → ℕ
metadata_length code = unwrap_or (metadata_size code) 0

abbrev pub at_place : Option EventFaultKind → ℕ → Option EventFault
at_place None place = None
at_place (Some kind) place = Some (record { kind = kind; at = place })

-- the first column whose metadata is out of range; all metadata begins at an offset
abbrev pub all_metadata_fault : List ℕ → ℕ → List ℕ → Option EventFault
all_metadata_fault bytes place [] = None
all_metadata_fault bytes place (code ∷ others) = first_of (
    at_place (metadata_fault code (slice_index bytes place) (slice_index bytes (place + 1))) place
    ∷ all_metadata_fault bytes (place + metadata_length code) others
    ∷ [])

-- the type codes of the columns that begin at an offset
abbrev pub codes_at : List ℕ → ℕ → List ℕ
codes_at bytes place = take (count_at bytes place) (drop (place + count_width bytes place) bytes)

-- the offset of the length of all metadata, and that of the metadata
abbrev pub measure_place : List ℕ → ℕ → ℕ
measure_place bytes place = place + count_width bytes place + count_at bytes place

abbrev pub metadata_place : List ℕ → ℕ → ℕ
metadata_place bytes place = measure_place bytes place + count_width bytes (measure_place bytes place)

-- the columns that begin at an offset: their number, all types, the length of all metadata, each column's metadata, the
-- bitmap
unfoldable pub columns_fault : List ℕ → ℕ → Option EventFault
columns_fault bytes place =
    let columns = count_at bytes place in
    let types = place + count_width bytes place in
    let measure = measure_place bytes place in
    let start = metadata_place bytes place in
    let size = sum_by metadata_length (codes_at bytes place) in
    first_of (
    no_count bytes place Columns
    ∷ refuse (not (is_column_count columns)) Columns place
    ∷ needs bytes types columns
    ∷ types_fault types (codes_at bytes place)
    ∷ no_count bytes measure Metadata
    ∷ refuse (not (count_at bytes measure == size)) Metadata measure
    ∷ needs bytes start size
    ∷ all_metadata_fault bytes start (codes_at bytes place)
    ∷ needs bytes (start + size) (bitmap_size columns)
    ∷ [])
