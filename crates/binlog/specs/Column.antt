-- Column types with their metadata. MySQL Source Documentation, Binlog Event: binary_log::Table_map_event (the table of
-- metadata by type), and the field types of field_types.h.
use Rattle.std.specs.Prelude.{◌≡◌, ℕ, ◌+◌, ◌-◌, ◌*◌, ◌/◌, ◌%◌, Bool, true, ◌&&◌, ◌||◌, not, List, [], ◌∷◌, ◌++◌, length, ◌==◌, nat_lt, nat_le, if◌then◌else◌, Option, Some, None, IsTrue, slice_index, bit_and, bit_or, bit_xor}
use Rattle.byteorder.specs.Endian.{little_bytes}
use Rattle.binlog.specs.ColumnCode as codes
use Rattle.binlog.specs.declared.fault.EventFaultKind.{EventFaultKind}
use Rattle.binlog.specs.declared.fault.EventFaultKind.TheVariants.{Truncated, ColumnType as UnknownColumn, Metadata}
use Rattle.binlog.specs.declared.column.kind.ColumnKind.{ColumnKind}
use Rattle.binlog.specs.declared.column.kind.ColumnKind.TheVariants.{Tiny, Short, Int24, Long, LongLong, Varchar, Blob, Bit, NewDecimal, Float, Double, Date, Year, Timestamp2, Datetime2, Time2, Char, Enum, Set}

-- ---- A type as bytes.

-- the type byte of a table map
abbrev pub type_code : ColumnKind → ℕ
type_code Tiny = codes.tiny
type_code Short = codes.short
type_code Long = codes.long
type_code Float = codes.float
type_code Double = codes.double
type_code LongLong = codes.longlong
type_code Int24 = codes.int24
type_code Date = codes.date
type_code Year = codes.year
type_code (Varchar maximum) = codes.varchar
type_code (Bit bits) = codes.bit
type_code (Timestamp2 fraction) = codes.timestamp2
type_code (Datetime2 fraction) = codes.datetime2
type_code (Time2 fraction) = codes.time2
type_code (NewDecimal precision scale) = codes.newdecimal
type_code (Blob prefix) = codes.blob
type_code (Char maximum) = codes.string
type_code (Enum width) = codes.string
type_code (Set width) = codes.string

-- the metadata of a STRING of this real type and length: bits 8 and 9 of the length are flipped and put in bits 4 and 5
-- of the first byte
abbrev pub string_metadata : ℕ → ℕ → List ℕ
string_metadata real size = (real - 16 * (size / 256)) ∷ (size % 256) ∷ []

-- the metadata bytes
abbrev pub metadata : ColumnKind → List ℕ
metadata (Varchar maximum) = little_bytes 2 maximum
metadata (Blob prefix) = prefix ∷ []
metadata (Bit bits) = (bits % 8) ∷ (bits / 8) ∷ []
metadata (NewDecimal precision scale) = precision ∷ scale ∷ []
metadata Float = 4 ∷ []
metadata Double = 8 ∷ []
metadata (Timestamp2 fraction) = fraction ∷ []
metadata (Datetime2 fraction) = fraction ∷ []
metadata (Time2 fraction) = fraction ∷ []
metadata (Char maximum) = string_metadata codes.string maximum
metadata (Enum width) = string_metadata codes.enum width
metadata (Set width) = string_metadata codes.set width
metadata _ = []

abbrev pub is_between : ℕ → ℕ → ℕ → Bool
is_between low high n = nat_le low n && nat_le n high

-- the ranges of the metadata
abbrev pub is_lawful : ColumnKind → Bool
is_lawful (Varchar maximum) = nat_lt maximum 65536
is_lawful (Blob prefix) = is_between 1 4 prefix
is_lawful (Bit bits) = is_between 1 64 bits
is_lawful (NewDecimal precision scale) = is_between 1 65 precision && (nat_le scale 30 && nat_le scale precision)
is_lawful (Timestamp2 fraction) = nat_le fraction 6
is_lawful (Datetime2 fraction) = nat_le fraction 6
is_lawful (Time2 fraction) = nat_le fraction 6
is_lawful (Char maximum) = nat_lt maximum 1024
is_lawful (Enum width) = is_between 1 2 width
is_lawful (Set width) = is_between 1 8 width
is_lawful _ = true

-- The type code and the front of the bytes are those of a type whose metadata is in range.
pub record IsColumn (kind : ColumnKind) (code : ℕ) (rest bytes : List ℕ) : Type 0 where
  pub lawful : IsTrue (is_lawful kind)
  pub code_is : code ≡ type_code kind
  pub bytes_are : bytes ≡ metadata kind ++ rest

-- some type
pub record HasColumn (code : ℕ) (bytes : List ℕ) : Type 0 where
  pub kind : ColumnKind
  pub rest : List ℕ
  pub is_column : IsColumn kind code rest bytes

-- ---- What is wrong with a type code and its metadata.

-- how many bytes of metadata a supported type has
unfoldable pub metadata_size : ℕ → Option ℕ
metadata_size code =
    if (code == codes.tiny) || (code == codes.short) || (code == codes.long) || (code == codes.longlong)
    || (code == codes.int24) || (code == codes.date) || (code == codes.year) then Some 0
    else if (code == codes.float) || (code == codes.double) || (code == codes.timestamp2)
    || (code == codes.datetime2) || (code == codes.time2) || (code == codes.blob) then Some 1
    else if (code == codes.varchar) || (code == codes.bit) || (code == codes.newdecimal) || (code == codes.string) then Some 2
    else None

abbrev pub when : Bool → EventFaultKind → Option EventFaultKind
when test kind = if test then Some kind else None

-- the real type and the length of a STRING, from its two bytes of metadata
abbrev pub real_type : ℕ → ℕ
real_type first = bit_or first 0x30

abbrev pub string_length : ℕ → ℕ → ℕ
string_length first second = second + 16 * bit_xor (bit_and first 0x30) 0x30

abbrev pub string_fault : ℕ → ℕ → Option EventFaultKind
string_fault real size =
    if real == codes.string then None
    else if real == codes.enum then when (not (is_between 1 2 size)) Metadata
    else if real == codes.set then when (not (is_between 1 8 size)) Metadata
    else Some (UnknownColumn real)

-- what is wrong with the metadata of a supported type: its first byte, and the second, if it has two
unfoldable pub metadata_fault : ℕ → ℕ → ℕ → Option EventFaultKind
metadata_fault code first second =
    if code == codes.float then when (not (first == 4)) Metadata
    else if code == codes.double then when (not (first == 8)) Metadata
    else if code == codes.bit then when (not (nat_le first 7 && is_between 1 64 (8 * second + first))) Metadata
    else if (code == codes.timestamp2) || (code == codes.datetime2) || (code == codes.time2) then when (not (nat_le first 6)) Metadata
    else if code == codes.newdecimal then when (not (is_between 1 65 first && (nat_le second 30 && nat_le second first))) Metadata
    else if code == codes.blob then when (not (is_between 1 4 first)) Metadata
    else if code == codes.string then string_fault (real_type first) (string_length first second)
    else None

-- what is wrong with a type code and bytes that begin with its metadata: a type that is not supported, then metadata
-- that does not fit, then what is wrong with it
abbrev pub sized_fault : Option ℕ → ℕ → List ℕ → Option EventFaultKind
sized_fault None code bytes = Some (UnknownColumn code)
sized_fault (Some size) code bytes =
    if nat_lt (length bytes) size then Some Truncated
    else metadata_fault code (slice_index bytes 0) (slice_index bytes 1)

abbrev pub column_fault : ℕ → List ℕ → Option EventFaultKind
column_fault code bytes = sized_fault (metadata_size code) code bytes
