-- The lines of a description: the six fields of a column, each with the escapes of the `mysql` client, with tabs between
-- and a newline at the end. MySQL Reference Manual, "mysql Client Options" (--batch) and "The INFORMATION_SCHEMA COLUMNS
-- Table" (TABLE_SCHEMA, TABLE_NAME, COLUMN_NAME, COLUMN_TYPE, CHARACTER_SET_NAME, COLUMN_KEY).
use Rattle.std.specs.Prelude.{◌≡◌, ◌≢◌, ℕ, ◌<◌, Bool, true, false, not, ◌||◌, ◌==◌, List, [], ◌∷◌, ◌++◌, length, Option, Some, None, is_some, codes}
use Rattle.std.specs.Str.{is_utf8}
use Rattle.std.proofs.Common.{String}
use Rattle.std.specs.String.{string_bytes}
use Rattle.std.proofs.Common.{Global}
use Rattle.columns.specs.Escapes.{escaped}
use Rattle.columns.specs.ColumnTypes.{TypeValue, IsType, column_type_text, type_value}
use Rattle.columns.specs.ColumnTypes.TypeValue.{scalar, enumeration, choices}
use Rattle.columns.specs.declared.escape.Layer.TheVariants.{Client}
use Rattle.columns.specs.declared.type_name.TypeName.{TypeName}
use Rattle.columns.specs.declared.type_name.TypeName.TheVariants.{Char, Varchar, Tinytext, Text, Mediumtext, Longtext}
use Rattle.columns.specs.declared.column.Key.{Key}
use Rattle.columns.specs.Keys.{key_text}
use Rattle.columns.specs.declared.column.Column.{Column}

-- a byte within a field
abbrev pub is_inner : ℕ → Bool
is_inner b = not (b == 9 || b == 10)

abbrev pub is_separator : ℕ → Bool
is_separator b = b == 9 || b == 10

-- a field, and the byte that ends it
abbrev pub field : List ℕ → ℕ → List ℕ
field bytes end = escaped Client bytes ++ end ∷ []

abbrev pub set_text : Option (List ℕ) → List ℕ
set_text None = codes "NULL"
set_text (Some name) = name

-- A column: its name, its type, its character set, its key.
pub record ColumnValue : Type 0 where
  pub name : List ℕ
  pub kind : TypeValue
  pub set : Option (List ℕ)
  pub key : Key

-- the last four fields
abbrev pub column_text : ColumnValue → List ℕ
column_text column = field column.name 9 ++ (field (column_type_text column.kind) 9 ++ (field (set_text column.set) 9 ++ field (key_text column.key) 10))

abbrev pub option_bytes : Option (String Global) → Option (List ℕ)
option_bytes None = None
option_bytes (Some name) = Some (string_bytes name)

abbrev pub column_value : Column → ColumnValue
column_value column = record { name = string_bytes column.name; kind = type_value column.kind; set = option_bytes column.character_set; key = column.key }

-- A name: UTF-8, at least one byte.
pub record IsName (bytes : List ℕ) : Type 0 where
  pub some : 0 < length bytes
  pub text : is_utf8 bytes ≡ true

-- whether a column of this type has a character set, or may have one
abbrev pub has_set : TypeName → Bool
has_set Char = true
has_set Varchar = true
has_set Tinytext = true
has_set Text = true
has_set Mediumtext = true
has_set Longtext = true
has_set _ = false

abbrev pub FitsSet : TypeValue → Bool → Type 0
FitsSet (scalar name numbers sign) given = given ≡ has_set name
FitsSet (enumeration members) given = Unit {0}
FitsSet (choices members) given = Unit {0}

-- The name of a character set is a name, and not the word for none.
abbrev pub IsSet : Option (List ℕ) → Type 0
IsSet None = Unit {0}
IsSet (Some name) = IsName name × (name ≢ codes "NULL")

pub record IsDescribedColumn (column : ColumnValue) : Type 0 where
  pub name : IsName column.name
  pub kind : IsType column.kind
  pub set : IsSet column.set
  pub fits : FitsSet column.kind (is_some column.set)
