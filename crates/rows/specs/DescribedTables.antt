-- The described table of a name.
use Rattle.std.specs.Prelude.{◌≡◌, ◌&&◌, ℕ, Bool, List}
use Rattle.std.specs.Str.{bytes_eq}
use Rattle.std.specs.String.{string_bytes}
use Rattle.columns.specs.declared.table.DescribedTable.{DescribedTable}

-- A table of this schema and this name.
pub record IsOfName (schema name : List ℕ) (table : DescribedTable) : Type 0 where
  pub schema_is : string_bytes table.schema ≡ schema
  pub name_is : string_bytes table.name ≡ name

-- Whether it is one.
abbrev pub is_named : List ℕ → List ℕ → DescribedTable → Bool
is_named schema name table = bytes_eq (string_bytes table.schema) schema && bytes_eq (string_bytes table.name) name
