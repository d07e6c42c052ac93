-- The types of a table's columns, as the code holds them.
use Rattle.std.specs.Prelude.{ℕ, List, length}
use Rattle.binlog.specs.Columns.{columns_of}
use Rattle.binlog.specs.Row.{kinds}
use Rattle.binlog.specs.declared.column.kind.ColumnKind.{ColumnKind}
use Rattle.binlog.specs.declared.column.types.Columns.{Columns}
use Rattle.binlog.specs.declared.column.types.Columns.TheVariants.{Encoded, Types}

-- the types that they encode
abbrev pub columns_in : Columns → List ColumnKind
columns_in (Encoded codes metadata) = columns_of codes.now metadata.now
columns_in (Types types) = kinds types.now

-- how many type codes or types there are
abbrev pub column_count : Columns → ℕ
column_count (Encoded codes metadata) = length codes.now
column_count (Types types) = length types.now
