-- The description of tables: one line a column, the lines of a table together. MySQL Reference Manual, "mysql Client
-- Options" (--batch) and "The INFORMATION_SCHEMA COLUMNS Table".
use Rattle.std.specs.Prelude.{◌≡◌, ℕ, ◌<◌, ◌+◌, ◌==◌, true, false, List, [], ◌++◌, length, map, count_by}
use Rattle.std.specs.List.{flat_map, AllByRecursion, IsDistinct, list_any}
use Rattle.std.specs.Str.{bytes_eq}
use Rattle.std.specs.String.{string_bytes}
use Rattle.columns.specs.Escapes.{escaped}
use Rattle.columns.specs.Lines.{field, ColumnValue, column_value, column_text, IsDescribedColumn, IsName}
use Rattle.columns.specs.LineFaults.{IsFaultAmong, line_fields, IsColumnFault}
use Rattle.columns.specs.declared.escape.Layer.TheVariants.{Client}
use Rattle.columns.specs.declared.column.Column.{Column}
use Rattle.columns.specs.declared.fields.LineFault.{LineFault}
use Rattle.columns.specs.declared.fields.LineFault.TheVariants.{CharacterSet, ColumnTwice, TableApart, NoLine, Memory}
use Rattle.columns.specs.declared.table.DescribedTable.{DescribedTable}

-- A table: the name of its schema, its name, its columns.
pub record DescribedTableValue : Type 0 where
  pub schema : List ℕ
  pub name : List ℕ
  pub columns : List ColumnValue

abbrev pub column_values : List Column → List ColumnValue
column_values columns = map column_value columns

abbrev pub described_table : DescribedTable → DescribedTableValue
described_table table = record { schema = string_bytes table.schema; name = string_bytes table.name; columns = column_values table.columns.items }

abbrev pub described_tables : List DescribedTable → List DescribedTableValue
described_tables tables = map described_table tables

-- the first two fields of each line of a table
abbrev pub table_front : DescribedTableValue → List ℕ
table_front table = field table.schema 9 ++ field table.name 9

-- the lines of columns that begin so
abbrev pub lines_text : List ℕ → List ColumnValue → List ℕ
lines_text front columns = flat_map (λ column. front ++ column_text column) columns

abbrev pub table_text : DescribedTableValue → List ℕ
table_text table = lines_text (table_front table) table.columns

abbrev pub description_text : List DescribedTableValue → List ℕ
description_text tables = flat_map table_text tables

-- the names of columns, as they stand in the text
abbrev pub column_names : List ColumnValue → List (List ℕ)
column_names columns = map (λ column. escaped Client column.name) columns

-- the names of tables with their schemas, as they stand in the text
abbrev pub table_names : List DescribedTableValue → List (List ℕ)
table_names tables = map table_front tables

-- No two columns have one name.
pub record AreDescribedColumns (columns : List ColumnValue) : Type 0 where
  pub each : AllByRecursion IsDescribedColumn columns
  pub distinct : IsDistinct bytes_eq (column_names columns)

pub record IsTable (table : DescribedTableValue) : Type 0 where
  pub schema : IsName table.schema
  pub name : IsName table.name
  pub some : 0 < length table.columns
  pub columns : AreDescribedColumns table.columns

-- No table stands twice, so the lines of a table stand together.
pub record AreTables (tables : List DescribedTableValue) : Type 0 where
  pub each : AllByRecursion IsTable tables
  pub distinct : IsDistinct bytes_eq (table_names tables)

-- At least one table.
pub record IsDescription (tables : List DescribedTableValue) : Type 0 where
  pub some : 0 < length tables
  pub lawful : AreTables tables

-- The text does not begin so.
abbrev pub BeginsNot : List ℕ → List ℕ → Type 0
BeginsNot front text = (rest : List ℕ) → text ≡ front ++ rest → ⊥

-- The first two fields of a line are names.
pub record IsFront (front : List ℕ) : Type 0 where
  pub schema : List ℕ
  pub name : List ℕ
  pub schema_is : IsName schema
  pub name_is : IsName name
  pub front_is : front ≡ field schema 9 ++ field name 9

-- No line of a column stands at the front.
abbrev pub BeginsWithNoLine : List ℕ → Type 0
BeginsWithNoLine text = (front : List ℕ) (column : ColumnValue) (tail : List ℕ) → IsFront front → IsDescribedColumn column → text ≡ front ++ (column_text column ++ tail) → ⊥

-- What is wrong with a line by itself: one of its fields, or the character set does not fit the type.
abbrev pub IsLineFault : List ℕ → LineFault → Type 0
IsLineFault text CharacterSet =
    (front : List ℕ) × (line : List ℕ) × IsFront front × (text ≡ front ++ line) × IsColumnFault line CharacterSet
IsLineFault text fault = IsFaultAmong line_fields text fault

-- What is wrong with a text after the lines of tables, whose names are these, and after lines of one more table that
-- begin so and have these columns: a line with the name of one of these columns, a line with the names of one of these
-- tables, or no line of a column, with a fault that it has. There is no line at all where nothing stands, neither before
-- nor here. Memory is refused only where something stands.
abbrev pub IsWrongLine : List (List ℕ) → List ℕ → List ColumnValue → List ℕ → LineFault → Type 0
IsWrongLine names front columns text Memory = 0 < length text
IsWrongLine names front columns text ColumnTwice =
    (column : ColumnValue) × (tail : List ℕ) × (text ≡ front ++ (column_text column ++ tail)) × (list_any (bytes_eq (escaped Client column.name)) (column_names columns) ≡ true)
IsWrongLine names front columns text TableApart = (again : List ℕ) × (tail : List ℕ) × (text ≡ again ++ tail) × (list_any (bytes_eq again) names ≡ true)
IsWrongLine names front columns text NoLine = (names ≡ []) × (columns ≡ []) × (text ≡ [])
IsWrongLine names front columns text fault = BeginsWithNoLine text × IsLineFault text fault

-- A reader of lines that begin so stopped at one that is wrong, from which on so many bytes stand.
pub record IsStopped (front text : List ℕ) (left : ℕ) (fault : LineFault) : Type 0 where
  pub columns : List ColumnValue
  pub rest : List ℕ
  pub lawful : AreDescribedColumns columns
  pub begins : 0 < length columns → IsFront front
  pub text_is : text ≡ lines_text front columns ++ rest
  pub left_is : length rest ≡ left
  pub wrong : IsWrongLine [] front columns rest fault

-- The same for a reader of tables.
pub record IsTableStopped (text : List ℕ) (left : ℕ) (fault : LineFault) : Type 0 where
  pub tables : List DescribedTableValue
  pub front : List ℕ
  pub columns : List ColumnValue
  pub rest : List ℕ
  pub tables_are : AreTables tables
  pub lawful : AreDescribedColumns columns
  pub begins : 0 < length columns → IsFront front
  pub fresh : 0 < length columns → list_any (bytes_eq front) (table_names tables) ≡ false
  pub text_is : text ≡ (description_text tables ++ lines_text front columns) ++ rest
  pub left_is : length rest ≡ left
  pub wrong : IsWrongLine (table_names tables) front columns rest fault

-- A text that is no description: the line of this number, from 1, is wrong after those before it, which are not: the lines
-- of tables, and lines of one more table, which begin with its names, and those are the names of no
-- table before.
pub record IsDescriptionFault (text : List ℕ) (number : ℕ) (fault : LineFault) : Type 0 where
  pub tables : List DescribedTableValue
  pub front : List ℕ
  pub columns : List ColumnValue
  pub rest : List ℕ
  pub tables_are : AreTables tables
  pub lawful : AreDescribedColumns columns
  pub begins : 0 < length columns → IsFront front
  pub fresh : 0 < length columns → list_any (bytes_eq front) (table_names tables) ≡ false
  pub text_is : text ≡ (description_text tables ++ lines_text front columns) ++ rest
  pub number_is : number ≡ count_by (λ b. b == 10) (description_text tables ++ lines_text front columns) + 1
  pub wrong : IsWrongLine (table_names tables) front columns rest fault
