-- The lines of rows: the names of a described table, as in the lines of its description, and the fields of a row.
use Rattle.std.specs.Prelude.{◌≡◌, ℕ, List, ◌++◌, Some, slice_get}
use Rattle.std.specs.String.{string_bytes}
use Rattle.binlog.specs.Cell.{CellValue}
use Rattle.gather.specs.Image.{HasImage}
use Rattle.gather.specs.Transaction.{ChangeValue, insert}
use Rattle.columns.specs.Descriptions.{described_table, table_front, BeginsNot}
use Rattle.columns.specs.declared.table.DescribedTable.{DescribedTable}
use Rattle.first_copy.specs.RowFields.{AreFields, IsWrongAmong}
use Rattle.first_copy.specs.declared.fault.RowFault.{RowFault}
use Rattle.first_copy.specs.declared.fault.RowFault.TheVariants.{Table, Image, Memory}

-- The line is that of a row of the table at this place, and the row has these cells.
pub record IsRowAt (tables : List DescribedTable) (place : ℕ) (line : List ℕ) (cells : List CellValue) : Type 0 where
  pub table : DescribedTable
  pub fields : List ℕ
  pub at : slice_get tables place ≡ Some table
  pub line_is : line ≡ table_front (described_table table) ++ fields
  pub are : AreFields table.columns.items fields cells

-- The line is that of a row of one of the tables, and the change adds this row.
pub record IsRowLine (tables : List DescribedTable) (line : List ℕ) (change : ChangeValue) : Type 0 where
  pub place : ℕ
  pub cells : List CellValue
  pub row : IsRowAt tables place line cells
  pub change_is : change ≡ insert (string_bytes row.table.schema) (string_bytes row.table.name) cells

-- The line begins with the names of one of the tables, and what follows has this fault.
pub record IsWrongRow (tables : List DescribedTable) (line : List ℕ) (fault : RowFault) : Type 0 where
  pub place : ℕ
  pub table : DescribedTable
  pub fields : List ℕ
  pub at : slice_get tables place ≡ Some table
  pub line_is : line ≡ table_front (described_table table) ++ fields
  pub wrong : IsWrongAmong 1 table.columns.items fields fault

-- It is a row's, whose cells have no image.
pub record IsWithoutImage (tables : List DescribedTable) (line : List ℕ) : Type 0 where
  pub place : ℕ
  pub cells : List CellValue
  pub row : IsRowAt tables place line cells
  pub none : HasImage cells → ⊥

-- What is wrong with a line: it begins with the names of no table; it is a row's, whose cells have no image; or it begins
-- with the names of a table, and what follows has this fault.
abbrev pub IsRowFault : List DescribedTable → List ℕ → RowFault → Type 0
IsRowFault tables line Table =
    (place : ℕ) (table : DescribedTable) → slice_get tables place ≡ Some table → BeginsNot (table_front (described_table table)) line
IsRowFault tables line Image = IsWithoutImage tables line
IsRowFault tables line Memory = Unit {0}
IsRowFault tables line fault = IsWrongRow tables line fault

-- ways in which a line that is a row's may be refused
abbrev pub IsRefusal : RowFault → Type 0
IsRefusal Image = Unit {0}
IsRefusal Memory = Unit {0}
IsRefusal _ = ⊥
