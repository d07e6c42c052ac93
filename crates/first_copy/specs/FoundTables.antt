-- Private: the table whose names stand at the front of a line.
use Rattle.std.specs.Prelude.{◌≡◌, ℕ, List, ◌++◌, Some, slice_get}
use Rattle.columns.specs.Descriptions.{described_table, table_front}
use Rattle.columns.specs.declared.table.DescribedTable.{DescribedTable}

-- The line is the names of the table at this place, and then the rest.
pub record IsFoundAt (tables : List DescribedTable) (place : ℕ) (line rest : List ℕ) : Type 0 where
  pub table : DescribedTable
  pub at : slice_get tables place ≡ Some table
  pub line_is : line ≡ table_front (described_table table) ++ rest
