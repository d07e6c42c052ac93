-- What the text of a first copy adds to a database.
use Rattle.std.specs.Prelude.{◌≡◌, ℕ, List, [], ◌∷◌, ◌++◌}
use Rattle.std.specs.String.{string_bytes}
use Rattle.binlog.specs.Cell.{CellValue}
use Rattle.columns.specs.declared.table.DescribedTable.{DescribedTable}
use Rattle.store.specs.State.{TableRow, row_of}
use Rattle.first_copy.specs.RowLines.{IsRowAt}

-- The line is that of this row: it has the names of its table, and the fields of its cells.
pub record IsLineOf (tables : List DescribedTable) (line : List ℕ) (row : TableRow) : Type 0 where
  pub place : ℕ
  pub cells : List CellValue
  pub at : IsRowAt tables place line cells
  pub row_is : row ≡ row_of (string_bytes at.table.schema) (string_bytes at.table.name) cells

-- The text is a line for each of the rows, in order, and then this.
abbrev pub HasLinesOf : List DescribedTable → List TableRow → (List ℕ → Type 0) → List ℕ → Type 0
HasLinesOf tables [] Then text = Then text
HasLinesOf tables (row ∷ rows) Then text = (line : List ℕ) × (rest : List ℕ) × IsLineOf tables line row × (text ≡ line ++ rest) × HasLinesOf tables rows Then rest
