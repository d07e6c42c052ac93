-- Cells, apart from the memory that holds them.
use Rattle.std.specs.Prelude.{ℕ, Bool, true, false, List, map}
use Rattle.binlog.specs.declared.cell.Cell.{Cell}
use Rattle.binlog.specs.declared.cell.Cell.TheVariants.{Null, Number, Bytes}
use Rattle.binlog.specs.declared.cell.OwnedCell.{OwnedCell}
use Rattle.binlog.specs.declared.cell.OwnedCell.TheVariants.{Null as OwnNull, Number as OwnNumber, Bytes as OwnBytes}

-- a cell: null, a whole number with its width in bytes, or bytes
pub data CellValue : Type 0 where
  null_cell : CellValue
  number_cell : ℕ → ℕ → CellValue
  bytes_cell : List ℕ → CellValue

abbrev pub is_null : CellValue → Bool
is_null null_cell = true
is_null _ = false

-- the value of a cell
abbrev pub cell_value : Cell → CellValue
cell_value Null = null_cell
cell_value (Number value width) = number_cell value width
cell_value (Bytes value) = bytes_cell value.now

abbrev pub owned_value : OwnedCell → CellValue
owned_value OwnNull = null_cell
owned_value (OwnNumber value width) = number_cell value width
owned_value (OwnBytes value) = bytes_cell value.items

abbrev pub owned_values : List OwnedCell → List CellValue
owned_values cells = map owned_value cells
