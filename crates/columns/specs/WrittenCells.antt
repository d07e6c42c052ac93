-- The cells of values that are written.
use Rattle.std.specs.Prelude.{◌≡◌, ℕ, List, ◌++◌}
use Rattle.binlog.specs.Cell.{CellValue}
use Rattle.binlog.specs.Cell.CellValue.{number_cell, bytes_cell}
use Rattle.columns.specs.declared.written_cell.WrittenCell.{WrittenCell}
use Rattle.columns.specs.declared.written_cell.WrittenCell.TheVariants.{Number, Bytes}

-- The cell is the number that is answered, or the bytes that were appended.
abbrev pub IsWritten : WrittenCell → List ℕ → List ℕ → CellValue → Type 0
IsWritten (Number value width) old new cell = (new ≡ old) × (cell ≡ number_cell value width)
IsWritten Bytes old new cell = (bytes : List ℕ) × (new ≡ old ++ bytes) × (cell ≡ bytes_cell bytes)
