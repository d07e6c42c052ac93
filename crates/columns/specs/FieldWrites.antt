-- Private: what writing the cell of a field gives, by which cells are the field's and which form it has to have.
use Rattle.std.specs.Prelude.{◌≡◌, ℕ, List, Result, Ok, Err}
use Rattle.binlog.specs.Cell.{CellValue}
use Rattle.columns.specs.WrittenCells.{IsWritten}
use Rattle.columns.specs.declared.written_cell.WrittenCell.{WrittenCell}
use Rattle.columns.specs.declared.value.field_fault.FieldFault.{FieldFault}
use Rattle.columns.specs.declared.value.field_fault.FieldFault.TheVariants.{Text, Range, Memory}

-- no cell is that of the field
abbrev pub HasNone : (CellValue → Type 0) → Type 0
HasNone Is = (cell : CellValue) → Is cell → ⊥

abbrev pub WritesField : (CellValue → Type 0) → Type 0 → Result WrittenCell FieldFault → List ℕ → List ℕ → Type 0
WritesField Is Form (Ok written) old new = (cell : CellValue) × IsWritten written old new cell × Is cell
WritesField Is Form (Err Text) old new = (new ≡ old) × HasNone Is × (Form → ⊥)
WritesField Is Form (Err Range) old new = (new ≡ old) × HasNone Is × Form
WritesField Is Form (Err Memory) old new = new ≡ old
