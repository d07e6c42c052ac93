use Rattle.std.proofs.Common.{◌≡◌, ℕ, List, ◌++◌}
use Rattle.std.specs.Io.KnownBytes.{Appends}
use Rattle.rows.specs.RowText.{cells_text}
use Rattle.rows.proofs.RowTexts.{left_text}
use Rattle.rows.proofs.cells.write_cells.Given as goal

abbrev pub invariant-loop-cell : goal.invariant-loop-cell
invariant-loop-cell g l = (done : List ℕ) × Appends (g.W.Write.contents l.fn.out) (g.W.Write.contents l.out) done × (done ++ left_text l.first l.cell-iterator ≡ cells_text l.row)
