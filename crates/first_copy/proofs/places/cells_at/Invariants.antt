use Rattle.std.proofs.Common.{◌≡◌, ◌++◌, ◌≤◌, length}
use Rattle.gather.specs.ImageCells.{cell_values}
use Rattle.first_copy.specs.CellPlaces.{places_size, placed_cells}
use Rattle.first_copy.proofs.places.cells_at.Given as goal

abbrev pub invariant-loop-places : goal.invariant-loop-places
invariant-loop-places l = record {
  cells : cell_values l.cells.items ++ placed_cells l.places l.bytes ≡ placed_cells l.fn.places l.fn.bytes;
  room : places_size l.places ≤ length l.bytes;
}

abbrev pub decreases-loop-places : goal.decreases-loop-places
decreases-loop-places l = length l.places
