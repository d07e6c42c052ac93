use Rattle.gather.proofs.Names.{◌≤◌, ◌≡◌, ◌++◌, flat_map, cell_image, image, cell_values}
use Rattle.std.proofs.Common.{vec_capacity, drop}
use Rattle.gather.proofs.image_writing.write_cells.Given as goal

abbrev pub invariant-loop-cell : goal.invariant-loop-cell
invariant-loop-cell l =
    (l.out.items ++ flat_map cell_image (drop l.cell-index (cell_values l.cells)) ≡ l.fn.out.items ++ image (cell_values l.cells))
    × (vec_capacity l.fn.out ≤ vec_capacity l.out)
