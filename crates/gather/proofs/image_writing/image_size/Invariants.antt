use Rattle.gather.proofs.Names.{◌≡◌, ◌+◌, ◌≤◌, ◌^◌, length, flat_map, cell_image, image, cell_values}
use Rattle.std.proofs.Common.{◌*◌, drop}
use Rattle.gather.proofs.ImageParts.{AllHave}
use Rattle.gather.proofs.image_writing.image_size.Given as goal

abbrev pub invariant-loop-cell : goal.invariant-loop-cell
invariant-loop-cell l =
    (AllHave (drop l.cell-index (cell_values l.cells)) → AllHave (cell_values l.cells))
    × (l.size + length (flat_map cell_image (drop l.cell-index (cell_values l.cells))) ≡ length (image (cell_values l.cells)))
    × (l.size ≤ 2 + l.cell-index * 2 ^ 33)
