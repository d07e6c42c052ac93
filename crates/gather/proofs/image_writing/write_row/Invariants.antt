use Rattle.gather.proofs.Names.{◌≤◌, ◌≡◌, ◌+◌, ◌∷◌, ◌++◌, length, flat_map, cell_image}
use Rattle.std.proofs.Common.{vec_capacity}
use Rattle.gather.proofs.ImageParts.{AllHave}
use Rattle.gather.proofs.image_writing.write_row.Given as goal

abbrev pub invariant-loop-cell : goal.invariant-loop-cell
invariant-loop-cell l =
    AllHave l.cell-iterator
    × (l.count + length l.cell-iterator ≡ length l.row)
    × (l.out.items ++ flat_map cell_image l.cell-iterator ≡ l.fn.out.items ++ 0 ∷ 0 ∷ flat_map cell_image l.row)
    × (vec_capacity l.fn.out ≤ vec_capacity l.out)
