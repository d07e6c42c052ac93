-- The cells of a stored image, by its bytes.
use Rattle.std.specs.Prelude.{ℕ, zero, suc, ◌+◌, ◌-◌, Bool, true, false, ◌&&◌, List, [], ◌∷◌, length, take, drop, map, nat_le, ◌==◌, if◌then◌else◌, Option, Some, None}
use Rattle.byteorder.specs.Endian.{little_number}
use Rattle.binlog.specs.Cell.{CellValue, null_cell, number_cell, bytes_cell, cell_value}
use Rattle.binlog.specs.declared.cell.Cell.{Cell}

abbrev pub cell_values : List Cell → List CellValue
cell_values cells = map cell_value cells

-- a cell and how many bytes its image takes
abbrev pub front_value : Cell × ℕ → CellValue × ℕ
front_value front = (cell_value front.0, front.1)

-- the cell at the front of the bytes, which begin after the byte that says its kind, and how many bytes its image takes
abbrev pub number_front : List ℕ → Option (CellValue × ℕ)
number_front [] = None
number_front (width ∷ bytes) =
    if nat_le 1 width && nat_le width 8 && nat_le width (length bytes) then Some (number_cell (little_number width bytes) width, 2 + width) else None

abbrev pub bytes_front : List ℕ → Option (CellValue × ℕ)
bytes_front bytes =
    let size = little_number 4 bytes in
    if nat_le 4 (length bytes) && nat_le size (length bytes - 4) then Some (bytes_cell (take size (drop 4 bytes)), 5 + size) else None

abbrev pub cell_front : List ℕ → Option (CellValue × ℕ)
cell_front [] = None
cell_front (kind ∷ bytes) = if kind == 0 then Some (null_cell, 1) else if kind == 1 then number_front bytes else if kind == 2 then bytes_front bytes else None

-- the cells whose images are at the front of the bytes; at most as many as the fuel
abbrev pub goes_on : Option (CellValue × ℕ) → (ℕ → List CellValue) → List CellValue
goes_on None others = []
goes_on (Some front) others = front.0 ∷ others front.1

abbrev pub cells_in_image : ℕ → List ℕ → List CellValue
cells_in_image zero bytes = []
cells_in_image (suc most) bytes = goes_on (cell_front bytes) (λ size. cells_in_image most (drop size bytes))

-- all of them
abbrev pub cells_in : List ℕ → List CellValue
cells_in bytes = cells_in_image (length bytes) bytes

-- ---- Whether bytes are cells.

abbrev pub holds_after : Option (CellValue × ℕ) → (ℕ → Bool) → Bool
holds_after None others = false
holds_after (Some front) others = others front.1

-- whether the bytes are the images of this many cells, and nothing follows them
abbrev pub are_images : ℕ → List ℕ → Bool
are_images zero [] = true
are_images zero (_ ∷ _) = false
are_images (suc count) bytes = holds_after (cell_front bytes) (λ size. are_images count (drop size bytes))

-- whether the bytes are the image of some cells
abbrev pub is_image : List ℕ → Bool
is_image bytes = nat_le 2 (length bytes) && are_images (little_number 2 bytes) (drop 2 bytes)
