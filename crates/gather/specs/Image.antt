-- The stored image of a row's cells, this project's own format. All numbers are little-endian.
use Rattle.std.specs.Prelude.{◌≡◌, ℕ, ◌<◌, ◌≤◌, ◌^◌, List, [], ◌∷◌, ◌++◌, length, flat_map, ⊤}
use Rattle.std.specs.List.{AllByRecursion}
use Rattle.byteorder.specs.Endian.{little_bytes}
use Rattle.binlog.specs.Cell.{CellValue, null_cell, number_cell, bytes_cell}

-- 0 for null; 1, the width and the number; or 2, the length in four bytes and the bytes
abbrev pub cell_image : CellValue → List ℕ
cell_image null_cell = 0 ∷ []
cell_image (number_cell n width) = 1 ∷ width ∷ little_bytes width n
cell_image (bytes_cell bytes) = 2 ∷ little_bytes 4 (length bytes) ++ bytes

-- the number of cells in two bytes, and the cells
abbrev pub image : List CellValue → List ℕ
image cells = little_bytes 2 (length cells) ++ flat_map cell_image cells

-- A number has 1 to 8 bytes, and the length of bytes fits four bytes.
abbrev pub HasCellImage : CellValue → Type 0
HasCellImage null_cell = ⊤
HasCellImage (number_cell n width) = (1 ≤ width) × (width ≤ 8) × (n < 256 ^ width)
HasCellImage (bytes_cell bytes) = length bytes < 2 ^ 32

-- The cells have an image.
pub record HasImage (cells : List CellValue) : Type 0 where
  pub count : length cells < 2 ^ 16
  pub each : AllByRecursion HasCellImage cells

-- The bytes are the image of the cells.
pub record IsImage (cells : List CellValue) (bytes : List ℕ) : Type 0 where
  pub has_image : HasImage cells
  pub bytes_are : bytes ≡ image cells

-- The bytes are the image of some cells.
pub record IsSomeImage (bytes : List ℕ) : Type 0 where
  pub cells : List CellValue
  pub is_image : IsImage cells bytes
