-- The line of a row as text: the name of its table, the number of its copies, and its cells. The format is this project's own
-- (docs/FORMATS.md, "Rows").
use Rattle.std.specs.Prelude.{ℕ, Bool, false, List, [], ◌∷◌, ◌++◌, codes, decimal, flat_map, if◌then◌else◌}
use Rattle.std.specs.Str.{byte}
use Rattle.binlog.specs.Cell.{CellValue}
use Rattle.binlog.specs.Cell.CellValue.{null_cell, number_cell, bytes_cell}
use Rattle.formats.specs.NameText.{byte_text, qualified_text}

-- `null`, a number and its width, or `x` and two digits for each byte
abbrev pub cell_text : CellValue → List ℕ
cell_text null_cell = codes "null"
cell_text (number_cell value width) = decimal value ++ byte "/" ∷ decimal width
cell_text (bytes_cell bytes) = byte "x" ∷ flat_map byte_text bytes

-- after a comma, unless it is the first
abbrev pub after_comma : Bool → List ℕ → List ℕ
after_comma first text = if first then text else (byte "," ∷ text)

-- with commas between them
abbrev pub cells_text : List CellValue → List ℕ
cells_text [] = []
cells_text (cell ∷ cells) = cell_text cell ++ flat_map (λ c. after_comma false (cell_text c)) cells

-- the line, with its line feed
abbrev pub row_text : List ℕ → List ℕ → ℕ → List CellValue → List ℕ
row_text schema table count cells = qualified_text schema table ++ byte " " ∷ (decimal count ++ byte " " ∷ (cells_text cells ++ 10 ∷ []))
