-- Private: the cells of a line, as numbers and as bytes that stand one after another.
use Rattle.std.specs.Prelude.{ℕ, ◌+◌, List, [], ◌∷◌, take, drop}
use Rattle.binlog.specs.Cell.{CellValue, null_cell, number_cell, bytes_cell}
use Rattle.first_copy.specs.declared.places.Place.{Place}
use Rattle.first_copy.specs.declared.places.Place.TheVariants.{Null, Number, Bytes}

-- how many bytes it takes of those that stand one after another
abbrev pub place_size : Place → ℕ
place_size Null = 0
place_size (Number value width) = 0
place_size (Bytes size) = size

-- the cell of a place, whose bytes begin here
abbrev pub place_cell : Place → List ℕ → CellValue
place_cell Null bytes = null_cell
place_cell (Number value width) bytes = number_cell value width
place_cell (Bytes size) bytes = bytes_cell (take size bytes)

abbrev pub places_size : List Place → ℕ
places_size [] = 0
places_size (place ∷ places) = place_size place + places_size places

-- the cells of places whose bytes stand one after another
abbrev pub placed_cells : List Place → List ℕ → List CellValue
placed_cells [] bytes = []
placed_cells (place ∷ places) bytes = place_cell place bytes ∷ placed_cells places (drop (place_size place) bytes)
