-- The bytes that are written for pairs: of all bytes that are their rows, those whose unused bitmap bits are 0.
use Rattle.std.specs.Prelude.{ℕ, zero, suc, ◌+◌, ◌*◌, ◌^◌, Bool, true, false, ◌&&◌, List, [], ◌∷◌, ◌++◌, length, map, flat_map, slice_index_or, nat_lt, ◌==◌, if◌then◌else◌}
use Rattle.std.specs.List.{list_all, range_with_len}
use Rattle.byteorder.specs.Endian.{little_bytes}
use Rattle.binlog.specs.Cell.{CellValue, null_cell, number_cell, bytes_cell, is_null}
use Rattle.binlog.specs.Shape.{shape}
use Rattle.binlog.specs.Row.{bitmap_size}
use Rattle.binlog.specs.Rows.{PairValue, inserted, deleted, updated, AreRows}
use Rattle.binlog.specs.declared.column.kind.ColumnKind.{ColumnKind}
use Rattle.binlog.specs.declared.body.rows_event.RowsKind.{RowsKind}
use Rattle.binlog.specs.declared.body.rows_event.RowsKind.TheVariants.{Write, Update, Delete}
use Rattle.binlog.specs.declared.column.value.Shape.{Shape}
use Rattle.binlog.specs.declared.column.value.Shape.TheVariants.{Number, Fixed, Prefixed}

-- ---- The bytes.

-- a bit as a number
abbrev pub digit : Bool → ℕ
digit b = if b then 1 else 0

abbrev pub bits_number : ℕ → (ℕ → Bool) → ℕ
bits_number zero bit = 0
bits_number (suc k) bit = digit (bit 0) + 2 * bits_number k (λ i. bit (suc i))

-- a byte of the bitmap of these bits; the unused bits are 0
abbrev pub bitmap_byte : List Bool → ℕ → ℕ
bitmap_byte bits j = bits_number 8 (λ i. slice_index_or bits (8 * j + i) false)

abbrev pub bitmap_bytes : List Bool → List ℕ
bitmap_bytes bits = map (bitmap_byte bits) (range_with_len 0 (bitmap_size (length bits)))

abbrev pub value_bytes : Shape → CellValue → List ℕ
value_bytes s null_cell = []
value_bytes (Number width) (number_cell n w) = little_bytes width n
value_bytes (Fixed size) (bytes_cell value) = value
value_bytes (Prefixed size) (bytes_cell value) = little_bytes size (length value) ++ value
value_bytes _ _ = []

abbrev pub values_bytes : List ColumnKind → List CellValue → List ℕ
values_bytes [] cells = []
values_bytes (t ∷ types) [] = []
values_bytes (t ∷ types) (cell ∷ cells) = value_bytes (shape t) cell ++ values_bytes types cells

abbrev pub row_bytes : List ColumnKind → List CellValue → List ℕ
row_bytes types cells = bitmap_bytes (map is_null cells) ++ values_bytes types cells

abbrev pub pair_bytes : List ColumnKind → PairValue → List ℕ
pair_bytes types (inserted after) = row_bytes types after
pair_bytes types (deleted before) = row_bytes types before
pair_bytes types (updated before after) = row_bytes types before ++ row_bytes types after

abbrev pub rows_bytes : List ColumnKind → List PairValue → List ℕ
rows_bytes types pairs = flat_map (pair_bytes types) pairs

-- ---- Which pairs can be written.

-- some bytes are their rows
pub record HaveRows (kind : RowsKind) (types : List ColumnKind) (pairs : List PairValue) : Type 0 where
  pub bytes : List ℕ
  pub are_rows : AreRows kind types pairs bytes

-- a cell fits a column: null, or a value of its size
abbrev pub value_fits : Shape → CellValue → Bool
value_fits s null_cell = true
value_fits (Number width) (number_cell n w) = (w == width) && nat_lt n (256 ^ width)
value_fits (Fixed size) (bytes_cell value) = length value == size
value_fits (Prefixed size) (bytes_cell value) = nat_lt (length value) (256 ^ size)
value_fits _ _ = false

abbrev pub row_fits : List ColumnKind → List CellValue → Bool
row_fits [] [] = true
row_fits (t ∷ types) (cell ∷ cells) = value_fits (shape t) cell && row_fits types cells
row_fits _ _ = false

abbrev pub pair_fits : RowsKind → List ColumnKind → PairValue → Bool
pair_fits Write types (inserted after) = row_fits types after
pair_fits Delete types (deleted before) = row_fits types before
pair_fits Update types (updated before after) = row_fits types before && row_fits types after
pair_fits _ types pair = false

abbrev pub pairs_fit : RowsKind → List ColumnKind → List PairValue → Bool
pairs_fit kind types pairs = list_all (pair_fits kind types) pairs
