-- Rows. MySQL Source Documentation, Binlog Event: binary_log::Rows_event (row images, null bitmaps).
use Rattle.std.specs.Prelude.{◌≡◌, ℕ, suc, ◌+◌, ◌/◌, ◌%◌, ◌<◌, ◌≤◌, ◌^◌, ◌⊎◌, Bool, false, List, [], ◌∷◌, ◌++◌, length, take, drop, map, slice_get, slice_index, nat_lt, ◌==◌, if◌then◌else◌, Some, Result, Ok, Err}
use Rattle.std.specs.Int.{div_ceil}
use Rattle.binlog.specs.Cell.{CellValue, null_cell, is_null}
use Rattle.binlog.specs.Shape.{shape, IsValue, EndsInValue, value_end, cell_of}
use Rattle.binlog.specs.declared.column.kind.ColumnKind.{ColumnKind}
use Rattle.binlog.specs.declared.column.kind.ColumnType.{ColumnType}

-- the kinds of types
abbrev pub kinds : List ColumnType → List ColumnKind
kinds types = map (λ t. t.kind) types

-- how many bytes a bitmap of n bits takes
abbrev pub bitmap_size : ℕ → ℕ
bitmap_size n = div_ceil n 8

-- bit i of a bitmap, the lowest bit of each byte first
abbrev pub is_set : List ℕ → ℕ → Bool
is_set bitmap i = slice_index bitmap (i / 8) / 2 ^ (i % 8) % 2 == 1

-- the values of the cells that are not null, one after the other
abbrev pub AreValues : List ColumnKind → List CellValue → List ℕ → Type 0
AreValues [] [] bytes = bytes ≡ []
AreValues (t ∷ types) (null_cell ∷ cells) bytes = AreValues types cells bytes
AreValues (t ∷ types) (cell ∷ cells) bytes = (first : List ℕ) × (others : List ℕ) × (bytes ≡ first ++ others) × IsValue (shape t) cell first × AreValues types cells others
AreValues _ _ bytes = ⊥

-- The bytes are the row of the cells: a bitmap whose bit i says that cell i is null, and the values of the others. The
-- unused bits of the bitmap are left free.
pub record IsRow (types : List ColumnKind) (cells : List CellValue) (bytes : List ℕ) : Type 0 where
  pub bitmap : List ℕ
  pub values : List ℕ
  pub bytes_are : bytes ≡ bitmap ++ values
  pub bitmap_length : length bitmap ≡ bitmap_size (length types)
  pub nulls : (i : ℕ) → i < length types → slice_get (map is_null cells) i ≡ Some (is_set bitmap i)
  pub values_are : AreValues types cells values

-- some cells, whose row is the first bytes up to the end
pub record HasRow (types : List ColumnKind) (end : ℕ) (bytes : List ℕ) : Type 0 where
  pub cells : List CellValue
  pub within : end ≤ length bytes
  pub is_row : IsRow types cells (take end bytes)

-- The bytes are the bitmap of a row and the values of some first columns, and end before the value of the next column
-- does: `place` is the offset of its length or its bytes.
pub record EndsInValues (types : List ColumnKind) (bytes : List ℕ) (place : ℕ) : Type 0 where
  pub bitmap : List ℕ
  pub values : List ℕ
  pub rest : List ℕ
  pub before : List ColumnKind
  pub kind : ColumnKind
  pub after : List ColumnKind
  pub cells : List CellValue
  pub part : ℕ
  pub bytes_are : bytes ≡ bitmap ++ (values ++ rest)
  pub bitmap_length : length bitmap ≡ bitmap_size (length types)
  pub types_are : types ≡ before ++ kind ∷ after
  pub nulls : (i : ℕ) → i < length before → slice_get (map is_null cells) i ≡ Some (is_set bitmap i)
  pub values_are : AreValues before cells values
  pub not_null : is_set bitmap (length before) ≡ false
  pub ends : EndsInValue (shape kind) rest part
  pub place_is : place ≡ length bitmap + length values + part

-- The bytes end before a row of these types does: in its bitmap, which is at 0, or in its values.
abbrev pub EndsInRow : List ColumnKind → List ℕ → ℕ → Type 0
EndsInRow types bytes place = ((place ≡ 0) × (length bytes < bitmap_size (length types))) ⊎ EndsInValues types bytes place

-- ---- The row at the front of bytes.

-- an offset counted from further on
abbrev pub further : ℕ → Result ℕ ℕ → Result ℕ ℕ
further n (Ok place) = Ok (n + place)
further n (Err place) = Err (n + place)

infixl 10 ◌>>=◌
abbrev pub ◌>>=◌ : Result ℕ ℕ → (ℕ → Result ℕ ℕ) → Result ℕ ℕ
(Ok size) >>= next = further size (next size)
(Err place) >>= next = Err place

-- where the values of the columns from column i on end, without those that are null, or (Err) the offset of the first
-- length or value that doesn't fit
abbrev pub values_end : List ℕ → ℕ → List ColumnKind → List ℕ → Result ℕ ℕ
values_end bitmap i [] bytes = Ok 0
values_end bitmap i (t ∷ types) bytes =
    if is_set bitmap i then values_end bitmap (suc i) types bytes
    else value_end (shape t) bytes >>= (λ size. values_end bitmap (suc i) types (drop size bytes))

-- where the row ends, or (Err) the offset of the bitmap, length or value that doesn't fit
unfoldable pub row_end : List ColumnKind → List ℕ → Result ℕ ℕ
row_end types bytes =
    let size = bitmap_size (length types) in
    if nat_lt (length bytes) size then Err 0
    else further size (values_end (take size bytes) 0 types (drop size bytes))

-- the cells of the columns from column i on, as far as their values fit
abbrev pub cell_and_others : Result ℕ ℕ → CellValue → (ℕ → List CellValue) → List CellValue
cell_and_others (Ok size) cell others = cell ∷ others size
cell_and_others (Err place) cell others = []

abbrev pub cells_from : List ℕ → ℕ → List ColumnKind → List ℕ → List CellValue
cells_from bitmap i [] bytes = []
cells_from bitmap i (t ∷ types) bytes =
    if is_set bitmap i then null_cell ∷ cells_from bitmap (suc i) types bytes
    else cell_and_others (value_end (shape t) bytes) (cell_of (shape t) bytes) (λ size. cells_from bitmap (suc i) types (drop size bytes))

-- the cells of the row at the front of bytes
abbrev pub row_cells : List ColumnKind → List ℕ → List CellValue
row_cells types bytes = cells_from (take (bitmap_size (length types)) bytes) 0 types (drop (bitmap_size (length types)) bytes)
