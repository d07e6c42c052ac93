-- Rows events. MySQL Source Documentation, Binlog Event: binary_log::Rows_event, and its classes Write_rows_event,
-- Update_rows_event and Delete_rows_event of version 2.
use Rattle.std.specs.Prelude.{◌≡◌, ℕ, zero, suc, ◌+◌, ◌-◌, ◌<◌, ◌≤◌, ◌^◌, ◌⊎◌, Bool, not, List, [], ◌∷◌, ◌++◌, length, take, drop, map, nat_lt, IsTrue, Option, Result, Ok, Err}
use Rattle.std.specs.List.{list_all, range_with_len}
use Rattle.byteorder.specs.Endian.{little_bytes}
use Rattle.wire.specs.Integer.{IsLengthEncoded}
use Rattle.binlog.specs.EventType as event_type
use Rattle.binlog.specs.Fault.{refuse, needs, first_of, number_at}
use Rattle.binlog.specs.Count.{count_width, count_at, no_count}
use Rattle.binlog.specs.Cell.{CellValue}
use Rattle.binlog.specs.Row.{bitmap_size, is_set, IsRow, EndsInRow, row_end, ◌>>=◌, row_cells}
use Rattle.binlog.specs.Table.{most_columns, is_column_count}
use Rattle.binlog.specs.declared.column.kind.ColumnKind.{ColumnKind}
use Rattle.binlog.specs.declared.fault.EventFault.{EventFault}
use Rattle.binlog.specs.declared.fault.EventFaultKind.TheVariants.{Truncated, Size, Columns, Partial}
use Rattle.binlog.specs.declared.body.rows_event.RowsKind.{RowsKind}
use Rattle.binlog.specs.declared.body.rows_event.RowsKind.TheVariants.{Write, Update, Delete}

-- ---- The event.

-- the table's number, the number of its columns, the bytes of its rows, and the offsets of the last two in the event
pub record RowsValue : Type 0 where
  pub id : ℕ
  pub kind : RowsKind
  pub columns : ℕ
  pub bytes : List ℕ
  pub columns_at : ℕ
  pub bytes_at : ℕ

-- every column is present: the first n bits are set
pub record AllPresent (n : ℕ) (bitmap : List ℕ) : Type 0 where
  pub size : length bitmap ≡ bitmap_size n
  pub present : (i : ℕ) → i < n → IsTrue (is_set bitmap i)

-- the bitmaps of present columns: one, and for an update one for each of the two rows
abbrev pub ArePresent : RowsKind → ℕ → List ℕ → Type 0
ArePresent Update n bitmaps = (first : List ℕ) × (second : List ℕ) × (bitmaps ≡ first ++ second) × AllPresent n first × AllPresent n second
ArePresent Write n bitmaps = AllPresent n bitmaps
ArePresent Delete n bitmaps = AllPresent n bitmaps

-- The body is the rows event, without any column left out. Flags and the extra data are left free; the length of the
-- extra data includes its own two bytes.
pub record IsRows (r : RowsValue) (body : List ℕ) : Type 0 where
  pub flags : List ℕ
  pub extra : List ℕ
  pub count : List ℕ
  pub present : List ℕ
  pub body_is : body ≡ little_bytes 6 r.id ++ flags ++ little_bytes 2 (2 + length extra) ++ extra ++ count ++ present ++ r.bytes
  pub an_id : r.id < 2 ^ 48
  pub sizes : (length flags ≡ 2) × (2 + length extra < 2 ^ 16)
  pub counted : IsLengthEncoded r.columns count
  pub columns : (1 ≤ r.columns) × (r.columns ≤ most_columns)
  pub all_present : ArePresent r.kind r.columns present
  pub columns_place : r.columns_at ≡ 29 + length extra
  pub bytes_place : r.bytes_at ≡ r.columns_at + length count + length present

-- some event of a kind
pub record HasRows (kind : RowsKind) (body : List ℕ) : Type 0 where
  pub value : RowsValue
  pub kind_is : value.kind ≡ kind
  pub is_rows : IsRows value body

-- the event's type
abbrev pub rows_code : RowsKind → ℕ
rows_code Write = event_type.write_rows
rows_code Update = event_type.update_rows
rows_code Delete = event_type.delete_rows

-- ---- Its faults, of the whole event, whose body begins at 19.

-- all of the first n bits of a bitmap are set
abbrev pub is_full : ℕ → List ℕ → Bool
is_full n bitmap = list_all (is_set bitmap) (range_with_len 0 n)

-- a bitmap of n present columns at an offset
abbrev pub present_fault : List ℕ → ℕ → ℕ → Option EventFault
present_fault bytes place n = first_of (
    needs bytes place (bitmap_size n)
    ∷ refuse (not (is_full n (take (bitmap_size n) (drop place bytes)))) Partial place
    ∷ [])

-- the bitmaps of present columns at an offset
abbrev pub presents_fault : RowsKind → List ℕ → ℕ → ℕ → Option EventFault
presents_fault Update bytes place n = first_of (present_fault bytes place n ∷ present_fault bytes (place + bitmap_size n) n ∷ [])
presents_fault Write bytes place n = present_fault bytes place n
presents_fault Delete bytes place n = present_fault bytes place n

-- how many bytes they take
abbrev pub presents_size : RowsKind → ℕ → ℕ
presents_size Update n = bitmap_size n + bitmap_size n
presents_size Write n = bitmap_size n
presents_size Delete n = bitmap_size n

unfoldable pub rows_fault : RowsKind → List ℕ → Option EventFault
rows_fault kind bytes =
    let extra = number_at 2 bytes 27 in
    let place = 27 + extra in
    let columns = count_at bytes place in
    first_of (
    needs bytes 19 6 ∷ needs bytes 25 2 ∷ needs bytes 27 2 ∷ refuse (nat_lt extra 2) Size 27 ∷ needs bytes 29 (extra - 2)
    ∷ no_count bytes place Columns
    ∷ refuse (not (is_column_count columns)) Columns place
    ∷ presents_fault kind bytes (place + count_width bytes place) columns
    ∷ [])

-- ---- Its rows.

-- one row change: the row after it, the row before it, or both
pub data PairValue : Type 0 where
  inserted : List CellValue → PairValue
  deleted : List CellValue → PairValue
  updated : List CellValue → List CellValue → PairValue

-- The bytes are the pair; an update has the row before and then the row after.
abbrev pub IsPair : RowsKind → List ColumnKind → PairValue → List ℕ → Type 0
IsPair Write types (inserted cells) bytes = IsRow types cells bytes
IsPair Delete types (deleted cells) bytes = IsRow types cells bytes
IsPair Update types (updated before after) bytes = (first : List ℕ) × (second : List ℕ) × (bytes ≡ first ++ second) × IsRow types before first × IsRow types after second
IsPair _ types pair bytes = ⊥

-- The bytes are the rows of the pairs, with nothing left over.
abbrev pub AreRows : RowsKind → List ColumnKind → List PairValue → List ℕ → Type 0
AreRows kind types [] bytes = bytes ≡ []
AreRows kind types (pair ∷ pairs) bytes = (first : List ℕ) × (others : List ℕ) × (bytes ≡ first ++ others) × IsPair kind types pair first × AreRows kind types pairs others

-- The bytes are the row before an update, and end before the row after it does.
pub record EndsInSecond (types : List ColumnKind) (bytes : List ℕ) (place : ℕ) : Type 0 where
  pub first : List ℕ
  pub rest : List ℕ
  pub before : List CellValue
  pub part : ℕ
  pub bytes_are : bytes ≡ first ++ rest
  pub is_row : IsRow types before first
  pub ends : EndsInRow types rest part
  pub place_is : place ≡ length first + part

-- The bytes end before a pair does: `place` is the offset of the bitmap, the length or the value that does not fit.
abbrev pub EndsInPair : RowsKind → List ColumnKind → List ℕ → ℕ → Type 0
EndsInPair Update types bytes place = EndsInRow types bytes place ⊎ EndsInSecond types bytes place
EndsInPair Write types bytes place = EndsInRow types bytes place
EndsInPair Delete types bytes place = EndsInRow types bytes place

-- The bytes are the rows of these pairs, and then end before another pair does, in what is at `place`.
pub record EndsEarly (kind : RowsKind) (types : List ColumnKind) (pairs : List PairValue) (bytes : List ℕ) (place : ℕ) : Type 0 where
  pub whole : List ℕ
  pub rest : List ℕ
  pub early : ℕ
  pub bytes_are : bytes ≡ whole ++ rest
  pub pairs_are : AreRows kind types pairs whole
  pub left_over : 1 ≤ length rest
  pub ends : EndsInPair kind types rest early
  pub place_is : place ≡ length whole + early

-- The items are the pairs of the rows, which begin at an offset of the event, or the pairs before the first fault and
-- then that fault.
abbrev pub AreItemsAt : RowsKind → List ColumnKind → List ℕ → ℕ → List (Result PairValue EventFault) → Type 0
AreItemsAt kind types bytes at items =
    ((pairs : List PairValue) × AreRows kind types pairs bytes × (items ≡ map Ok pairs))
    ⊎ ((pairs : List PairValue) × (place : ℕ) × EndsEarly kind types pairs bytes place
    × (items ≡ map Ok pairs ++ Err (record { kind = Truncated; at = at + place }) ∷ []))

abbrev pub AreItems : RowsValue → List ColumnKind → List (Result PairValue EventFault) → Type 0
AreItems r types items = AreItemsAt r.kind types r.bytes r.bytes_at items

-- some items
pub record HasItems (kind : RowsKind) (types : List ColumnKind) (bytes : List ℕ) (at : ℕ) : Type 0 where
  pub items : List (Result PairValue EventFault)
  pub are : AreItemsAt kind types bytes at items

-- ---- Its items, by its bytes.

-- an offset, found or not
abbrev pub reached : Result ℕ ℕ → ℕ
reached (Ok place) = place
reached (Err place) = place

-- where the pair at the front of bytes ends, or (Err) the offset of what doesn't fit
abbrev pub pair_end : RowsKind → List ColumnKind → List ℕ → Result ℕ ℕ
pair_end Update types bytes = row_end types bytes >>= (λ size. row_end types (drop size bytes))
pair_end Write types bytes = row_end types bytes
pair_end Delete types bytes = row_end types bytes

-- the pair at the front of bytes, if it fits
abbrev pub pair_of : RowsKind → List ColumnKind → List ℕ → PairValue
pair_of Write types bytes = inserted (row_cells types bytes)
pair_of Delete types bytes = deleted (row_cells types bytes)
pair_of Update types bytes = updated (row_cells types bytes) (row_cells types (drop (reached (row_end types bytes)) bytes))

-- the items of the bytes, which begin at an offset of the event; at most as many as the fuel
abbrev pub item_front : Result ℕ ℕ → PairValue → ℕ → (ℕ → List (Result PairValue EventFault)) → List (Result PairValue EventFault)
item_front (Ok size) pair at others = Ok pair ∷ others size
item_front (Err place) pair at others = Err (record { kind = Truncated; at = at + place }) ∷ []

abbrev pub items_of : ℕ → RowsKind → List ColumnKind → List ℕ → ℕ → List (Result PairValue EventFault)
items_of zero kind types bytes at = []
items_of (suc most) kind types [] at = []
items_of (suc most) kind types (b ∷ bytes) at =
    item_front (pair_end kind types (b ∷ bytes)) (pair_of kind types (b ∷ bytes)) at (λ size. items_of most kind types (drop size (b ∷ bytes)) (at + size))
