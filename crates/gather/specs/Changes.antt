-- Private: the changes of a transaction, by the sizes of their images and the bytes of these.
use Rattle.std.specs.Prelude.{Vec, vec_len, vec_capacity, ◌^◌, ◌≡◌, ◌+◌, ◌<◌, ◌≤◌, ◌⊎◌, ℕ, zero, suc, List, [], ◌∷◌, ◌++◌, length, take, drop}
use Rattle.std.specs.declared.alloc.Global.{Global}
use Rattle.binlog.specs.Cell.{CellValue}
use Rattle.binlog.specs.Rows.{PairValue, inserted, deleted, updated}
use Rattle.binlog.specs.declared.body.table_map.TableDef.{TableDef}
use Rattle.gather.specs.Image.{image, IsImage}
use Rattle.gather.specs.ImageCells.{cells_in}
use Rattle.gather.specs.Transaction.{ChangeValue, insert, delete, update}
use Rattle.gather.specs.declared.changes.Entry.{Entry}

-- the cells of an image
abbrev pub cells_of_image : List ℕ → List CellValue
cells_of_image bytes = cells_in (drop 2 bytes)

-- a change by the sizes of its images, of which one is 0 if there is no such row, and their cells
abbrev pub change_by_size : TableDef → ℕ → ℕ → List CellValue → List CellValue → ChangeValue
change_by_size table zero after_size before after = insert table.schema.items table.table.items after
change_by_size table (suc size) zero before after = delete table.schema.items table.table.items before
change_by_size table (suc size) (suc after_size) before after = update table.schema.items table.table.items before after

-- the change of an entry whose images are at the front of the bytes
abbrev pub change_in : Entry → List ℕ → ChangeValue
change_in e bytes = change_by_size e.table.value e.before e.after (cells_of_image (take e.before bytes)) (cells_of_image (take e.after (drop e.before bytes)))

abbrev pub changes_in : List Entry → List ℕ → List ChangeValue
changes_in [] bytes = []
changes_in (e ∷ entries) bytes = change_in e bytes ∷ changes_in entries (drop (e.before + e.after) bytes)

-- how many bytes the images of a pair take
abbrev pub images_size : PairValue → ℕ
images_size (inserted after) = length (image after)
images_size (deleted before) = length (image before)
images_size (updated before after) = length (image before) + length (image after)

-- A change whose images take so many bytes may be refused: they are too many for a size, or there is no room for them,
-- or for an entry.
abbrev pub MayBeRefused : ℕ → Vec Entry Global → Vec ℕ Global → Type 0
MayBeRefused size entries images = (2 ^ 32 ≤ size) ⊎ ((vec_capacity images < vec_len images + size) ⊎ (vec_capacity entries ≤ vec_len entries))

-- An entry of the table with these sizes is appended.
pub record AddsEntry (table : TableDef) (before after : ℕ) (old new : List Entry) : Type 0 where
  pub entry : Entry
  pub table_is : entry.table.value ≡ table
  pub before_is : entry.before ≡ before
  pub after_is : entry.after ≡ after
  pub new_is : new ≡ old ++ entry ∷ []

-- The bytes are an image, or none.
abbrev pub IsAbsentOrImage : List ℕ → Type 0
IsAbsentOrImage bytes = (bytes ≡ []) ⊎ IsImage (cells_of_image bytes) bytes

-- The images of the entry are at the front of the bytes, one at least.
pub record IsEntry (e : Entry) (bytes : List ℕ) : Type 0 where
  pub some : 0 < e.before + e.after
  pub within : e.before + e.after ≤ length bytes
  pub before : IsAbsentOrImage (take e.before bytes)
  pub after : IsAbsentOrImage (take e.after (drop e.before bytes))

-- The bytes are the images of the entries.
abbrev pub AreEntries : List Entry → List ℕ → Type 0
AreEntries [] bytes = bytes ≡ []
AreEntries (e ∷ entries) bytes = IsEntry e bytes × AreEntries entries (drop (e.before + e.after) bytes)
