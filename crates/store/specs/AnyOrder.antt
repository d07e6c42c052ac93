-- Private: rows that are added to one table, which may be done in any order.
use Rattle.std.specs.Prelude.{◌≡◌, ℕ, true, List, [], ◌++◌, map, IsPermutation}
use Rattle.std.specs.List.{AllByRecursion}
use Rattle.binlog.specs.Cell.{CellValue}
use Rattle.binlog.specs.Filter.{Names, admits}
use Rattle.gather.specs.Image.{image, IsImage, HasImage}
use Rattle.gather.specs.Transaction.{ChangeValue, insert}
use Rattle.store.specs.declared.inserts.SortedInserts.{SortedInserts}
use Rattle.store.specs.Rows.{Key, key_of}

-- The change adds a row with this image to the table.
pub record AddsRow (schema table bytes : List ℕ) (change : ChangeValue) : Type 0 where
  pub cells : List CellValue
  pub change_is : change ≡ insert schema table cells
  pub is_image : IsImage cells bytes

-- The changes add rows with these images to the table, one each and in this order, and those that are left follow.
pub record AddsRows (schema table : List ℕ) (changes left : List ChangeValue) (images : List (List ℕ)) : Type 0 where
  pub rows : List (List CellValue)
  pub changes_are : changes ≡ map (λ cells. insert schema table cells) rows ++ left
  pub stored : AllByRecursion HasImage rows
  pub images_are : images ≡ map image rows

-- the images of the rows
abbrev pub images_in : SortedInserts → List (List ℕ)
images_in sorted = map (λ r. r.now) sorted.images.items

-- the keys of the rows
abbrev pub keys_in : SortedInserts → List Key
keys_in sorted = map (λ r. key_of sorted.schema.now sorted.table.now r.now) sorted.images.items

-- The changes add these rows, in some order, to a table that the filter admits.
pub record AreInserts (names : Names) (changes : List ChangeValue) (sorted : SortedInserts) : Type 0 where
  pub admitted : admits names sorted.schema.now sorted.table.now ≡ true
  pub images : List (List ℕ)
  pub adds : AddsRows sorted.schema.now sorted.table.now changes [] images
  pub same : IsPermutation images (images_in sorted)
