-- What a replica holds: a plain set of executed transactions and a bag of rows.
use Rattle.std.specs.Prelude.{ℕ, Bool, true, ◌&&◌, nat_le, nat_lt, ◌^◌, List, length}
use Rattle.std.specs.List.{list_all}
use Rattle.gtid.specs.Identifier.{Ids}
use Rattle.binlog.specs.Cell.{CellValue, null_cell, number_cell, bytes_cell}

-- a row of a schema's table, by its cells
pub record TableRow : Type 0 where
  pub schema : List ℕ
  pub table : List ℕ
  pub cells : List CellValue

abbrev pub row_of : List ℕ → List ℕ → List CellValue → TableRow
row_of schema table cells = record { schema = schema; table = table; cells = cells }

-- the number of copies of each row
abbrev pub Bag : Type 0
Bag = TableRow → ℕ

pub record Content : Type 0 where
  pub executed : Ids
  pub rows : Bag

-- ---- Which cells have a stored image.

abbrev pub has_cell_image : CellValue → Bool
has_cell_image null_cell = true
has_cell_image (number_cell n width) = nat_le 1 width && (nat_le width 8 && nat_lt n (256 ^ width))
has_cell_image (bytes_cell bytes) = nat_lt (length bytes) (2 ^ 32)

abbrev pub has_image : List CellValue → Bool
has_image cells = nat_lt (length cells) (2 ^ 16) && list_all has_cell_image cells
