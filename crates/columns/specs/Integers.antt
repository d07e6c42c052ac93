-- The integers of columns. MySQL Reference Manual, "Integer Types", and MySQL Source Documentation, `Field_num::pack`.
use Rattle.std.specs.Prelude.{◌≡◌, ℕ, suc, ◌*◌, ◌-◌, ◌<◌, ◌^◌, ℤ, pos, negsuc, List, decimal}
use Rattle.std.specs.Fmt.{signed_decimal}
use Rattle.binlog.specs.Cell.{CellValue}
use Rattle.binlog.specs.Cell.CellValue.{number_cell}
use Rattle.columns.specs.declared.sign.Sign.{Sign}
use Rattle.columns.specs.declared.sign.Sign.TheVariants.{Signed as SignedType, Unsigned as UnsignedType, Zerofill as ZerofillType}
use Rattle.columns.specs.declared.value.integer.IntegerWidth.{IntegerWidth}
use Rattle.columns.specs.declared.value.integer.IntegerWidth.TheVariants.{One, Two, Three, Four, Eight}
use Rattle.columns.specs.declared.value.integer.Integer.{Integer}
use Rattle.columns.specs.declared.value.integer.Integer.TheVariants.{Signed, Unsigned}

abbrev pub byte_count : IntegerWidth → ℕ
byte_count One = 1
byte_count Two = 2
byte_count Three = 3
byte_count Four = 4
byte_count Eight = 8

-- the value of the highest bit of so many bytes
abbrev pub half : IntegerWidth → ℕ
half One = 2 ^ 7
half Two = 2 ^ 15
half Three = 2 ^ 23
half Four = 2 ^ 31
half Eight = 2 ^ 63

-- two's complement, where the highest bit has this value
abbrev pub complement : ℕ → ℤ → ℕ
complement top (pos n) = n
complement top (negsuc n) = 2 * top - suc n

-- from -top to top - 1
abbrev pub IsWithin : ℕ → ℤ → Type 0
IsWithin top (pos n) = n < top
IsWithin top (negsuc n) = n < top

abbrev pub IsInRange : IntegerWidth → Integer → Type 0
IsInRange width (Signed z) = IsWithin (half width) z
IsInRange width (Unsigned n) = n < 2 * half width

-- the number that a cell has
abbrev pub stored : IntegerWidth → Integer → ℕ
stored width (Signed z) = complement (half width) z
stored width (Unsigned n) = n

-- An integer of a type with this sign.
abbrev pub HasSign : Sign → Integer → Type 0
HasSign SignedType (Signed z) = Unit {0}
HasSign SignedType (Unsigned n) = ⊥
HasSign UnsignedType (Signed z) = ⊥
HasSign UnsignedType (Unsigned n) = Unit {0}
HasSign ZerofillType (Signed z) = ⊥
HasSign ZerofillType (Unsigned n) = Unit {0}

-- The cell is that of this integer in a column of this width and sign.
pub record IsIntegerCell (width : IntegerWidth) (sign : Sign) (integer : Integer) (cell : CellValue) : Type 0 where
  pub signed : HasSign sign integer
  pub in_range : IsInRange width integer
  pub cell_is : cell ≡ number_cell (stored width integer) (byte_count width)

abbrev pub integer_text : Integer → List ℕ
integer_text (Signed z) = signed_decimal z
integer_text (Unsigned n) = decimal n
