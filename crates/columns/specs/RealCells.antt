-- The cells of FLOAT and DOUBLE: binary32 and binary64 of IEEE 754, the lowest byte first. MySQL Source Documentation,
-- `Field_float::pack` and `Field_double::pack`. No server stores an infinity, or what is no number.
use Rattle.std.specs.Prelude.{◌≡◌, ℕ, ◌%◌, ◌^◌, ◌<◌, Bool, nat_lt, IsTrue, length, from_bits}
use Rattle.std.specs.Float.{binary32, binary64}
use Rattle.std.specs.Float.Ieee.{Float}
use Rattle.byteorder.specs.Endian.{little_number, little_bytes}
use Rattle.binlog.specs.Cell.{CellValue}
use Rattle.binlog.specs.Cell.CellValue.{bytes_cell}

-- bits that are less than those of infinity, apart from the sign
abbrev pub is_float : ℕ → Bool
is_float bits = nat_lt (bits % 2 ^ 31) 0x7f800000

abbrev pub is_double : ℕ → Bool
is_double bits = nat_lt (bits % 2 ^ 63) 0x7ff0000000000000

abbrev pub IsFloatCell : CellValue → Type 0
IsFloatCell (bytes_cell bytes) = (length bytes ≡ 4) × IsTrue (is_float (little_number 4 bytes))
IsFloatCell _ = ⊥

abbrev pub IsDoubleCell : CellValue → Type 0
IsDoubleCell (bytes_cell bytes) = (length bytes ≡ 8) × IsTrue (is_double (little_number 8 bytes))
IsDoubleCell _ = ⊥

-- The cell has the bits of this number, which is finite.
abbrev pub IsFloatValue : Float → CellValue → Type 0
IsFloatValue value cell = (bits : ℕ) × (bits < 2 ^ 32) × IsTrue (is_float bits) × (cell ≡ bytes_cell (little_bytes 4 bits)) × (value ≡ from_bits binary32 bits)

abbrev pub IsDoubleValue : Float → CellValue → Type 0
IsDoubleValue value cell = (bits : ℕ) × (bits < 2 ^ 64) × IsTrue (is_double bits) × (cell ≡ bytes_cell (little_bytes 8 bits)) × (value ≡ from_bits binary64 bits)
