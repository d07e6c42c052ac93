-- The values of BIT. MySQL Reference Manual, "The BIT Type", and MySQL Source Documentation, `Field_bit::pack`.
use Rattle.std.specs.Prelude.{ℕ, ◌+◌, ◌/◌, List}
use Rattle.byteorder.specs.Endian.{big_bytes}

-- eight bits a byte
abbrev pub bit_size : ℕ → ℕ
bit_size bits = (bits + 7) / 8

abbrev pub bit_bytes : ℕ → ℕ → List ℕ
bit_bytes bits number = big_bytes (bit_size bits) number
