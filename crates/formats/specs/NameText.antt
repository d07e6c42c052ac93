-- The name of a table as text, and bytes in hexadecimal digits. The format is this project's own (docs/FORMATS.md, "Rows").
use Rattle.std.specs.Prelude.{ℕ, ◌+◌, ◌/◌, ◌%◌, Bool, ◌||◌, ◌&&◌, ◌==◌, nat_le, nat_lt, List, [], ◌∷◌, ◌++◌, flat_map, if◌then◌else◌}
use Rattle.std.specs.Str.{byte}

-- the digit of a number below 16
abbrev pub hex_digit : ℕ → ℕ
hex_digit n = if nat_lt n 10 then byte "0" + n else 87 + n

abbrev pub byte_text : ℕ → List ℕ
byte_text b = hex_digit (b / 16) ∷ hex_digit (b % 16) ∷ []

-- a digit, a letter, `_` or `$`
abbrev pub is_plain : ℕ → Bool
is_plain b =
    (nat_le (byte "0") b && nat_le b (byte "9"))
    || (nat_le (byte "A") b && nat_le b (byte "Z"))
    || (nat_le (byte "a") b && nat_le b (byte "z"))
    || b == byte "_"
    || b == byte "$"

-- every other byte of a name is `%` and two digits
abbrev pub name_byte : ℕ → List ℕ
name_byte b = if is_plain b then b ∷ [] else (byte "%" ∷ byte_text b)

-- the name of a table after that of its schema
abbrev pub qualified_text : List ℕ → List ℕ → List ℕ
qualified_text schema table = flat_map name_byte schema ++ byte "." ∷ flat_map name_byte table
