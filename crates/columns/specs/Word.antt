-- A run of bytes of one kind at the front of a text, as letters or digits.
use Rattle.std.specs.Prelude.{◌≡◌, ℕ, Bool, true, false, ◌&&◌, ◌==◌, nat_le, List, [], ◌∷◌}

-- each byte is of the kind
abbrev pub Are : (ℕ → Bool) → List ℕ → Type 0
Are kind [] = Unit {0}
Are kind (b ∷ bytes) = (kind b ≡ true) × Are kind bytes

-- The text does not begin with a byte of the kind.
abbrev pub Ends : (ℕ → Bool) → List ℕ → Type 0
Ends kind [] = Unit {0}
Ends kind (b ∷ bytes) = kind b ≡ false

-- a letter from a to z
abbrev pub is_letter : ℕ → Bool
is_letter b = nat_le 97 b && nat_le b 122

-- a decimal digit
abbrev pub is_decimal_digit : ℕ → Bool
is_decimal_digit b = nat_le 48 b && nat_le b 57

-- an opening parenthesis
abbrev pub is_opening : ℕ → Bool
is_opening b = b == 40
