-- Bytes that stand for one byte. MySQL Reference Manual, "mysql Client Options" (--batch, --raw), "String Literals" and
-- "The INFORMATION_SCHEMA COLUMNS Table" (COLUMN_TYPE).
use Rattle.std.specs.Prelude.{◌≡◌, ℕ, ◌/◌, ◌%◌, ◌<◌, ◌==◌, if◌then◌else◌, List, [], ◌∷◌, ◌++◌, length, take, drop}
use Rattle.std.specs.List.{flat_map, AllByRecursion}
use Rattle.std.specs.Str.{byte}
use Rattle.std.specs.Char.{digit_char}
use Rattle.columns.specs.declared.escape.Layer.{Layer}
use Rattle.columns.specs.declared.escape.Layer.TheVariants.{Client, Quoted}
use Rattle.columns.specs.declared.escape.EscapeFault.{EscapeFault}
use Rattle.columns.specs.declared.escape.EscapeFault.TheVariants.{Escape, Memory}

abbrev pub AreBytes : List ℕ → Type 0
AreBytes bytes = AllByRecursion (λ b. b < 256) bytes

-- a backslash and a letter
abbrev pub marked : ℕ → List ℕ
marked letter = 92 ∷ letter ∷ []

-- Client: a field of the `mysql` client's lines. Tab, newline, backslash and NUL have a backslash in front.
-- Quoted: a text in quotes, as the server writes members of ENUM and SET. Newline, carriage return, backslash and NUL
-- have a backslash in front, a quote stands twice.
abbrev pub escape : Layer → ℕ → List ℕ
escape Client b =
    if b == 9 then marked (byte "t")
    else if b == 10 then marked (byte "n")
    else if b == 92 then marked 92
    else if b == 0 then marked (byte "0")
    else b ∷ []
escape Quoted b =
    if b == 39 then 39 ∷ 39 ∷ []
    else if b == 10 then marked (byte "n")
    else if b == 13 then marked (byte "r")
    else if b == 92 then marked 92
    else if b == 0 then marked (byte "0")
    else b ∷ []

abbrev pub escaped : Layer → List ℕ → List ℕ
escaped layer bytes = flat_map (escape layer) bytes

-- two hexadecimal digits in lower case
abbrev pub hex_pair : ℕ → List ℕ
hex_pair b = digit_char (b / 16) ∷ digit_char (b % 16) ∷ []

abbrev pub hex_text : List ℕ → List ℕ
hex_text bytes = flat_map hex_pair bytes

-- The text does not begin with what stands for a byte.
abbrev pub BeginsWithNone : Layer → List ℕ → Type 0
BeginsWithNone layer text = (b : ℕ) (rest : List ℕ) → text ≡ escape layer b ++ rest → ⊥

-- The text begins with what stands for a byte.
abbrev pub BeginsWithCode : Layer → List ℕ → Type 0
BeginsWithCode layer text = (b : ℕ) × (rest : List ℕ) × (text ≡ escape layer b ++ rest)

-- What is wrong with a field: what stands in front of this offset are bytes, and what stands there is none.
-- Memory is refused only where there is a byte to read.
abbrev pub IsEscapeFault : List ℕ → EscapeFault → Type 0
IsEscapeFault text (Escape at) = (bytes : List ℕ) × (take at text ≡ escaped Client bytes) × (at < length text) × BeginsWithNone Client (drop at text)
IsEscapeFault text Memory = BeginsWithCode Client text

-- The text does not begin with the digits of a byte.
abbrev pub BeginsWithNoPair : List ℕ → Type 0
BeginsWithNoPair text = (b : ℕ) (rest : List ℕ) → b < 256 → text ≡ hex_pair b ++ rest → ⊥
