-- What a server leaves out at the end of the bytes of a cell: zeros of a BINARY, blanks of a CHAR. MySQL Reference Manual,
-- "The CHAR and VARCHAR Types" and "The BINARY and VARBINARY Types", and MySQL Source Documentation, `Field_string::pack`.
use Rattle.std.specs.Prelude.{◌≡◌, ◌≢◌, ℕ, List, [], ◌∷◌, ◌++◌, Option, Some, None, ⊤}
use Rattle.std.specs.List.{repeat}
use Rattle.columns.specs.declared.character_set.CharacterSet.{CharacterSet}
use Rattle.columns.specs.declared.character_set.CharacterSet.TheVariants.{Ucs2, Utf16, Utf16le, Utf32}
use Rattle.columns.specs.declared.type_name.TypeName.{TypeName}
use Rattle.columns.specs.declared.type_name.TypeName.TheVariants as name

-- the bytes of a blank in a character set
abbrev pub blank_bytes : CharacterSet → List ℕ
blank_bytes Ucs2 = 0 ∷ 32 ∷ []
blank_bytes Utf16 = 0 ∷ 32 ∷ []
blank_bytes Utf16le = 32 ∷ 0 ∷ []
blank_bytes Utf32 = 0 ∷ 0 ∷ 0 ∷ 32 ∷ []
blank_bytes _ = 32 ∷ []

-- what is left out at the end of the bytes of a column of this type, as often as it stands there; nothing in others
abbrev pub padding : TypeName → CharacterSet → Option (List ℕ)
padding name.Binary set = Some (0 ∷ [])
padding name.Char set = Some (blank_bytes set)
padding _ set = None

-- Bytes do not end with the padding.
abbrev pub IsUnpadded : Option (List ℕ) → List ℕ → Type 0
IsUnpadded None bytes = ⊤
IsUnpadded (Some pad) bytes = (front : List ℕ) → bytes ≢ front ++ pad

-- Bytes are these, and then the padding any number of times.
abbrev pub IsPadded : Option (List ℕ) → List ℕ → List ℕ → Type 0
IsPadded None front bytes = bytes ≡ front
IsPadded (Some pad) front bytes = (times : ℕ) × (bytes ≡ front ++ repeat times pad)
