-- The characters of texts. MySQL Reference Manual, "Unicode Support" and "West European Character Sets"; RFC 3629 (UTF-8)
-- and RFC 2781 (UTF-16).
use Rattle.std.specs.Prelude.{◌≡◌, ℕ, ◌<◌, ◌+◌, ◌-◌, ◌/◌, ◌%◌, Bool, true, false, ◌&&◌, ◌||◌, nat_lt, nat_le, if◌then◌else◌, List, [], ◌∷◌, ◌++◌, length, codes, slice_index, IsTrue}
use Rattle.std.specs.List.{list_all}
use Rattle.std.specs.Char.{encode_utf8}
use Rattle.std.specs.Str.{bytes_eq, IsUtf8}
use Rattle.columns.specs.declared.wide.Wide.{Wide}
use Rattle.columns.specs.declared.wide.Wide.TheVariants.{TwoBytes, Units, LittleUnits, FourBytes}
use Rattle.columns.specs.declared.character_set.CharacterSet.{CharacterSet}
use Rattle.columns.specs.declared.character_set.CharacterSet.TheVariants.{Utf8mb4, Utf8mb3, Ascii, Latin1, Ucs2, Utf16, Utf16le, Utf32, Other}

abbrev pub set_named : List ℕ → CharacterSet
set_named name =
    if bytes_eq name (codes "utf8mb4") then Utf8mb4 else
    if bytes_eq name (codes "utf8mb3") then Utf8mb3 else
    if bytes_eq name (codes "utf8") then Utf8mb3 else
    if bytes_eq name (codes "ascii") then Ascii else
    if bytes_eq name (codes "latin1") then Latin1 else
    if bytes_eq name (codes "ucs2") then Ucs2 else
    if bytes_eq name (codes "utf16") then Utf16 else
    if bytes_eq name (codes "utf16le") then Utf16le else
    if bytes_eq name (codes "utf32") then Utf32 else Other

-- each character's bytes, one after the other
abbrev pub written : (ℕ → List ℕ) → List ℕ → List ℕ
written bytes_of [] = []
written bytes_of (c ∷ cs) = bytes_of c ++ written bytes_of cs

-- a code unit of UTF-16, the lower byte first or last
abbrev pub unit_bytes : Bool → ℕ → List ℕ
unit_bytes true u = (u % 256) ∷ (u / 256) ∷ []
unit_bytes false u = (u / 256) ∷ (u % 256) ∷ []

-- a character above U+FFFF has two units, which are surrogates
abbrev pub utf16_bytes : Bool → ℕ → List ℕ
utf16_bytes little c =
    if nat_lt c 65536 then unit_bytes little c else
    unit_bytes little (55296 + (c - 65536) / 1024) ++ unit_bytes little (56320 + (c - 65536) % 1024)

abbrev pub utf32_bytes : ℕ → List ℕ
utf32_bytes c = 0 ∷ (c / 65536) ∷ (c / 256 % 256) ∷ (c % 256) ∷ []

-- the characters of the bytes 128 to 159 of latin1
abbrev pub latin1_characters : List ℕ
latin1_characters =
    8364 ∷ 129 ∷ 8218 ∷ 402 ∷ 8222 ∷ 8230 ∷ 8224 ∷ 8225 ∷
    710 ∷ 8240 ∷ 352 ∷ 8249 ∷ 338 ∷ 141 ∷ 381 ∷ 143 ∷
    144 ∷ 8216 ∷ 8217 ∷ 8220 ∷ 8221 ∷ 8226 ∷ 8211 ∷ 8212 ∷
    732 ∷ 8482 ∷ 353 ∷ 8250 ∷ 339 ∷ 157 ∷ 382 ∷ 376 ∷ []

abbrev pub latin1_character : ℕ → ℕ
latin1_character byte = if nat_lt byte 128 then byte else if nat_lt byte 160 then slice_index latin1_characters (byte - 128) else byte

-- a character that Unicode's texts can have: at most U+10FFFF, and no surrogate
abbrev pub is_scalar_value : ℕ → Bool
is_scalar_value c = nat_lt c 55296 || (nat_le 57344 c && nat_lt c 1114112)

-- the forms in which each character takes two or four bytes
abbrev pub wide_bytes : Wide → ℕ → List ℕ
wide_bytes TwoBytes c = unit_bytes false c
wide_bytes Units c = utf16_bytes false c
wide_bytes LittleUnits c = utf16_bytes true c
wide_bytes FourBytes c = utf32_bytes c

-- whether it is a character in this form
abbrev pub has_character : Wide → ℕ → Bool
has_character TwoBytes c = is_scalar_value c && nat_lt c 65536
has_character _ c = is_scalar_value c

-- The bytes are those of characters in this form, and the text is theirs in UTF-8.
pub record IsSpelled (form : Wide) (bytes text : List ℕ) : Type 0 where
  pub characters : List ℕ
  pub are : list_all (has_character form) characters ≡ true
  pub bytes_are : bytes ≡ written (wide_bytes form) characters
  pub text_is : text ≡ written encode_utf8 characters

-- The text of the bytes is made of others, in memory of its own.
abbrev pub IsConverted : CharacterSet → List ℕ → Type 0
IsConverted Latin1 bytes = list_all (λ byte. nat_lt byte 128) bytes ≡ false
IsConverted Ucs2 bytes = 0 < length bytes
IsConverted Utf16 bytes = 0 < length bytes
IsConverted Utf16le bytes = 0 < length bytes
IsConverted Utf32 bytes = 0 < length bytes
IsConverted _ bytes = ⊥

-- The bytes of a column are this text in UTF-8.
abbrev pub IsTextOf : CharacterSet → List ℕ → List ℕ → Type 0
IsTextOf Utf8mb4 bytes text = IsUtf8 bytes × (text ≡ bytes)
IsTextOf Utf8mb3 bytes text = IsUtf8 bytes × IsTrue (list_all (λ byte. nat_lt byte 240) bytes) × (text ≡ bytes)
IsTextOf Ascii bytes text = IsUtf8 bytes × IsTrue (list_all (λ byte. nat_lt byte 128) bytes) × (text ≡ bytes)
IsTextOf Latin1 bytes text = text ≡ written (λ byte. encode_utf8 (latin1_character byte)) bytes
IsTextOf Ucs2 bytes text = IsSpelled TwoBytes bytes text
IsTextOf Utf16 bytes text = IsSpelled Units bytes text
IsTextOf Utf16le bytes text = IsSpelled LittleUnits bytes text
IsTextOf Utf32 bytes text = IsSpelled FourBytes bytes text
IsTextOf Other bytes text = ⊥
