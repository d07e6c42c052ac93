-- The fields of lines that the `mysql` client prints, and the values that they are. MySQL Reference Manual, "Numeric Type
-- Attributes" (ZEROFILL), "mysql Client Options" (--batch) and "String Functions and Operators" (HEX).
use Rattle.std.specs.Prelude.{◌≡◌, ℕ, suc, ℤ, pos, negsuc, ◌⊎◌, List, ◌∷◌, length, ◌<◌, ◌%◌, IsErr}
use Rattle.std.specs.Str.{byte}
use Rattle.std.specs.Str.Parse.{IsNumeral, digits_value}
use Rattle.hex.specs.Hex.{decode_of}
use Rattle.columns.specs.declared.value.field_fault.FieldFault.{FieldFault}
use Rattle.columns.specs.declared.value.field_fault.FieldFault.TheVariants.{Text, Range, Memory}
use Rattle.columns.specs.declared.value.integer.Integer.{Integer}
use Rattle.columns.specs.declared.value.integer.Integer.TheVariants.{Signed, Unsigned}

-- The text is decimal digits, at least one, and they are this number. Zeros may stand in front, as ZEROFILL puts them.
abbrev pub IsDigitsOf : ℕ → List ℕ → Type 0
IsDigitsOf n text = IsNumeral 10 text × (digits_value 10 text ≡ n)

-- The same with a minus sign in front of a number below zero, and only there.
abbrev pub IsWithSign : ℤ → List ℕ → Type 0
IsWithSign (pos n) text = IsDigitsOf n text
IsWithSign (negsuc n) text = (digits : List ℕ) × (text ≡ byte "-" ∷ digits) ×
    IsDigitsOf (suc n) digits

-- the number of an integer
abbrev pub number_of : Integer → ℤ
number_of (Signed z) = z
number_of (Unsigned n) = pos n

-- The text is decimal digits, after a minus sign or not.
abbrev pub IsSignedNumeral : List ℕ → Type 0
IsSignedNumeral text = IsNumeral 10 text ⊎ ((digits : List ℕ) × (text ≡ byte "-" ∷ digits) ×
    IsNumeral 10 digits)

-- What is wrong with a text, where those of this form are due: it is not of the form, or it is.
abbrev pub IsFormFault : (List ℕ → Type 0) → List ℕ → FieldFault → Type 0
IsFormFault Form text Text = ¬ (Form text)
IsFormFault Form text Range = Form text
IsFormFault Form text Memory = ⊥

-- four decimal digits
abbrev pub AreFourDigits : List ℕ → Type 0
AreFourDigits text = IsNumeral 10 text × (length text ≡ 4)

-- What is wrong with a text, where hexadecimal digits are due: it is none; or memory was refused, for the bytes of an even
-- number of them, and not for none.
abbrev pub IsHexFault : List ℕ → FieldFault → Type 0
IsHexFault text Text = IsErr (decode_of text)
IsHexFault text Memory = (0 < length text) × (length text % 2 ≡ 0)
IsHexFault text Range = ⊥
