-- The text of a type. MySQL Reference Manual, "Data Types" and "The INFORMATION_SCHEMA COLUMNS Table" (COLUMN_TYPE).
use Rattle.std.specs.Prelude.{◌≡◌, ℕ, ◌<◌, List, [], ◌∷◌, ◌++◌, take, drop, codes, decimal}
use Rattle.std.specs.Str.{byte}
use Rattle.columns.specs.TypeName.{name_text}
use Rattle.columns.specs.Word.{Ends, is_letter}
use Rattle.columns.specs.declared.type_name.TypeName.{TypeName}
use Rattle.columns.specs.declared.arguments.Arguments.{Arguments}
use Rattle.columns.specs.declared.arguments.Arguments.TheVariants.{NoNumber, OneNumber, TwoNumbers}
use Rattle.columns.specs.declared.sign.Sign.{Sign}
use Rattle.columns.specs.declared.sign.Sign.TheVariants.{Signed, Unsigned, Zerofill}
use Rattle.columns.specs.declared.fault.TypeFault.{TypeFault}
use Rattle.columns.specs.declared.fault.TypeFault.TheVariants.{Name, Rest}

-- nothing, `(n)` or `(n,m)`
abbrev pub arguments_text : Arguments → List ℕ
arguments_text NoNumber = []
arguments_text (OneNumber n) = byte "(" ∷ (decimal n ++ byte ")" ∷ [])
arguments_text (TwoNumbers n m) = byte "(" ∷ (decimal n ++ byte "," ∷ (decimal m ++ byte ")" ∷ []))

-- the first number, and 0 where there is none
abbrev pub first_number : Arguments → ℕ
first_number NoNumber = 0
first_number (OneNumber n) = n
first_number (TwoNumbers n m) = n

-- the second number, and 0 where it has none
abbrev pub second_number : Arguments → ℕ
second_number (TwoNumbers n m) = m
second_number _ = 0

abbrev pub sign_text : Sign → List ℕ
sign_text Signed = []
sign_text Unsigned = codes " unsigned"
sign_text Zerofill = codes " unsigned zerofill"

-- the text of a type: its name, its numbers, its sign
abbrev pub type_text : TypeName → Arguments → Sign → List ℕ
type_text name numbers sign = name_text name ++ (arguments_text numbers ++ sign_text sign)

-- Numbers of at most five digits, as all numbers of types are.
abbrev pub AreSmall : Arguments → Type 0
AreSmall NoNumber = Unit {0}
AreSmall (OneNumber n) = n < 100000
AreSmall (TwoNumbers n m) = (n < 100000) × (m < 100000)

-- What is wrong with a text that is no type's. Its letters at the front are no type's name; or they are, and what
-- follows them, at this offset, is no rest of such a type.
abbrev pub IsTypeFault : List ℕ → TypeFault → Type 0
IsTypeFault text Name = (name : TypeName) (rest : List ℕ) → Ends is_letter rest → text ≡ name_text name ++ rest → ⊥
IsTypeFault text (Rest at) = (name : TypeName) × (take at text ≡ name_text name) × Ends is_letter (drop at text)
