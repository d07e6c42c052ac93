-- Which numbers and signs the types have. MySQL Reference Manual, "Data Types": "Numeric Data Type Syntax", "Date and
-- Time Data Type Syntax", "String Data Type Syntax".
use Rattle.std.specs.Prelude.{ℕ, Bool, true, false, not, ◌&&◌, ◌||◌, nat_le}
use Rattle.columns.specs.declared.type_name.TypeName.{TypeName}
use Rattle.columns.specs.declared.type_name.TypeName.TheVariants.{Tinyint, Smallint, Mediumint, Int, Bigint, Decimal, Float, Double, Bit, Year, Time, Datetime, Timestamp, Char, Varchar, Binary, Varbinary, Vector}
use Rattle.columns.specs.declared.arguments.Arguments.{Arguments}
use Rattle.columns.specs.declared.arguments.Arguments.TheVariants.{NoNumber, OneNumber, TwoNumbers}
use Rattle.columns.specs.declared.sign.Sign.{Sign}
use Rattle.columns.specs.declared.sign.Sign.TheVariants.{Signed, Unsigned, Zerofill}

abbrev pub is_none : Arguments → Bool
is_none NoNumber = true
is_none _ = false

-- one number from `low` to `high`
abbrev pub is_one_between : ℕ → ℕ → Arguments → Bool
is_one_between low high (OneNumber n) = nat_le low n && nat_le n high
is_one_between low high _ = false

-- from 1 to `most` digits in all, at most 30 of them after the point
abbrev pub is_digits : ℕ → Arguments → Bool
is_digits most (TwoNumbers n m) = nat_le 1 n && nat_le n most && nat_le m n && nat_le m 30
is_digits most _ = false

-- whether a type of this name has these numbers: a display width, digits, bits, digits of a second's fraction, a length
abbrev pub takes : TypeName → Arguments → Bool
takes Tinyint numbers = is_none numbers || is_one_between 1 255 numbers
takes Smallint numbers = is_none numbers || is_one_between 1 255 numbers
takes Mediumint numbers = is_none numbers || is_one_between 1 255 numbers
takes Int numbers = is_none numbers || is_one_between 1 255 numbers
takes Bigint numbers = is_none numbers || is_one_between 1 255 numbers
takes Decimal numbers = is_digits 65 numbers
takes Float numbers = is_none numbers || is_digits 255 numbers
takes Double numbers = is_none numbers || is_digits 255 numbers
takes Bit numbers = is_one_between 1 64 numbers
takes Year numbers = is_none numbers || is_one_between 4 4 numbers
takes Time numbers = is_none numbers || is_one_between 1 6 numbers
takes Datetime numbers = is_none numbers || is_one_between 1 6 numbers
takes Timestamp numbers = is_none numbers || is_one_between 1 6 numbers
takes Char numbers = is_one_between 0 255 numbers
takes Varchar numbers = is_one_between 0 65535 numbers
takes Binary numbers = is_one_between 0 255 numbers
takes Varbinary numbers = is_one_between 0 65535 numbers
takes Vector numbers = is_one_between 1 16383 numbers
takes _ numbers = is_none numbers

abbrev pub is_integer : TypeName → Bool
is_integer Tinyint = true
is_integer Smallint = true
is_integer Mediumint = true
is_integer Int = true
is_integer Bigint = true
is_integer _ = false

-- whether a type of this name may be unsigned
abbrev pub is_numeric : TypeName → Bool
is_numeric Decimal = true
is_numeric Float = true
is_numeric Double = true
is_numeric name = is_integer name

-- whether such a type has this sign. An integer with ZEROFILL has a display width.
abbrev pub signs : TypeName → Arguments → Sign → Bool
signs name numbers Signed = true
signs name numbers Unsigned = is_numeric name
signs name numbers Zerofill = is_numeric name && not (is_integer name && is_none numbers)

abbrev pub is_type : TypeName → Arguments → Sign → Bool
is_type name numbers sign = takes name numbers && signs name numbers sign
