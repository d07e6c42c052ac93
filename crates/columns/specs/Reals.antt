-- The texts of FLOAT and DOUBLE. MySQL Reference Manual, "Floating-Point Types (Approximate Value) - FLOAT, DOUBLE", and
-- MySQL Source Documentation, `my_gcvt` and `my_fcvt`. A number is a whole one with a power of ten.
use Rattle.std.specs.Prelude.{ℕ, ◌+◌, ◌-◌, ◌/◌, ◌%◌, ◌^◌, Bool, ◌==◌, nat_lt, if◌then◌else◌, List, [], ◌∷◌, ◌++◌, length, replicate, decimal}
use Rattle.std.specs.Str.{byte}
use Rattle.columns.specs.Text.{zero_padded}
use Rattle.columns.specs.declared.value.tens.Tens.{Tens}
use Rattle.columns.specs.declared.value.tens.Tens.TheVariants.{Up, Down}

abbrev pub minus_part : Bool → List ℕ
minus_part negative = if negative then byte "-" ∷ [] else []

-- a whole number with a point in front of its last k digits
abbrev pub point_text : ℕ → ℕ → List ℕ
point_text k number = if k == 0 then decimal number else (decimal (number / 10 ^ k) ++ byte "." ∷ zero_padded k (number % 10 ^ k))

-- the exponent of the first of so many digits
abbrev pub exponent_text : ℕ → Tens → List ℕ
exponent_text count (Up tens) = decimal (tens + count - 1)
exponent_text count (Down tens) = if nat_lt tens count then decimal (count - 1 - tens) else byte "-" ∷ decimal (tens + 1 - count)

-- one digit in front of the point, the others after it, and the exponent
abbrev pub scientific_text : ℕ → Tens → List ℕ
scientific_text number tens =
    point_text (length (decimal number) - 1) number ++ byte "e" ∷ exponent_text (length (decimal number)) tens

-- The point would stand after more than 15 digits and zeros, with no digit after it, or more than 14 zeros would stand
-- between it and the first digit.
abbrev pub is_far : ℕ → Tens → Bool
is_far count (Up tens) = nat_lt 15 (count + tens)
is_far count (Down tens) = nat_lt (count + 14) tens

abbrev pub near_text : ℕ → Tens → List ℕ
near_text number (Up tens) = decimal number ++ replicate tens 48
near_text number (Down tens) = point_text tens number

-- a column without (M,D)
abbrev pub plain_text : Bool → ℕ → Tens → List ℕ
plain_text negative number tens =
    minus_part negative ++ (if is_far (length (decimal number)) tens then scientific_text number tens else near_text number tens)

abbrev pub shortest_text : Bool → ℕ → Tens → List ℕ
shortest_text negative number tens = minus_part negative ++ scientific_text number tens

-- a point and so many zeros
abbrev pub no_decimals : ℕ → List ℕ
no_decimals decimals = if decimals == 0 then [] else byte "." ∷ replicate decimals 48

abbrev pub with_decimals : ℕ → ℕ → Tens → List ℕ
with_decimals decimals number (Up tens) = decimal number ++ (replicate tens 48 ++ no_decimals decimals)
with_decimals decimals number (Down tens) = point_text tens number ++ replicate (decimals - tens) 48

-- a column with (M,D), with D decimals
abbrev pub fixed_text : ℕ → Bool → ℕ → Tens → List ℕ
fixed_text decimals negative number tens = minus_part negative ++ with_decimals decimals number tens
