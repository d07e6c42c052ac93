-- The values of TIME and DATETIME, with fractions of a second. MySQL Reference Manual, "Date and Time Data Types" and
-- "Data Type Storage Requirements", and MySQL Source Documentation, `my_time_packed_to_binary` and
-- `my_datetime_packed_to_binary`.
use Rattle.std.specs.Prelude.{ℕ, ◌+◌, ◌*◌, ◌/◌, ◌%◌, ◌^◌, Bool, ◌&&◌, ◌==◌, nat_le, nat_lt, if◌then◌else◌, List, [], ◌∷◌, ◌++◌}
use Rattle.std.specs.Str.{byte}
use Rattle.byteorder.specs.Endian.{big_bytes}
use Rattle.columns.specs.Text.{zero_padded}

-- A fraction of a second: how many digits stand after the point, up to six, and the number that they are.
abbrev pub is_fraction : ℕ → ℕ → Bool
is_fraction digits number = nat_le digits 6 && nat_lt number (10 ^ digits)

-- two digits a byte
abbrev pub fraction_size : ℕ → ℕ
fraction_size digits = (digits + 1) / 2

-- as it is stored: with an even number of digits
abbrev pub even_digits : ℕ → ℕ → ℕ
even_digits digits number = if digits % 2 == 0 then number else number * 10

abbrev pub fraction_bytes : ℕ → ℕ → List ℕ
fraction_bytes digits number = big_bytes (fraction_size digits) (even_digits digits number)

-- nothing, or a point and all digits
abbrev pub fraction_text : ℕ → ℕ → List ℕ
fraction_text digits number = if digits == 0 then [] else byte "." ∷ zero_padded digits number

-- a time of a day
abbrev pub is_clock : ℕ → ℕ → ℕ → Bool
is_clock hour minute second = nat_le hour 23 && nat_le minute 59 && nat_le second 59

-- 5 bits, 6 bits, 6 bits
abbrev pub clock_number : ℕ → ℕ → ℕ → ℕ
clock_number hour minute second = hour * 2 ^ 12 + minute * 2 ^ 6 + second

-- year and month as one number, 5 bits for the day, 17 for the time of day, and 2^39 more
abbrev pub moment_number : ℕ → ℕ → ℕ → ℕ → ℕ
moment_number year month day clock = 2 ^ 39 + (((year * 13 + month) * 32 + day) * 2 ^ 17 + clock)

-- `HH:MM:SS`, and then the fraction
abbrev pub clock_text : ℕ → ℕ → ℕ → ℕ → ℕ → List ℕ
clock_text hour minute second digits number =
    zero_padded 2 hour ++ byte ":" ∷ (zero_padded 2 minute ++ byte ":" ∷ (zero_padded 2 second ++ fraction_text digits number))
