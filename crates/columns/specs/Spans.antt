-- The values of TIME. MySQL Reference Manual, "The TIME Type", and MySQL Source Documentation, `my_time_packed_to_binary`.
use Rattle.std.specs.Prelude.{◌≡◌, ℕ, ◌+◌, ◌-◌, ◌*◌, ◌^◌, Bool, if◌then◌else◌, List, [], ◌∷◌, ◌++◌}
use Rattle.std.specs.Str.{byte}
use Rattle.byteorder.specs.Endian.{big_bytes}
use Rattle.columns.specs.Times.{clock_number, even_digits, clock_text}
use Rattle.columns.specs.declared.value.span.Time.{Time}

-- a number with its sign, around the middle of a range: nothing is the middle itself
abbrev pub around : ℕ → Bool → ℕ → ℕ
around middle negative amount = if negative then middle - amount else middle + amount

-- hours, minutes and seconds, and after them the fraction in so many bytes, as one number
abbrev pub span_number : ℕ → Time → ℕ
span_number size at = clock_number at.hour at.minute at.second * 256 ^ size + even_digits at.fraction.digits at.fraction.number

abbrev pub span_bytes : ℕ → Time → List ℕ
span_bytes size at = big_bytes (3 + size) (around (2 ^ 23 * 256 ^ size) at.negative (span_number size at))

-- `[-]HH:MM:SS`, hours in two digits or three, and then the fraction
abbrev pub span_text : Time → List ℕ
span_text at = (if at.negative then byte "-" ∷ [] else []) ++ clock_text at.hour at.minute at.second at.fraction.digits at.fraction.number

-- Two values are the same in each part.
pub record IsSameSpan (a b : Time) : Type 0 where
  pub negative : a.negative ≡ b.negative
  pub hour : a.hour ≡ b.hour
  pub minute : a.minute ≡ b.minute
  pub second : a.second ≡ b.second
  pub digits : a.fraction.digits ≡ b.fraction.digits
  pub number : a.fraction.number ≡ b.fraction.number

pub record HasClock (a : Time) (hour minute second : ℕ) : Type 0 where
  pub hour_is : a.hour ≡ hour
  pub minute_is : a.minute ≡ minute
  pub second_is : a.second ≡ second
