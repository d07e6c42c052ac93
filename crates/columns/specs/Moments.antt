-- The values of DATETIME. MySQL Reference Manual, "Date and Time Data Types", and MySQL Source Documentation,
-- `my_datetime_packed_to_binary`.
use Rattle.std.specs.Prelude.{◌≡◌, ℕ, List, ◌∷◌, ◌++◌}
use Rattle.std.specs.Str.{byte}
use Rattle.byteorder.specs.Endian.{big_bytes}
use Rattle.columns.specs.Dates.{date_text}
use Rattle.columns.specs.Times.{moment_number, clock_number, fraction_bytes, clock_text}
use Rattle.columns.specs.declared.value.moment.Datetime.{Datetime}

abbrev pub moment_bytes : Datetime → List ℕ
moment_bytes at = big_bytes 5 (moment_number at.date.year at.date.month at.date.day (clock_number at.hour at.minute at.second))
    ++ fraction_bytes at.fraction.digits at.fraction.number

-- `YYYY-MM-DD HH:MM:SS`, and then the fraction
abbrev pub moment_text : Datetime → List ℕ
moment_text at = date_text at.date.year at.date.month at.date.day ++ byte " " ∷
    clock_text at.hour at.minute at.second at.fraction.digits at.fraction.number

-- Two values are the same in each part.
pub record IsSameMoment (a b : Datetime) : Type 0 where
  pub year : a.date.year ≡ b.date.year
  pub month : a.date.month ≡ b.date.month
  pub day : a.date.day ≡ b.date.day
  pub hour : a.hour ≡ b.hour
  pub minute : a.minute ≡ b.minute
  pub second : a.second ≡ b.second
  pub digits : a.fraction.digits ≡ b.fraction.digits
  pub number : a.fraction.number ≡ b.fraction.number

pub record IsSameClock (a : Datetime) (hour minute second : ℕ) : Type 0 where
  pub hour_is : a.hour ≡ hour
  pub minute_is : a.minute ≡ minute
  pub second_is : a.second ≡ second
