-- The values of TIMESTAMP, in UTC. MySQL Reference Manual, "The DATE, DATETIME, and TIMESTAMP Types", and MySQL Source
-- Documentation, `my_timestamp_to_binary`.
use Rattle.std.specs.Prelude.{◌≡◌, ℕ, ◌/◌, ◌%◌, ◌==◌, if◌then◌else◌, List, ◌∷◌, ◌++◌, codes}
use Rattle.std.specs.Str.{byte}
use Rattle.byteorder.specs.Endian.{big_bytes}
use Rattle.columns.specs.Times.{fraction_bytes, fraction_text, clock_text}
use Rattle.columns.specs.Calendar.{day_text}
use Rattle.columns.specs.declared.value.stamp.Timestamp.{Timestamp}

abbrev pub stamp_bytes : Timestamp → List ℕ
stamp_bytes at = big_bytes 4 at.seconds ++ fraction_bytes at.fraction.digits at.fraction.number

-- `YYYY-MM-DD HH:MM:SS` and the fraction; 0 seconds are the zero date
abbrev pub stamp_text : Timestamp → List ℕ
stamp_text at =
    if at.seconds == 0 then codes "0000-00-00 00:00:00" ++ fraction_text at.fraction.digits at.fraction.number
    else day_text (at.seconds / 86400) ++ byte " " ∷
    clock_text (at.seconds / 3600 % 24) (at.seconds / 60 % 60) (at.seconds % 60) at.fraction.digits at.fraction.number

-- Two values are the same in each part.
pub record IsSameStamp (a b : Timestamp) : Type 0 where
  pub seconds : a.seconds ≡ b.seconds
  pub digits : a.fraction.digits ≡ b.fraction.digits
  pub number : a.fraction.number ≡ b.fraction.number
