-- The values of YEAR and DATE. MySQL Reference Manual, "The YEAR Type", "The DATE, DATETIME, and TIMESTAMP Types", and
-- MySQL Source Documentation, `Field_year`, `Field_newdate`.
use Rattle.std.specs.Prelude.{ℕ, ◌+◌, ◌-◌, ◌*◌, Bool, ◌&&◌, ◌||◌, ◌==◌, nat_le, if◌then◌else◌, List, [], ◌∷◌, ◌++◌}
use Rattle.std.specs.Str.{byte}
use Rattle.byteorder.specs.Endian.{little_bytes}
use Rattle.columns.specs.Text.{zero_padded}

-- 0, or from 1901 to 2155
abbrev pub is_year : ℕ → Bool
is_year year = (year == 0) || (nat_le 1901 year && nat_le year 2155)

-- the byte of a year: 0 for the year 0, else how many years it lies after 1900
abbrev pub year_bytes : ℕ → List ℕ
year_bytes year = (if year == 0 then 0 else year - 1900) ∷ []

abbrev pub year_text : ℕ → List ℕ
year_text year = zero_padded 4 year

-- A date as columns have it: month and day may be zero, and the day is in no calendar's range.
abbrev pub is_date : ℕ → ℕ → ℕ → Bool
is_date year month day = nat_le year 9999 && nat_le month 12 && nat_le day 31

-- three bytes, the lowest first: the day in 5 bits, the month in 4, the year in the others
abbrev pub date_bytes : ℕ → ℕ → ℕ → List ℕ
date_bytes year month day = little_bytes 3 (year * 512 + month * 32 + day)

-- `YYYY-MM-DD`
abbrev pub date_text : ℕ → ℕ → ℕ → List ℕ
date_text year month day = zero_padded 4 year ++ byte "-" ∷ (zero_padded 2 month ++ byte "-" ∷ zero_padded 2 day)
