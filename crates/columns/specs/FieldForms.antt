-- The forms that the texts of dates and times have: so many digits where they stand, whether there is such a date or not.
use Rattle.std.specs.Prelude.{◌≡◌, ℕ, ◌<◌, IsTrue, List, ◌∷◌, ◌++◌, Bool}
use Rattle.std.specs.Str.{byte}
use Rattle.columns.specs.Text.{zero_padded}
use Rattle.columns.specs.Dates.{date_text}
use Rattle.columns.specs.Times.{is_fraction, clock_text}
use Rattle.columns.specs.Reals.{minus_part}

abbrev pub IsDateRange : ℕ → ℕ → ℕ → Type 0
IsDateRange year month day = (year < 10000) × (month < 100) × (day < 100)

abbrev pub IsClockRange : ℕ → ℕ → Type 0
IsClockRange minute second = (minute < 100) × (second < 100)

-- `:MM:SS`
abbrev pub clock_front : ℕ → ℕ → List ℕ
clock_front minute second = byte ":" ∷ (zero_padded 2 minute ++ byte ":" ∷ zero_padded 2 second)

-- `YYYY-MM-DD`
abbrev pub IsDateForm : List ℕ → Type 0
IsDateForm text = (year month day : ℕ) × IsDateRange year month day ×
    (text ≡ date_text year month day)

-- `YYYY-MM-DD HH:MM:SS`, and then the fraction with so many digits
abbrev pub IsMomentForm : ℕ → List ℕ → Type 0
IsMomentForm digits text = (year month day hour minute second number : ℕ) ×
    IsDateRange year month day × (hour < 100) ×
    IsClockRange minute second × IsTrue (is_fraction digits number) ×
    (text ≡ date_text year month day ++ byte " " ∷ clock_text hour minute second digits number)

-- `[-]HH:MM:SS`, hours in two digits or three, and then the fraction with so many digits
abbrev pub IsSpanForm : ℕ → List ℕ → Type 0
IsSpanForm digits text = (negative : Bool) × (hour minute second number : ℕ) × (hour < 1000) ×
    IsClockRange minute second × IsTrue (is_fraction digits number) ×
    (text ≡ minus_part negative ++ clock_text hour minute second digits number)
