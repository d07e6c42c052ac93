-- Private: the numbers in the text of a TIMESTAMP.
use Rattle.std.specs.Prelude.{◌≡◌, ◌<◌, ℕ, ◌/◌, ◌%◌, ◌⊎◌}
use Rattle.columns.specs.CalendarDays.{IsDayOf}

-- all are zero
abbrev pub AreNone : ℕ → ℕ → ℕ → ℕ → ℕ → ℕ → Type 0
AreNone year month day hour minute second =
    (year ≡ 0) × (month ≡ 0) × (day ≡ 0) × (hour ≡ 0) × (minute ≡ 0) × (second ≡ 0)

-- These are the hour, the minute and the second so many seconds after 1970-01-01 00:00:00.
abbrev pub IsClockOf : ℕ → ℕ → ℕ → ℕ → Type 0
IsClockOf seconds hour minute second =
    (seconds / 3600 % 24 ≡ hour) × (seconds / 60 % 60 ≡ minute) × (seconds % 60 ≡ second)

-- These are the numbers of a value of so many seconds: zeros of 0, else the date and the time of day.
abbrev pub IsStampOf : ℕ → ℕ → ℕ → ℕ → ℕ → ℕ → ℕ → Type 0
IsStampOf seconds year month day hour minute second =
    ((seconds ≡ 0) × AreNone year month day hour minute second) ⊎
    ((0 < seconds) × IsDayOf (seconds / 86400) year month day × IsClockOf seconds hour minute second)
