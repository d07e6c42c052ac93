-- Private: days of a date, and how many days years and months have.
use Rattle.std.specs.Prelude.{◌≡◌, ℕ, zero, suc, ◌+◌}
use Rattle.columns.specs.Calendar.{year_length, month_length, year_of, month_of}

-- The date so many days after 1970-01-01 has these numbers.
abbrev pub IsDayOf : ℕ → ℕ → ℕ → ℕ → Type 0
IsDayOf days year month day = ((year_of days).0 ≡ year) × ((month_of (year_of days).0 (year_of days).1).0 ≡ month) ×
    ((month_of (year_of days).0 (year_of days).1).1 + 1 ≡ day)

-- how many days so many years have, from this one on
unfoldable pub years_days : ℕ → ℕ → ℕ
years_days zero year = 0
years_days (suc more) year = year_length year + years_days more (year + 1)

-- the same for months of one year
unfoldable pub months_days : ℕ → ℕ → ℕ → ℕ
months_days year zero month = 0
months_days year (suc more) month = month_length year month + months_days year more (month + 1)
