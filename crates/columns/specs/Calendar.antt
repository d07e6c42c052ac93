-- Days since 1970-01-01 in the Gregorian calendar, which is counted on year by year and month by month.
use Rattle.std.specs.Prelude.{ℕ, zero, suc, ◌+◌, ◌-◌, ◌%◌, Bool, not, ◌&&◌, ◌||◌, ◌==◌, nat_lt, if◌then◌else◌, List}
use Rattle.columns.specs.Dates.{date_text}

abbrev pub is_leap : ℕ → Bool
is_leap year = year % 4 == 0 && (not (year % 100 == 0) || year % 400 == 0)

abbrev pub year_length : ℕ → ℕ
year_length year = if is_leap year then 366 else 365

-- January is 1.
abbrev pub month_length : ℕ → ℕ → ℕ
month_length year month =
    if month == 2 then (if is_leap year then 29 else 28)
    else if month == 4 || month == 6 || month == 9 || month == 11 then 30
    else 31

-- the year of a day that lies so many days after the first of this year, and how many days it lies after the first of
-- its own; of at most so many years more
unfoldable pub year_from : ℕ → ℕ → ℕ → ℕ × ℕ
year_from zero year days = (year, days)
year_from (suc more) year days = if nat_lt days (year_length year) then (year, days) else year_from more (year + 1) (days - year_length year)

-- the same for months of one year
unfoldable pub month_from : ℕ → ℕ → ℕ → ℕ → ℕ × ℕ
month_from year zero month days = (month, days)
month_from year (suc more) month days = if nat_lt days (month_length year month) then (month, days) else month_from year more (month + 1) (days - month_length year month)

-- the year and the day of it; 2038 is the last year of a TIMESTAMP
abbrev pub year_of : ℕ → ℕ × ℕ
year_of days = year_from 68 1970 days

abbrev pub month_of : ℕ → ℕ → ℕ × ℕ
month_of year days = month_from year 11 1 days

-- the date so many days after 1970-01-01
abbrev pub day_text : ℕ → List ℕ
day_text days = date_text (year_of days).0 (month_of (year_of days).0 (year_of days).1).0 ((month_of (year_of days).0 (year_of days).1).1 + 1)
