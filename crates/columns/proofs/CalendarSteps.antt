-- Counting on by a year, and by a month.
use Rattle.std.proofs.Common.{◌≡◌, ℕ, zero, suc, ◌+◌, ◌-◌, ◌<◌, ◌≤◌, refl, arith}
use Rattle.std.proofs.lemmas.Bool.{le-ltb, lt-ltb}
use Rattle.columns.specs.Calendar.{year_from, month_from, year_length, month_length}

pub year_stops : (more year days : ℕ) → 0 < more → days < year_length year → year_from more year days ≡ (year, days)
unfolding year_from
year_stops zero year days some below = absurd (omega arith)
year_stops (suc more) year days some below = rw (lt-ltb days (year_length year) below) refl

pub year_goes_on : (more year days : ℕ) → year_length year ≤ days → year_from (suc more) year days ≡ year_from more (year + 1) (days - year_length year)
unfolding year_from
year_goes_on more year days above = rw (le-ltb days (year_length year) above) refl

pub year_ends : (year days : ℕ) → year_from 0 year days ≡ (year, days)
unfolding year_from
year_ends year days = refl

pub month_stops : (year more month days : ℕ) → 0 < more → days < month_length year month → month_from year more month days ≡ (month, days)
unfolding month_from
month_stops year zero month days some below = absurd (omega arith)
month_stops year (suc more) month days some below = rw (lt-ltb days (month_length year month) below) refl

pub month_goes_on : (year more month days : ℕ) → month_length year month ≤ days → month_from year (suc more) month days ≡ month_from year more (month + 1) (days - month_length year month)
unfolding month_from
month_goes_on year more month days above = rw (le-ltb days (month_length year month) above) refl

pub month_ends : (year month days : ℕ) → month_from year 0 month days ≡ (month, days)
unfolding month_from
month_ends year month days = refl
