use Rattle.std.proofs.Common.{◌≡◌, ◌+◌, ◌-◌, ◌*◌, ◌≤◌}
use Rattle.columns.specs.CalendarDays.{years_days}
use Rattle.columns.proofs.value.calendar.days_before_year.Given as goal

abbrev pub invariant-loop-earlier : goal.invariant-loop-earlier
invariant-loop-earlier l = (l.days + years_days (l.year - l.earlier) l.earlier ≡ years_days (l.year - 1970) 1970) × (l.days ≤ 366 * (l.earlier - 1970)) × (l.earlier ≤ 1970 + l.year)
