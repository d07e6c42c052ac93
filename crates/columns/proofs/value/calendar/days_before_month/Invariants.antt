use Rattle.std.proofs.Common.{◌≡◌, ◌+◌, ◌-◌, ◌*◌, ◌≤◌}
use Rattle.columns.specs.CalendarDays.{months_days}
use Rattle.columns.proofs.value.calendar.days_before_month.Given as goal

abbrev pub invariant-loop-earlier : goal.invariant-loop-earlier
invariant-loop-earlier l =
    (l.days + months_days l.year (l.month - l.earlier) l.earlier ≡ months_days l.year (l.month - 1) 1) × (l.days ≤ 31 * (l.earlier - 1)) × (l.earlier ≤ 1 + l.month)
