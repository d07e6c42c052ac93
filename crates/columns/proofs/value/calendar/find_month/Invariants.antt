use Rattle.std.proofs.Common.{◌≡◌, ◌-◌, ◌≤◌}
use Rattle.columns.specs.Calendar.{month_from, month_of}
use Rattle.columns.proofs.value.calendar.find_month.Given as goal

abbrev pub invariant-loop-month : goal.invariant-loop-month
invariant-loop-month l = (month_from l.year (12 - l.month) l.month l.left ≡ month_of l.year l.days) × (l.left ≤ l.days)
