use Rattle.std.proofs.Common.{◌≡◌, ◌-◌, ◌≤◌}
use Rattle.columns.specs.Calendar.{year_from, year_of}
use Rattle.columns.proofs.value.calendar.find_year.Given as goal

abbrev pub invariant-loop-year : goal.invariant-loop-year
invariant-loop-year l = (year_from (2038 - l.year) l.year l.left ≡ year_of l.days) × (l.left ≤ l.days)
