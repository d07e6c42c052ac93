use Rattle.std.proofs.Common.{◌+◌, sym}
use Rattle.columns.proofs.LeadingZeros.{two_digits, four_digits}
use Rattle.columns.proofs.value.calendar.DayDisplay.fmt.Goals as goal

pub returns-clause-writes : goal.returns-clause-writes
returns-clause-writes g c plain ok =
    rw (sym c.find_year-year.ensures.found, sym c.find_month-month.ensures.found)
    (rw (
      c.laid_out.ensures,
      c.laid_out-2.ensures,
      c.laid_out-3.ensures,
      c.from.ensures,
      four_digits c.find_year-year.result.0,
      two_digits c.find_month-month.result.0,
      two_digits (c.find_month-month.result.1 + 1),
    )
    at (c.write.ensures.writes plain ok))
