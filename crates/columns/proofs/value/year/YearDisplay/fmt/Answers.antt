use Rattle.columns.proofs.LeadingZeros.{four_digits}
use Rattle.columns.proofs.value.year.YearDisplay.fmt.Goals as goal

pub returns-clause-writes : goal.returns-clause-writes
returns-clause-writes g c plain ok = rw (c.laid_out.ensures, four_digits) at (c.write.ensures.writes plain ok)
