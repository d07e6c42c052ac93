use Rattle.columns.proofs.LeadingZeros.{two_digits, four_digits}
use Rattle.columns.proofs.value.date.DateDisplay.fmt.Goals as goal

pub returns-clause-writes : goal.returns-clause-writes
returns-clause-writes g c plain ok =
    rw (c.laid_out.ensures, c.laid_out-2.ensures, c.laid_out-3.ensures, four_digits c.args.self.now.year, two_digits c.args.self.now.month, two_digits c.args.self.now.day)
    at (c.write.ensures.writes plain ok)
