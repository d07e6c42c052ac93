use Rattle.columns.proofs.LeadingZeros.{two_digits}
use Rattle.columns.proofs.value.datetime.DatetimeDisplay.fmt.Goals as goal

pub returns-clause-writes : goal.returns-clause-writes
returns-clause-writes g c plain ok =
    rw (c.laid_out.ensures, c.laid_out-2.ensures, c.laid_out-3.ensures, two_digits c.args.self.now.hour, two_digits c.args.self.now.minute, two_digits c.args.self.now.second)
    at (c.write.ensures.writes plain ok)
