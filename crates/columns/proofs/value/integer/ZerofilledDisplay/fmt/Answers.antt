use Rattle.columns.proofs.LeadingZeros.{any_digits}
use Rattle.columns.proofs.value.integer.ZerofilledDisplay.fmt.Goals as goal

pub returns-clause-writes : goal.returns-clause-writes
returns-clause-writes g c plain ok =
    rw (c.laid_out.ensures, c.from-width.ensures, any_digits c.args.self.now.width c.args.self.now.number) at (c.write.ensures.writes plain ok)
