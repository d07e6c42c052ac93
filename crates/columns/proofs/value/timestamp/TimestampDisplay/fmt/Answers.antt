use Rattle.std.proofs.Common.{◌/◌, ◌%◌}
use Rattle.std.proofs.lemmas.Bool.{ne_eqb, eq-eqb}
use Rattle.columns.proofs.LeadingZeros.{two_digits}
use Rattle.columns.proofs.value.timestamp.TimestampDisplay.fmt.Goals as goal

pub returns-then-seconds-eq0-clause-writes : goal.returns-then-seconds-eq0-clause-writes
returns-then-seconds-eq0-clause-writes g c plain ok =
    rw (eq-eqb c.args.self.now.seconds 0 c.if-seconds-eq0.true) (c.write.ensures.writes plain ok)

pub returns-clause-writes : goal.returns-clause-writes
returns-clause-writes g c plain ok =
    let seconds = c.args.self.now.seconds in
    rw (ne_eqb seconds 0 c.if-seconds-eq0.false)
    (rw (c.laid_out.ensures, c.laid_out-2.ensures, c.laid_out-3.ensures, two_digits (seconds / 3600 % 24), two_digits (seconds / 60 % 60), two_digits (seconds % 60))
    at (c.write-2.ensures.writes plain ok))
