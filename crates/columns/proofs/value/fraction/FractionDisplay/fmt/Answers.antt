use Rattle.columns.proofs.Names.{◌<◌, arith, ne_eqb}
use Rattle.columns.proofs.LeadingZeros.{some_digits}
use Rattle.columns.proofs.value.fraction.FractionDisplay.fmt.Goals as goal

pub returns-clause-writes : goal.returns-clause-writes
returns-clause-writes g c plain ok =
    let some : 0 < c.args.self.now.digits = omega (arith, c.if-self-eq0.false) in
    rw (ne_eqb c.args.self.now.digits 0 c.if-self-eq0.false)
    (rw (c.laid_out.ensures, c.from-digits.ensures, some_digits c.args.self.now.digits c.args.self.now.number some) at (c.write.ensures.writes plain ok))
