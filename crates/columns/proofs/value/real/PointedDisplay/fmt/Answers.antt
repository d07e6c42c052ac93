use Rattle.columns.proofs.Names.{◌<◌, ◌%◌, ◌^◌, arith, ne_eqb}
use Rattle.columns.proofs.LeadingZeros.{some_digits}
use Rattle.columns.proofs.Rounding.{some_unit, far_point}
use Rattle.columns.proofs.value.real.PointedDisplay.fmt.Goals as goal

pub returns-then-behind-gt17-clause-writes : goal.returns-then-behind-gt17-clause-writes
returns-then-behind-gt17-clause-writes g c plain ok =
    let behind = c.args.self.now.behind in
    let many : 17 < behind = omega (arith, c.if-behind-gt17.true, c.from-behind.ensures) in
    rw (far_point behind c.args.self.now.number many c.args.self.now.small)
    (rw (c.laid_out.ensures, c.from-behind.ensures, some_digits behind c.args.self.now.number (omega (arith, many))) at (c.write-then-behind-gt17.ensures.writes plain ok))

pub nonzero_div-whole : goal.nonzero_div-whole
nonzero_div-whole g c = omega (arith, c.pow-unit.ensures, some_unit c.from.result)

pub nonzero_rem-part : goal.nonzero_rem-part
nonzero_rem-part g c = omega (arith, c.pow-unit.ensures, some_unit c.from.result)

pub returns-clause-writes : goal.returns-clause-writes
returns-clause-writes g c plain ok =
    let behind = c.args.self.now.behind in
    let number = c.args.self.now.number in
    let some : 0 < behind = omega (arith, c.if-behind-eq0.false, c.from-behind.ensures) in
    rw (ne_eqb behind 0 (λ none. omega (arith, none, some)))
    (rw (c.laid_out-2.ensures, c.from-behind.ensures, c.pow-unit.ensures, c.from.ensures, some_digits behind (number % 10 ^ behind) some) at (c.write-2.ensures.writes plain ok))
