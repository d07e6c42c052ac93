use Rattle.std.proofs.Common.{arith}
use Rattle.columns.proofs.Rounding.{no_unit, some_unit, unit_fits}
use Rattle.columns.proofs.value.scientific.divided.Goals as goal

pub returns-then-tens-gt17-clause-rounded : goal.returns-then-tens-gt17-clause-rounded
returns-then-tens-gt17-clause-rounded c = no_unit c.args.number c.args.tens c.requires.number c.if-tens-gt17.true

pub nearest-requires-clause-some : goal.nearest-requires-clause-some
nearest-requires-clause-some c = omega (arith, c.pow.ensures, some_unit c.from.result)

pub nearest-requires-clause-unit : goal.nearest-requires-clause-unit
nearest-requires-clause-unit c = omega (arith, c.pow.ensures, unit_fits c.from.result (omega (arith, c.from.ensures, c.if-tens-gt17.false)))
