use Rattle.std.proofs.Common.{arith}
use Rattle.columns.proofs.Rounding.{some_unit, unit_fits}
use Rattle.columns.proofs.value.scientific.Scientific.cut.Goals as goal

pub nearest-number-requires-clause-some : goal.nearest-number-requires-clause-some
nearest-number-requires-clause-some c = omega (arith, c.pow.ensures, some_unit c.from.result)

pub nearest-number-requires-clause-unit : goal.nearest-number-requires-clause-unit
nearest-number-requires-clause-unit c = omega (arith, c.pow.ensures, unit_fits c.from.result (omega (arith, c.from.ensures, c.digit_count-count.ensures.few)))
