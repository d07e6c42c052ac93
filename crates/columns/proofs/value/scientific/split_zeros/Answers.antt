use Rattle.std.proofs.Common.{arith}
use Rattle.columns.proofs.Rounding.{zero_off}
use Rattle.columns.proofs.value.scientific.split_zeros.Goals as goal

pub loop-zeros-preserved : goal.loop-zeros-preserved
loop-zeros-preserved c =
    (zero_off c.args.number c.loop-zeros.left c.loop-zeros.zeros c.loop-zeros.invariant.0 (omega (arith, c.if-left-ne0.false)), omega (arith, c.loop-zeros.invariant.1))
