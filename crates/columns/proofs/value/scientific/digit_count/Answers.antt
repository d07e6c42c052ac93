use Rattle.std.proofs.Common.{arith}
use Rattle.columns.proofs.Rounding.{one_digit, one_more, at_most_17, some_digits}
use Rattle.columns.proofs.value.scientific.digit_count.Goals as goal

pub overflow_add-count : goal.overflow_add-count
overflow_add-count c = omega (arith, c.loop-left.invariant.0, at_most_17 c.args.number c.requires)

pub loop-left-preserved : goal.loop-left-preserved
loop-left-preserved c =
    let more = one_more c.loop-left.left c.loop-left-test.true (omega (arith, c.loop-left.invariant.1, c.requires)) in
    (omega (arith, c.loop-left.invariant.0, more), omega (arith, c.loop-left.invariant.1))

pub returns-clause-count : goal.returns-clause-count
returns-clause-count c = omega (arith, c.loop-left.invariant.0, one_digit c.loop-left.left c.loop-left-test.false)

pub returns-clause-few : goal.returns-clause-few
returns-clause-few c = omega (arith, c.loop-left.invariant.0, one_digit c.loop-left.left c.loop-left-test.false, at_most_17 c.args.number c.requires)

pub returns-clause-some : goal.returns-clause-some
returns-clause-some c = omega (arith, c.loop-left.invariant.0, one_digit c.loop-left.left c.loop-left-test.false, some_digits c.args.number (omega (arith, c.requires)))
