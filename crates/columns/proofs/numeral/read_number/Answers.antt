use Rattle.std.proofs.Common.{arith}
use Rattle.columns.proofs.Numerals.{absent, leading_zero, too_great, one_more, more_same, first_digit, whole_number}
use Rattle.columns.proofs.numeral.read_number.Goals as goal

pub returns-in_err-first-clause-only : goal.returns-in_err-first-clause-only
returns-in_err-first-clause-only c n rest small end e = absurd (absent c.args.text.now n rest small end e c.in_err-first.ensures.none)

pub loop-digit-init : goal.loop-digit-init
loop-digit-init c =
    let read = c.in_ok-first.ensures.some in
    let first = first_digit c.args.text.now c.in_ok-first.first c.in_ok-first.rest.now read.0 read.1 in
    record { text = rw c.from-number.ensures first.0; same = rw c.from-number.ensures first.1; small = omega (arith, read.1, c.from-number.ensures) }

pub returns-then-number-eq0-clause-only : goal.returns-then-number-eq0-clause-only
returns-then-number-eq0-clause-only c =
    let read = c.in-Some.ensures.some in
    leading_zero c.args.text.now c.loop-digit.number c.in-Some.digit c.loop-digit.left.now c.in-Some.rest.now (omega arith) c.loop-digit.invariant.text read.0 read.1

pub returns-then-number-ge10000-clause-only : goal.returns-then-number-ge10000-clause-only
returns-then-number-ge10000-clause-only c =
    let read = c.in-Some.ensures.some in
    too_great c.args.text.now c.loop-digit.number c.in-Some.digit c.loop-digit.left.now c.in-Some.rest.now (omega arith) c.loop-digit.invariant.same read.0 read.1

pub loop-digit-preserved : goal.loop-digit-preserved
loop-digit-preserved c =
    let read = c.in-Some.ensures.some in
    record {
      text = rw c.from.ensures (one_more c.args.text.now c.loop-digit.number c.in-Some.digit c.loop-digit.left.now c.in-Some.rest.now (omega arith) (omega arith) c.loop-digit.invariant.text read.0 read.1);
      same = rw c.from.ensures (more_same c.args.text.now c.loop-digit.number c.in-Some.digit c.loop-digit.left.now c.in-Some.rest.now c.loop-digit.invariant.same read.0 read.1);
      small = omega (arith, read.1, c.from.ensures);
    }

pub returns-clause-only : goal.returns-clause-only
returns-clause-only c = whole_number c.args.text.now c.loop-digit.number c.loop-digit.left.now c.loop-digit.invariant.same c.in_default.ensures.none
