use Rattle.gtid.proofs.Names.{false≢true, take_rest}
use Rattle.gtid.proofs.OnePass.{apart_left, apart_part, apart_not}
use Rattle.gtid.proofs.interval.are_apart_in_one_pass.Goals as goal

pub loop-parts-preserved-then-first-part : goal.loop-parts-preserved-then-first-part
loop-parts-preserved-then-first-part c =
    rw take_rest (apart_left c.loop-parts.parts.now c.loop-parts.left.now (record { lo = 0; hi = 0 }) c.loop-parts.invariant c.in-len1-up.len_at_least c.in-len1-up-left.len_at_least c.if-first-part.true)

pub returns-then-first-part-2 : goal.returns-then-first-part-2
returns-then-first-part-2 c = (
  λ no. absurd (false≢true no),
  apart_not c.loop-parts.parts.now c.loop-parts.left.now (record { lo = 0; hi = 0 }) c.loop-parts.invariant c.in-len1-up.len_at_least c.in-len1-up-left.len_at_least c.if-first-part.false c.if-first-part-2.true,
)

pub loop-parts-preserved : goal.loop-parts-preserved
loop-parts-preserved c =
    rw take_rest (apart_part c.loop-parts.parts.now c.loop-parts.left.now (record { lo = 0; hi = 0 }) c.loop-parts.invariant c.in-len1-up.len_at_least c.in-len1-up-left.len_at_least c.if-first-part-2.false)
