use Rattle.gtid.proofs.Names.{false≢true, take_rest}
use Rattle.gtid.proofs.OnePass.{onward_left, onward_none, onward_gap}
use Rattle.gtid.proofs.interval.is_subset_in_one_pass.Goals as goal

pub returns-in_default-left : goal.returns-in_default-left
returns-in_default-left c = (λ no. absurd (false≢true no), onward_none c.loop-parts.parts.now c.loop-parts.left.now c.loop-parts.invariant c.in-len1-up.len_at_least c.in_default-left.len_below)

pub loop-parts-preserved-then-first-part : goal.loop-parts-preserved-then-first-part
loop-parts-preserved-then-first-part c =
    rw take_rest (onward_left c.loop-parts.parts.now c.loop-parts.left.now (record { lo = 0; hi = 0 }) c.loop-parts.invariant c.in-len1-up.len_at_least c.in-len1-up-left.len_at_least c.if-first-part.true)

pub returns-then-part-first : goal.returns-then-part-first
returns-then-part-first c = (
  λ no. absurd (false≢true no),
  onward_gap c.loop-parts.parts.now c.loop-parts.left.now (record { lo = 0; hi = 0 }) c.loop-parts.invariant c.in-len1-up.len_at_least c.in-len1-up-left.len_at_least c.if-part-first.true,
)
