use Rattle.std.proofs.Common.{arith}
use Rattle.gtid.proofs.ScanComplete.{passed_byte}
use Rattle.gtid.proofs.grammar.pass_source.Goals as goal

pub loop-left-preserved : goal.loop-left-preserved
loop-left-preserved c = (
  passed_byte c.loop-left.left.now 0 c.loop-left.invariant.0 c.in-len1-up.len_at_least (c.stands_at.ensures.step c.if-not-stands_at.false),
  omega (arith, c.stands_at.ensures.within c.if-not-stands_at.false),
)
