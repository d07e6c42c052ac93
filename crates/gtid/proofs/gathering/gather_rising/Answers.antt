use Rattle.std.proofs.Common.{arith}
use Rattle.gtid.proofs.SpanGroups.{gathered_none, gathered_next, gathered_push, gathered_all}
use Rattle.gtid.proofs.gathering.gather_rising.Goals as goal

pub loop-left-init : goal.loop-left-init
loop-left-init c = (gathered_none c.args.spans.now c.requires.lawful c.requires.rise c.new-groups.ensures.items, omega arith)

pub loop-left-preserved : goal.loop-left-preserved
loop-left-preserved c =
    let joined = c.in_ok-group.ensures in (
      gathered_push _ _ c.in_ok-group.group c.push.new.self.items c.in_ok-group.others.now (gathered_next c.loop-left.left.now _ c.loop-left.invariant.0 c.in-len1-up.len_at_least)
          joined.source joined.listed joined.above joined.lawful joined.rise c.in_ok-push.ensures.items,
      omega (arith, c.loop-left.invariant.1, joined.fewer, c.in-len1-up.len_at_least),
    )

pub returns-clause-ok : goal.returns-clause-ok
returns-clause-ok c = gathered_all c.loop-left.left.now c.loop-left.invariant.0 c.in_default.len_below
