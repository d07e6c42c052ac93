use Rattle.std.proofs.Common.{length}
use Rattle.gtid.proofs.SpanGroups.{Joined}
use Rattle.gtid.proofs.gathering.join.Given as goal

abbrev pub invariant-loop-next : goal.invariant-loop-next
invariant-loop-next l = Joined l.fn.first l.fn.after l.joined.items l.last l.left

abbrev pub decreases-loop-next : goal.decreases-loop-next
decreases-loop-next l = length l.left
