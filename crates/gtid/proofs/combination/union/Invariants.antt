use Rattle.std.proofs.Common.{◌+◌, length}
use Rattle.gtid.proofs.IntervalUnion.{Joined}
use Rattle.gtid.proofs.combination.union.Given as goal

abbrev pub invariant-loop-next : goal.invariant-loop-next
invariant-loop-next l = Joined l.fn.left l.fn.right l.merged l.joined.items l.last

abbrev pub decreases-loop-next : goal.decreases-loop-next
decreases-loop-next l = length l.merged.left.now + length l.merged.right.now
