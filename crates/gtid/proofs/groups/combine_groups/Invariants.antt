use Rattle.std.proofs.Common.{length, ◌+◌}
use Rattle.gtid.proofs.GroupMerge.{Merged}
use Rattle.gtid.proofs.groups.combine_groups.Given as goal

abbrev pub invariant-loop-source : goal.invariant-loop-source
invariant-loop-source l = Merged l.combination l.fn.left l.fn.right l.left l.right l.combined.items

abbrev pub decreases-loop-source : goal.decreases-loop-source
decreases-loop-source l = length l.left + length l.right
