use Rattle.std.proofs.Common.{◌≤◌, length}
use Rattle.gtid.proofs.SpanGroups.{Gathered}
use Rattle.gtid.proofs.gathering.gather_rising.Given as goal

abbrev pub invariant-loop-left : goal.invariant-loop-left
invariant-loop-left l = Gathered l.spans l.groups.items l.left × (length l.left ≤ length l.spans)

abbrev pub decreases-loop-left : goal.decreases-loop-left
decreases-loop-left l = length l.left
