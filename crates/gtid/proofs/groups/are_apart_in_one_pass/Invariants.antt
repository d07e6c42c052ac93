use Rattle.std.proofs.Common.{◌+◌, length, false}
use Rattle.gtid.proofs.OnePass.{Passed}
use Rattle.gtid.proofs.groups.are_apart_in_one_pass.Given as goal

abbrev pub invariant-loop-source : goal.invariant-loop-source
invariant-loop-source l = Passed false l.fn.groups l.fn.of l.left l.right

abbrev pub decreases-loop-source : goal.decreases-loop-source
decreases-loop-source l = length l.left + length l.right
