use Rattle.std.proofs.Common.{◌+◌, length}
use Rattle.gtid.proofs.OnePass.{ApartOnward}
use Rattle.gtid.proofs.interval.are_apart_in_one_pass.Given as goal

abbrev pub invariant-loop-parts : goal.invariant-loop-parts
invariant-loop-parts l = ApartOnward l.fn.intervals l.fn.of l.parts l.left

abbrev pub decreases-loop-parts : goal.decreases-loop-parts
decreases-loop-parts l = length l.parts + length l.left
