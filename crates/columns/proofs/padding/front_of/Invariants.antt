use Rattle.std.proofs.Common.{length, Some}
use Rattle.columns.specs.Padding.{IsPadded}
use Rattle.columns.proofs.padding.front_of.Given as goal

abbrev pub invariant-loop-front : goal.invariant-loop-front
invariant-loop-front l = IsPadded (Some l.pad) l.left l.bytes

abbrev pub decreases-loop-front : goal.decreases-loop-front
decreases-loop-front l = length l.left
