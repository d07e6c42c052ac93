use Rattle.std.proofs.Common.{◌+◌, length}
use Rattle.gtid.proofs.IntervalUnion.{Cut}
use Rattle.gtid.proofs.combination.difference.Given as goal

abbrev pub invariant-loop-pieces : goal.invariant-loop-pieces
invariant-loop-pieces l = Cut l.fn.left l.fn.right l.pieces l.cuts l.kept.items l.done

abbrev pub decreases-loop-pieces : goal.decreases-loop-pieces
decreases-loop-pieces l = length l.pieces + length l.cuts
