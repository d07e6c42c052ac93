use Rattle.std.proofs.Common.{arith}
use Rattle.gtid.proofs.Within.{each}
use Rattle.gtid.proofs.interval.is_subset.Goals as goal

pub lies_in-requires-clause-some : goal.lies_in-requires-clause-some
lies_in-requires-clause-some c = (each 0 c.args.intervals.now c.loop-interval.interval-index _ c.requires.intervals (omega arith)).1
