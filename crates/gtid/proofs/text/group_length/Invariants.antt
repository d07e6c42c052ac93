use Rattle.gtid.proofs.Names.{length, interval_text, block_text, of_group}
use Rattle.gtid.specs.Blocks.{pair}
use Rattle.gtid.proofs.Appending.{Sums}
use Rattle.gtid.proofs.ByteLists.{bytes_from}
use Rattle.gtid.proofs.text.group_length.Given as goal

abbrev pub invariant-loop-interval : goal.invariant-loop-interval
invariant-loop-interval l = Sums l.sum (length (bytes_from interval_text pair l.group.intervals.items l.interval-index)) (length (block_text (of_group l.group)))
