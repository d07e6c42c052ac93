use Rattle.gtid.proofs.Names.{interval_bytes, block_bytes, of_group}
use Rattle.gtid.specs.Blocks.{pair}
use Rattle.gtid.proofs.Appending.{Writes}
use Rattle.gtid.proofs.ByteLists.{bytes_from}
use Rattle.gtid.proofs.encoding.write_group.Given as goal

abbrev pub invariant-loop-interval : goal.invariant-loop-interval
invariant-loop-interval l = Writes l.fn.out l.out (bytes_from interval_bytes pair l.group.intervals.items l.interval-index) (block_bytes (of_group l.group))
