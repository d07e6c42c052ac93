use Rattle.gtid.proofs.Names.{block_bytes, blocks_bytes, of_group}
use Rattle.gtid.specs.Blocks.{blocks}
use Rattle.gtid.proofs.Appending.{Writes}
use Rattle.gtid.proofs.ByteLists.{bytes_from}
use Rattle.gtid.proofs.encoding.write_groups.Given as goal

abbrev pub invariant-loop-group : goal.invariant-loop-group
invariant-loop-group l = Writes l.fn.out l.out (bytes_from block_bytes of_group l.groups l.group-index) (blocks_bytes (blocks l.groups))
