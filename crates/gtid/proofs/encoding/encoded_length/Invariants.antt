use Rattle.gtid.proofs.Names.{length, block_bytes, blocks_bytes, of_group}
use Rattle.gtid.specs.Blocks.{blocks}
use Rattle.gtid.proofs.Appending.{Sums}
use Rattle.gtid.proofs.ByteLists.{bytes_from}
use Rattle.gtid.proofs.encoding.encoded_length.Given as goal

abbrev pub invariant-loop-group : goal.invariant-loop-group
invariant-loop-group l = Sums l.sum (length (bytes_from block_bytes of_group l.groups l.group-index)) (length (blocks_bytes (blocks l.groups)))
