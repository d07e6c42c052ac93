use Rattle.gtid.proofs.Names.{◌++◌, codes, length, join_by, block_text, of_group}
use Rattle.gtid.specs.Blocks.{blocks}
use Rattle.gtid.proofs.Appending.{Sums}
use Rattle.gtid.proofs.ByteLists.{bytes_from}
use Rattle.gtid.proofs.text.text_length.Given as goal

abbrev pub invariant-loop-group : goal.invariant-loop-group
invariant-loop-group l = Sums l.sum (length (bytes_from (λ b. codes "," ++ block_text b) of_group l.rest l.group-index)) (length (join_by block_text (codes ",") (blocks l.groups)))
