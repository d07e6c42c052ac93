use Rattle.gtid.proofs.Names.{◌++◌, codes, take, join_by, AllByRecursion, IsSource, block_text, of_group}
use Rattle.std.specs.String.{string_vec}
use Rattle.gtid.specs.Blocks.{blocks}
use Rattle.gtid.proofs.Appending.{Writes}
use Rattle.gtid.proofs.ByteLists.{bytes_from}
use Rattle.gtid.proofs.text.print_groups.Given as goal

abbrev pub invariant-loop-group : goal.invariant-loop-group
invariant-loop-group l =
    Writes (string_vec l.fn.out) (string_vec l.out) (bytes_from (λ b. codes "," ++ block_text b) of_group l.rest l.group-index) (join_by block_text (codes ",") (blocks l.groups))
    × AllByRecursion (λ g. IsSource g.source) (take l.group-index l.rest)
