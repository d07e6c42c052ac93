use Rattle.gtid.proofs.Names.{interval_text, block_text, of_group}
use Rattle.std.specs.String.{string_vec}
use Rattle.gtid.specs.Blocks.{pair}
use Rattle.gtid.proofs.Appending.{Writes}
use Rattle.gtid.proofs.ByteLists.{bytes_from}
use Rattle.gtid.proofs.text.print_group.Given as goal

abbrev pub invariant-loop-interval : goal.invariant-loop-interval
invariant-loop-interval l = Writes (string_vec l.fn.out) (string_vec l.out) (bytes_from interval_text pair l.group.intervals.items l.interval-index) (block_text (of_group l.group))
