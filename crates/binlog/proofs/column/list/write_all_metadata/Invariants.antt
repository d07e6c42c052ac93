use Rattle.binlog.proofs.Names.{flat_map, metadata}
use Rattle.gtid.proofs.Appending.{Writes}
use Rattle.binlog.proofs.column.list.write_all_metadata.Given as goal

abbrev pub invariant-loop-column : goal.invariant-loop-column
invariant-loop-column l = Writes l.fn.out l.out (flat_map metadata l.column-iterator) (flat_map metadata l.columns)
