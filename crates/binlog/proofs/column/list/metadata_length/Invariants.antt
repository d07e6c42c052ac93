use Rattle.binlog.proofs.Names.{◌≡◌, ◌+◌, length, flat_map, metadata}
use Rattle.binlog.proofs.column.list.metadata_length.Given as goal

abbrev pub invariant-loop-column : goal.invariant-loop-column
invariant-loop-column l = l.sum + length (flat_map metadata l.column-iterator) ≡ length (flat_map metadata l.columns)
