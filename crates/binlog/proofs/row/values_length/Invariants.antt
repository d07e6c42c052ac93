use Rattle.binlog.proofs.Names.{length, owned_values, kinds, values_bytes}
use Rattle.binlog.proofs.RowWriting.{values_from}
use Rattle.gtid.proofs.Appending.{Sums}
use Rattle.binlog.proofs.row.values_length.Given as goal

abbrev pub invariant-loop-i : goal.invariant-loop-i
invariant-loop-i l = Sums l.sum (length (values_from l.types l.cells l.i)) (length (values_bytes (kinds l.types) (owned_values l.cells)))
