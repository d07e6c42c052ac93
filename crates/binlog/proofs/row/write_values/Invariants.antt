use Rattle.binlog.proofs.Names.{owned_values, kinds, values_bytes}
use Rattle.gtid.proofs.Appending.{Writes}
use Rattle.binlog.proofs.RowWriting.{values_from}
use Rattle.binlog.proofs.row.write_values.Given as goal

abbrev pub invariant-loop-i : goal.invariant-loop-i
invariant-loop-i l = Writes l.fn.out l.out (values_from l.types l.cells l.i) (values_bytes (kinds l.types) (owned_values l.cells))
