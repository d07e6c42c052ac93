use Rattle.binlog.proofs.RowCells.{Reached}
use Rattle.binlog.proofs.row.row_end.Given as goal

abbrev pub invariant-loop-i : goal.invariant-loop-i
invariant-loop-i l = Reached l.types l.bytes l.bitmap l.i l.place
