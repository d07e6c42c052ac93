use Rattle.binlog.proofs.TableColumns.{Summed}
use Rattle.binlog.proofs.column.list.sum_of_metadata.Given as goal

abbrev pub invariant-loop-i : goal.invariant-loop-i
invariant-loop-i l = Summed l.codes l.place l.i l.sum
