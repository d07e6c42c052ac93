use Rattle.binlog.proofs.TableColumns.{Checked}
use Rattle.binlog.proofs.column.list.check_metadata.Given as goal

abbrev pub invariant-loop-i : goal.invariant-loop-i
invariant-loop-i l = Checked l.bytes l.codes l.start l.i l.place
