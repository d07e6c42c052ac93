use Rattle.binlog.specs.RowsView.{rows_value}
use Rattle.gather.proofs.RowItems.{Walked}
use Rattle.gather.proofs.row_changes.push_changes.Given as goal

abbrev pub invariant-loop-pair : goal.invariant-loop-pair
invariant-loop-pair l = Walked l.table (rows_value l.event) l.pair-iterator l.fn.changes l.changes
