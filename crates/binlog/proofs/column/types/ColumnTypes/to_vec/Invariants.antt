use Rattle.binlog.proofs.Names.{◌≡◌, ◌++◌, kinds}
use Rattle.binlog.proofs.column.types.ColumnTypes.to_vec.Given as goal

abbrev pub invariant-loop-column : goal.invariant-loop-column
invariant-loop-column l = kinds l.types.items ++ l.column-iterator ≡ l.self
