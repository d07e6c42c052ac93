use Rattle.std.proofs.Common.{drop, None}
use Rattle.store.specs.Judge.{RowidsRise}
use Rattle.store.proofs.table.row.ascend.Given as goal

abbrev pub invariant-loop-row : goal.invariant-loop-row
invariant-loop-row l = RowidsRise l.last (drop l.row-index l.rows) → RowidsRise None l.rows
