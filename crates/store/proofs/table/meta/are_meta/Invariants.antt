use Rattle.store.proofs.Names.{take, AllByRecursion, IsMetaRow}
use Rattle.store.proofs.table.meta.are_meta.Given as goal

abbrev pub invariant-loop-row : goal.invariant-loop-row
invariant-loop-row l = AllByRecursion IsMetaRow (take l.row-index l.rows)
