use Rattle.store.proofs.Names.{take, map, ◌≡◌, AllByRecursion, IsExecutedRow, id_in, span_of_id}
use Rattle.store.proofs.table.executed.ids_of.Given as goal

abbrev pub invariant-loop-row : goal.invariant-loop-row
invariant-loop-row l = record {
  lawful : AllByRecursion IsExecutedRow (take l.row-index l.rows);
  so_far : l.spans.items ≡ map (λ r. span_of_id (id_in r)) (take l.row-index l.rows);
}
