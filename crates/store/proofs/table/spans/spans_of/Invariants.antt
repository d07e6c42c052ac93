use Rattle.store.proofs.Names.{take, map, ◌≡◌, AllByRecursion, IsSpanRow, span_in}
use Rattle.store.proofs.table.spans.spans_of.Given as goal

abbrev pub invariant-loop-row : goal.invariant-loop-row
invariant-loop-row l = record {
  lawful : AllByRecursion IsSpanRow (take l.row-index l.rows);
  so_far : l.spans.items ≡ map span_in (take l.row-index l.rows);
}
