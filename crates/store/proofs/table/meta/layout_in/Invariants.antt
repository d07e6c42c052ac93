use Rattle.std.proofs.Common.{◌≡◌, ◌++◌, drop}
use Rattle.store.specs.Judge.{layouts, found_values}
use Rattle.store.proofs.table.meta.layout_in.Given as goal

abbrev pub invariant-loop-row : goal.invariant-loop-row
invariant-loop-row l = layouts l.rows ≡ found_values l.found ++ layouts (drop l.row-index l.rows)
