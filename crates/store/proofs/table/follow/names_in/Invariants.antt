use Rattle.store.proofs.Names.{take, map, ◌≡◌, AllByRecursion, IsFollowRow, name_in, name_list}
use Rattle.store.proofs.table.follow.names_in.Given as goal

abbrev pub invariant-loop-row : goal.invariant-loop-row
invariant-loop-row l = record {
  lawful : AllByRecursion IsFollowRow (take l.row-index l.rows);
  so_far : name_list l.names.items ≡ map name_in (take l.row-index l.rows);
}
