use Rattle.std.proofs.Common.{◌≡◌, ◌++◌, map, drop}
use Rattle.binlog.specs.Filter.{unkept_name}
use Rattle.binlog.specs.FilterView.{name_list}
use Rattle.binlog.proofs.reading.mark_all.Given as goal

abbrev pub invariant-loop-name : goal.invariant-loop-name
invariant-loop-name l = name_list l.all.items ++ map unkept_name (name_list (drop l.name-index l.names)) ≡ map unkept_name (name_list l.names)
