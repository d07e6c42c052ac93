use Rattle.std.proofs.Common.{◌≡◌, ◌++◌, drop}
use Rattle.binlog.specs.FilterView.{name_list}
use Rattle.binlog.proofs.filter.copy_all.Given as goal

abbrev pub invariant-loop-name : goal.invariant-loop-name
invariant-loop-name l = name_list l.copied.items ++ name_list (drop l.name-index l.names) ≡ name_list l.names
