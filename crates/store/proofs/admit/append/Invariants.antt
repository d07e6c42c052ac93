use Rattle.std.proofs.Common.{◌≡◌, ◌++◌, drop}
use Rattle.binlog.specs.FilterView.{name_list}
use Rattle.store.proofs.admit.append.Given as goal

abbrev pub invariant-loop-name : goal.invariant-loop-name
invariant-loop-name l = name_list l.all.items ++ name_list (drop l.name-index l.names) ≡ name_list l.fn.all.items ++ name_list l.names
