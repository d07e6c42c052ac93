use Rattle.std.proofs.Common.{◌≤◌, length, take}
use Rattle.std.specs.List.{AllByRecursion}
use Rattle.binlog.specs.Filter.{Name}
use Rattle.binlog.specs.FilterView.{name_list}
use Rattle.binlog.proofs.reading.has_short.Given as goal

abbrev pub invariant-loop-name : goal.invariant-loop-name
invariant-loop-name l = AllByRecursion (λ (n : Name). 256 ≤ length n.0) (name_list (take l.name-index l.names))
