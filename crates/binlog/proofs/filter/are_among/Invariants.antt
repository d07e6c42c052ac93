use Rattle.binlog.proofs.Names.{take, AreAmong, name_list}
use Rattle.binlog.proofs.filter.are_among.Given as goal

abbrev pub invariant-loop-name : goal.invariant-loop-name
invariant-loop-name l = AreAmong (name_list (take l.name-index l.names)) (name_list l.of)
