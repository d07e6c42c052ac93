use Rattle.replica.proofs.Names.{◌≡◌, false, take, AllByRecursion, Name, name_list}
use Rattle.binlog.specs.Filter.{is_read}
use Rattle.replica.proofs.file.admitting.first_read.Given as goal

abbrev pub invariant-loop-name : goal.invariant-loop-name
invariant-loop-name l = AllByRecursion (λ (n : Name). is_read l.fn.following n.0 n.1 ≡ false) (name_list (take l.name-index l.name-items))
