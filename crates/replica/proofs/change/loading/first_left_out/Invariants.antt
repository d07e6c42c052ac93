use Rattle.replica.proofs.Names.{◌≡◌, true, take, AllByRecursion, Name, name_list}
use Rattle.replica.specs.Copies.{is_had}
use Rattle.replica.proofs.change.loading.first_left_out.Given as goal

abbrev pub invariant-loop-name : goal.invariant-loop-name
invariant-loop-name l = AllByRecursion (λ (n : Name). is_had l.fn.kept l.fn.following n.0 n.1 ≡ true) (name_list (take l.name-index l.name-items))
