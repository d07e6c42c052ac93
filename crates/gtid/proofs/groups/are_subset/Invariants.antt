use Rattle.gtid.proofs.Names.{◌≡◌, take, true, Id, is_listed}
use Rattle.gtid.proofs.groups.are_subset.Given as goal

abbrev pub invariant-loop-group : goal.invariant-loop-group
invariant-loop-group l = (q : Id) → is_listed q (take l.group-index l.groups) ≡ true → is_listed q l.of ≡ true
