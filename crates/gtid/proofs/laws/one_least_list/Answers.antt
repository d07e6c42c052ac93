use Rattle.gtid.proofs.OneLeastList.{one_least_list}
use Rattle.gtid.proofs.SomeLeastList.{some_least_list}
use Rattle.gtid.proofs.laws.one_least_list.Goals as goal

pub returns : goal.returns
returns c = record { some = some_least_list; one = one_least_list }
