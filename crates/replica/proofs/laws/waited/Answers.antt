use Rattle.std.proofs.Common.{Some, refl}
use Rattle.replica.proofs.WaitSets.{waits_of, all_there, too_few}
use Rattle.replica.proofs.laws.waited.Goals as goal

pub returns-clause-none : goal.returns-clause-none
returns-clause-none c names old new was is ends wanted noted wants none = all_there names old new was is ends wanted noted wants none

pub returns-clause-left : goal.returns-clause-left
returns-clause-left c names old new executed wanted left notices leads waits = waits_of names old executed notices new (Some wanted) wanted left refl leads waits

pub returns-clause-missed : goal.returns-clause-missed
returns-clause-missed c names old mid executed wanted left notices more d leads missed = too_few names old executed notices mid wanted left d more leads missed
