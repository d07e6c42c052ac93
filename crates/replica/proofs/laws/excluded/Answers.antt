use Rattle.replica.proofs.Notices.{excluded}
use Rattle.replica.proofs.laws.excluded.Goals as goal

pub returns : goal.returns
returns c names old new was is ends since out left l = excluded names old new was is ends since out left l
