use Rattle.replica.proofs.Restarts.{never_falls}
use Rattle.replica.proofs.laws.restarted.Goals as goal

pub returns : goal.returns
returns c limit names history j held lefts reached steps = never_falls c.dumps.ensures.one limit names history j held lefts reached steps
