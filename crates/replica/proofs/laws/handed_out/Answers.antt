use Rattle.replica.proofs.FollowEnds.{over-out}
use Rattle.replica.proofs.laws.handed_out.Goals as goal

pub returns : goal.returns
returns g c schema pos out h s = over-out g.S.Store c.args._before.now c.args._after.now c.args._store.now schema pos out h s
