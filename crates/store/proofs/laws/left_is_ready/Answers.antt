use Rattle.sqlite.specs.Held.{state}
use Rattle.store.proofs.CrashOpenings.{left_ready}
use Rattle.store.proofs.laws.left_is_ready.Goals as goal

pub returns : goal.returns
returns g c only names content over = left_ready only names content (state g.S.Store c.args.conn.now) over.is_open over.settled (c.schema.ensures.live over.is_open).0 over.left
