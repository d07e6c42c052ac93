use Rattle.std.proofs.Common.{[]}
use Rattle.sqlite.specs.Held.{state}
use Rattle.store.proofs.PlainQueries.{rests_not_run}
use Rattle.store.proofs.Keeps.{kept_not_run}
use Rattle.store.proofs.changes.check_open.Goals as goal

pub returns-in-Err-clause-rests : goal.returns-in-Err-clause-rests
returns-in-Err-clause-rests g c clean settled = rests_not_run _ [] (state g.S.Store c.args.conn.now) (state g.S.Store c.prepare.new.self) c.in-Err.error settled (c.in-Err.ensures.err clean [])

pub returns-in-Err-clause-opened : goal.returns-in-Err-clause-opened
returns-in-Err-clause-opened g c clean = (kept_not_run (state g.S.Store c.args.conn.now) (state g.S.Store c.prepare.new.self) _ [] c.in-Err.error (c.in-Err.ensures.err clean [])).was_open
