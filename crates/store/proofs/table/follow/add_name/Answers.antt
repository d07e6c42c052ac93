use Rattle.std.proofs.Common.{refl}
use Rattle.sqlite.specs.Held.{state}
use Rattle.store.proofs.CreateTables.{done_name, done_added}
use Rattle.store.proofs.Keeps.{stays_executed}
use Rattle.store.proofs.table.follow.add_name.Goals as goal

pub returns-clause-named : goal.returns-clause-named
returns-clause-named g c names clean was =
    done_name (state g.S.Store c.args.tx.now.conn.now) (state g.S.Store c.execute.new.self.conn.now) names (c.args.schema.now, c.args.table.now) c.execute.result was (c.execute.ensures.runs clean (rw was.inside refl))

pub returns-clause-added : goal.returns-clause-added
returns-clause-added g c names clean was were =
    done_added (state g.S.Store c.args.tx.now.conn.now) (state g.S.Store c.execute.new.self.conn.now) names (c.args.schema.now, c.args.table.now) c.execute.result was were (c.execute.ensures.runs clean (rw was.inside refl))

pub returns-clause-stays : goal.returns-clause-stays
returns-clause-stays g c = stays_executed g.S.Store c.args.tx.now.conn c.execute.new.self.conn _ _ c.execute.result c.execute.ensures.same_reference c.execute.ensures.ended c.execute.ensures.runs c.execute.ensures.survives
