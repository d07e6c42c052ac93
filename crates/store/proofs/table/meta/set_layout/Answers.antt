use Rattle.std.proofs.Common.{refl}
use Rattle.sqlite.specs.Held.{state}
use Rattle.store.proofs.CreateTables.{done_layout}
use Rattle.store.proofs.Keeps.{stays_executed}
use Rattle.store.proofs.table.meta.set_layout.Goals as goal

pub returns-clause-made : goal.returns-clause-made
returns-clause-made g c clean was =
    done_layout (state g.S.Store c.args.tx.now.conn.now) (state g.S.Store c.execute.new.self.conn.now) c.execute.result was (c.execute.ensures.runs clean (rw was.inside refl))

pub returns-clause-stays : goal.returns-clause-stays
returns-clause-stays g c = stays_executed g.S.Store c.args.tx.now.conn c.execute.new.self.conn _ _ c.execute.result c.execute.ensures.same_reference c.execute.ensures.ended c.execute.ensures.runs c.execute.ensures.survives
