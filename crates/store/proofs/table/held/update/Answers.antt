use Rattle.store.proofs.Names.{refl, w64, to_z-of_z, key_in}
use Rattle.sqlite.specs.Held.{state}
use Rattle.store.proofs.Keeps.{stays_executed}
use Rattle.store.proofs.Done.{done_raise, done_lower}
use Rattle.store.proofs.table.held.update.Goals as goal

pub returns-clause-raised : goal.returns-clause-raised
returns-clause-raised g c clean was m high found is =
    done_raise (state g.S.Store c.args.tx.now.conn.now) (state g.S.Store c.execute.new.self.conn.now) (key_in c.args.row.now) was m c.args.n c.execute.result high found is
    (rw (to_z-of_z w64 c.args.n c.ranges.n) at (c.execute.ensures.runs clean (rw was.inside refl)))

pub returns-clause-lowered : goal.returns-clause-lowered
returns-clause-lowered g c clean was m low high found is =
    done_lower (state g.S.Store c.args.tx.now.conn.now) (state g.S.Store c.execute.new.self.conn.now) (key_in c.args.row.now) was m c.args.n c.execute.result low high found is
    (rw (to_z-of_z w64 c.args.n c.ranges.n) at (c.execute.ensures.runs clean (rw was.inside refl)))

pub returns-clause-stays : goal.returns-clause-stays
returns-clause-stays g c = stays_executed g.S.Store c.args.tx.now.conn c.execute.new.self.conn _ _ c.execute.result c.execute.ensures.same_reference c.execute.ensures.ended c.execute.ensures.runs c.execute.ensures.survives
