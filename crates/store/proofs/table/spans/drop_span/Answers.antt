use Rattle.store.proofs.Names.{refl, w64, to_z-of_z}
use Rattle.sqlite.specs.Held.{state}
use Rattle.store.proofs.Keeps.{stays_executed}
use Rattle.store.proofs.SpanEffects.{done_drop, drop_goes}
use Rattle.store.proofs.table.spans.drop_span.Goals as goal

pub returns-clause-moves : goal.returns-clause-moves
returns-clause-moves g c clean was span others begins =
    done_drop (state g.S.Store c.args.tx.now.conn.now) (state g.S.Store c.execute.new.self.conn.now) was c.args.source.now c.args.lo span others c.execute.result begins
    (rw (to_z-of_z w64 c.args.lo c.ranges.lo) at (c.execute.ensures.runs clean (rw was.inside refl)))

pub returns-clause-goes : goal.returns-clause-goes
returns-clause-goes g c clean was =
    drop_goes (state g.S.Store c.args.tx.now.conn.now) (state g.S.Store c.execute.new.self.conn.now) was c.args.source.now c.args.lo c.execute.result
    (rw (to_z-of_z w64 c.args.lo c.ranges.lo) at (c.execute.ensures.runs clean (rw was.inside refl)))

pub returns-clause-stays : goal.returns-clause-stays
returns-clause-stays g c = stays_executed g.S.Store c.args.tx.now.conn c.execute.new.self.conn _ _ c.execute.result c.execute.ensures.same_reference c.execute.ensures.ended c.execute.ensures.runs c.execute.ensures.survives
