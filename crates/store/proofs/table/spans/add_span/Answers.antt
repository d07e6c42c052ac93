use Rattle.store.proofs.Names.{refl, w64, to_z-of_z}
use Rattle.sqlite.specs.Held.{state}
use Rattle.store.proofs.Keeps.{stays_executed}
use Rattle.store.proofs.SpanEffects.{done_add}
use Rattle.store.proofs.table.spans.add_span.Goals as goal

pub returns-clause-moves : goal.returns-clause-moves
returns-clause-moves g c clean was =
    done_add (state g.S.Store c.args.tx.now.conn.now) (state g.S.Store c.execute.new.self.conn.now) was c.args.source.now c.args.lo c.args.hi c.execute.result
    (rw (to_z-of_z w64 c.args.lo c.ranges.lo, to_z-of_z w64 c.args.hi c.ranges.hi) at (c.execute.ensures.runs clean (rw was.inside refl)))

pub returns-clause-stays : goal.returns-clause-stays
returns-clause-stays g c = stays_executed g.S.Store c.args.tx.now.conn c.execute.new.self.conn _ _ c.execute.result c.execute.ensures.same_reference c.execute.ensures.ended c.execute.ensures.runs c.execute.ensures.survives
