use Rattle.store.proofs.Names.{refl, Ok, key_in}
use Rattle.sqlite.specs.Held.{state}
use Rattle.store.proofs.Keeps.{stays_executed, stays_ok}
use Rattle.store.proofs.Done.{done_delete}
use Rattle.store.proofs.table.held.delete.Goals as goal

pub returns-clause-deletes : goal.returns-clause-deletes
returns-clause-deletes g c clean was =
    done_delete (state g.S.Store c.args.tx.now.conn.now) (state g.S.Store c.execute.new.self.conn.now) (key_in c.args.row.now) was c.in_ok-deleted.deleted (c.in_ok-deleted.ensures.runs clean (rw was.inside refl))

pub returns-clause-stays : goal.returns-clause-stays
returns-clause-stays g c = stays_ok (stays_executed g.S.Store c.args.tx.now.conn c.execute.new.self.conn _ _ (Ok c.in_ok-deleted.deleted) c.execute.ensures.same_reference c.in_ok-deleted.ensures.ended c.in_ok-deleted.ensures.runs c.execute.ensures.survives)
