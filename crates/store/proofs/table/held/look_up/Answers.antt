use Rattle.sqlite.specs.Held.{state}
use Rattle.store.specs.Rows.{key_in}
use Rattle.store.proofs.Done.{done_read, done_same}
use Rattle.store.proofs.Keeps.{stays_shown}
use Rattle.store.proofs.table.held.look_up.Goals as goal

pub returns-clause-shown : goal.returns-clause-shown
returns-clause-shown g c clean was =
    done_read (state g.S.Store c.args.tx.now.conn.now) (state g.S.Store c.query_all.new.self.conn.now) (key_in c.args.row.now) was (λ v. v.items) c.query_all.result (c.query_all.ensures.ok clean)

pub returns-clause-same : goal.returns-clause-same
returns-clause-same g c clean was =
    done_same (state g.S.Store c.args.tx.now.conn.now) (state g.S.Store c.query_all.new.self.conn.now) (key_in c.args.row.now) was (λ v. v.items) c.query_all.result (c.query_all.ensures.ok clean)

pub returns-clause-stays : goal.returns-clause-stays
returns-clause-stays g c = stays_shown g.S.Store c.args.tx.now.conn c.query_all.new.self.conn (λ v. v.items) _ _ c.query_all.result c.query_all.ensures.same_reference c.query_all.ensures.ok c.query_all.ensures.err c.query_all.ensures.survives
