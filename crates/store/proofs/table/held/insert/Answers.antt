use Rattle.store.proofs.Names.{[], ◌∷◌, refl, insert_text, key_in}
use Rattle.sqlite.specs.Held.{state}
use Rattle.store.proofs.Selects.{key_params}
use Rattle.store.proofs.Keeps.{stays_inserted}
use Rattle.store.proofs.Done.{taken, no_fault, done_inserted, done_insert}
use Rattle.store.proofs.table.held.insert.Goals as goal

pub returns-clause-inserts : goal.returns-clause-inserts
returns-clause-inserts g c clean was =
    let old = state g.S.Store c.args.tx.now.conn.now in
    let new = state g.S.Store c.execute-outcome.new.self.conn.now in
    let key = key_in c.args.row.now in
    done_inserted insert_text (key_params key []) (key ∷ []) old new c.execute-outcome.result c.inserted.result c.inserted.ensures.ok c.inserted.ensures.taken (done_insert old new key was) (c.execute-outcome.ensures.runs clean (rw was.inside refl))

pub returns-clause-stays : goal.returns-clause-stays
returns-clause-stays g c = stays_inserted g.S.Store c.args.tx.now.conn c.execute-outcome.new.self.conn _ _ c.execute-outcome.result c.execute-outcome.ensures.same_reference c.execute-outcome.ensures.ended c.execute-outcome.ensures.runs c.execute-outcome.ensures.survives c.inserted.result taken no_fault c.inserted.ensures.ok c.inserted.ensures.taken
