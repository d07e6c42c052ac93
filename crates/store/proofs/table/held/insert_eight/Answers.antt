use Rattle.std.proofs.Common.{◌≡◌, refl, length, arith}
use Rattle.sqlite.specs.Held.{state}
use Rattle.store.proofs.Done.{taken, no_fault, done_slice}
use Rattle.store.proofs.Keeps.{stays_inserted}
use Rattle.store.proofs.table.held.insert_eight.Goals as goal

pub returns-clause-inserts : goal.returns-clause-inserts
returns-clause-inserts g c clean was =
    let xs = c.args.images.now in
    let eight : length xs ≡ 8 = omega (arith, c.in-len8.len_at_least, c.in-len8.len_below) in
    done_slice (state g.S.Store c.args.tx.now.conn.now) (state g.S.Store c.execute.new.self.conn.now) was c.args.schema.now c.args.table.now xs _ eight c.execute.result c.inserted.result
    c.inserted.ensures.ok c.inserted.ensures.taken (c.execute.ensures.runs clean (rw was.inside refl))

pub returns-clause-stays : goal.returns-clause-stays
returns-clause-stays g c = stays_inserted g.S.Store c.args.tx.now.conn c.execute.new.self.conn _ _ c.execute.result c.execute.ensures.same_reference c.execute.ensures.ended c.execute.ensures.runs c.execute.ensures.survives c.inserted.result taken no_fault c.inserted.ensures.ok c.inserted.ensures.taken
