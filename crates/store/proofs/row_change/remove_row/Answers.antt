use Rattle.sqlite.specs.Held.{state}
use Rattle.gather.specs.Image.{IsImage}
use Rattle.store.proofs.Bags.{removed_if}
use Rattle.store.proofs.row_change.remove_row.Goals as goal

pub returns-clause-makes : goal.returns-clause-makes
returns-clause-makes g c clean was =
    let is : IsImage c.args.image.now c.of.result.image.now = c.of.ensures.image in
    removed_if c.args.table.now.schema.items c.args.table.now.table.items c.args.image.now c.of.result.image.now is (state g.S.Store c.args.tx.now.conn.now) (state g.S.Store c.remove.new.tx.conn.now) c.remove.result
    (rw (c.of.ensures.schema, c.of.ensures.table) at (c.remove.ensures.counted clean was))
