use Rattle.sqlite.specs.Held.{state}
use Rattle.gather.specs.Image.{IsImage, IsSomeImage}
use Rattle.store.proofs.Bags.{added_if}
use Rattle.store.proofs.row_change.add_row.Goals as goal

pub returns-clause-makes : goal.returns-clause-makes
returns-clause-makes g c clean was =
    let is : IsImage c.args.image.now c.of.result.image.now = c.of.ensures.image in
    let stored : IsSomeImage c.of.result.image.now = record { cells = c.args.image.now; is_image = is } in
    added_if c.args.table.now.schema.items c.args.table.now.table.items c.args.image.now c.of.result.image.now is (state g.S.Store c.args.tx.now.conn.now) (state g.S.Store c.add.new.tx.conn.now) c.add.result
    (rw (c.of.ensures.schema, c.of.ensures.table) at (c.add.ensures.counted clean was stored))
