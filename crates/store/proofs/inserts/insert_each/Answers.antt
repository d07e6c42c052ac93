use Rattle.store.proofs.Names.{◌<◌, length, arith, HasCleanDisk}
use Rattle.sqlite.specs.Held.{state}
use Rattle.store.specs.Rows.{key_of}
use Rattle.store.proofs.Keeps.{stays_then, stays_ok}
use Rattle.store.proofs.AnyOrder.{raises_more, raises_all}
use Rattle.store.proofs.inserts.insert_each.Goals as goal

pub loop-image-preserved : goal.loop-image-preserved
loop-image-preserved g c =
    let old = state g.S.Store c.args.tx.now.conn.now in
    let mid = state g.S.Store c.loop-image.tx.conn.now in
    let new = state g.S.Store c.add.new.tx.conn.now in
    let i = c.loop-image.image-index in
    record {
      under_way = λ clean was.
          let early : HasCleanDisk mid = omega (arith, c.add.ensures.stays.survives.clean) in
          let within : i < length c.args.images.now = c.loop-image-test.true in
          let way = c.loop-image.invariant.under_way early was in
          raises_more (λ r. key_of c.args.schema.now c.args.table.now r.now) c.args.images.now i _ within old mid new way (rw c.in_default.is at (c.in_ok-add.ensures.counted clean way.0.on.working (c.requires i _ within)));
      stays = stays_ok (stays_then c.loop-image.invariant.stays c.in_ok-add.ensures.stays);
    }

pub returns-clause-adds : goal.returns-clause-adds
returns-clause-adds g c clean was all =
    let way = c.loop-image.invariant.under_way clean was in
    (way.0, raises_all (λ r. key_of c.args.schema.now c.args.table.now r.now) c.args.images.now c.loop-image.image-index _ _ c.loop-image-test.false way.1)
