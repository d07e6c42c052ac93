use Rattle.store.proofs.Names.{arith, HasCleanDisk}
use Rattle.sqlite.specs.Held.{state}
use Rattle.store.proofs.Keeps.{stays_then}
use Rattle.store.proofs.MigrationContent.{now_working, migrated_of}
use Rattle.store.proofs.migrate.convert.Goals as goal

pub returns-clause-made : goal.returns-clause-made
returns-clause-made g c clean content was is =
    let a = state g.S.Store c.args.tx.now.conn.now in
    let b = state g.S.Store c.change_tables.new.tx.conn.now in
    let early : HasCleanDisk b = omega (arith, c.add_all.ensures.stays.survives.clean) in
    let changed = c.in_ok-change_tables.ensures.migrated content early was in
    migrated_of content b (state g.S.Store c.add_all.new.tx.conn.now) c.spans.result c.args.executed.now c.add_all.result changed c.spans.ensures is
    (c.add_all.ensures.moves clean (now_working content b changed))

pub returns-clause-stays : goal.returns-clause-stays
returns-clause-stays g c = stays_then c.in_ok-change_tables.ensures.stays c.add_all.ensures.stays
