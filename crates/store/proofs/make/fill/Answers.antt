use Rattle.store.proofs.Names.{arith, HasCleanDisk}
use Rattle.sqlite.specs.Held.{state}
use Rattle.store.proofs.NewTables.{made_of}
use Rattle.store.proofs.make.fill.Goals as goal

pub returns-clause-made : goal.returns-clause-made
returns-clause-made g c clean was =
    let b = state g.S.Store c.set_layout.new.tx.conn.now in
    let early : HasCleanDisk b = omega (arith, c.add_names.ensures.stays.survives.clean) in
    let first : HasCleanDisk (state g.S.Store c.make_tables.new.tx.conn.now) = omega (arith, c.set_layout.ensures.stays.survives.clean, early) in
    let marked = c.in_ok-set_layout.ensures.made early (c.in_ok-make_tables.ensures.made first was) in
    made_of (state g.S.Store c.add_names.new.tx.conn.now) _ c.args.filter.now c.add_names.result c.names.ensures.set (c.add_names.ensures.named clean marked)
