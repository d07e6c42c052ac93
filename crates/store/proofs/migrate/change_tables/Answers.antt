use Rattle.store.proofs.Names.{arith, HasCleanDisk}
use Rattle.sqlite.specs.Held.{state}
use Rattle.store.proofs.migrate.change_tables.Goals as goal

pub returns-clause-migrated : goal.returns-clause-migrated
returns-clause-migrated g c content clean was =
    let third : HasCleanDisk (state g.S.Store c.make_follow.new.tx.conn.now) = omega (arith, c.raise_layout.ensures.stays.survives.clean) in
    let second : HasCleanDisk (state g.S.Store c.make_spans.new.tx.conn.now) = omega (arith, c.make_follow.ensures.stays.survives.clean, third) in
    let first : HasCleanDisk (state g.S.Store c.drop_executed.new.tx.conn.now) = omega (arith, c.make_spans.ensures.stays.survives.clean, second) in
    let dropped = c.in_ok-drop_executed.ensures.migrated content first was in
    c.in_ok-raise_layout.ensures.migrated content clean (c.in_ok-make_follow.ensures.migrated content third (c.in_ok-make_spans.ensures.migrated content second dropped))
