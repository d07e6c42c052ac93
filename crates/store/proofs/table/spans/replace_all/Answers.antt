use Rattle.store.proofs.Names.{arith, HasCleanDisk}
use Rattle.sqlite.specs.Held.{state}
use Rattle.store.proofs.SpanLists.{are_gtids, all_listed, replaced}
use Rattle.store.proofs.table.spans.replace_all.Goals as goal

pub returns-clause-lawful : goal.returns-clause-lawful
returns-clause-lawful g c = are_gtids c.args.after.now c.spans-2.result c.add_all.result c.spans-2.ensures c.numbers_in_range.ensures c.add_all.ensures.sources

pub returns-clause-records : goal.returns-clause-records
returns-clause-records g c clean was spans shows =
    let old = state g.S.Store c.args.tx.now.conn.now in
    let mid = state g.S.Store c.remove_all.new.tx.conn.now in
    let new = state g.S.Store c.add_all.new.tx.conn.now in
    let early : HasCleanDisk mid = omega (arith, c.add_all.ensures.stays.survives.clean) in
    let removed = c.in_ok-remove_all.ensures.moves early was (all_listed old c.args.executed.now spans c.spans.result shows c.spans.ensures) in
    replaced old mid new c.args.after.now c.spans-2.result c.add_all.result c.spans-2.ensures removed (c.add_all.ensures.moves clean removed.on.working)
