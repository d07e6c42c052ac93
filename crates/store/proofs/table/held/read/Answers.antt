use Rattle.sqlite.specs.Held.{state}
use Rattle.store.specs.Rows.{key_in, held_rows}
use Rattle.store.proofs.Done.{found_any}
use Rattle.store.proofs.table.held.read.Goals as goal

pub returns-clause-found : goal.returns-clause-found
returns-clause-found g c clean was =
    found_any (key_in c.args.row.now) (held_rows (state g.S.Store c.args.tx.now.conn.now).now) c.in_ok-rows.rows.items c.one_count.result
    (c.in_ok-rows.ensures.shown clean was) (rw c.as_slice.ensures.value at c.one_count.ensures.is)
