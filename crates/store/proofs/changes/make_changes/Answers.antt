use Rattle.store.proofs.Names.{IsTrue, rules, Adds}
use Rattle.sqlite.specs.Held.{state}
use Rattle.store.specs.AnyOrder.{AreInserts, keys_in}
use Rattle.store.proofs.AnyOrder.{some_images, inserts_done}
use Rattle.store.proofs.changes.make_changes.Goals as goal

pub insert_all-requires : goal.insert_all-requires
insert_all-requires g c =
    let are : AreInserts c.args.filter.now c.args.changes.now c.in-Some.sorted.now = rw c.in-Some.is at c.requires in
    rw c.as_slice.ensures.value (some_images c.args.filter.now c.args.changes.now c.in-Some.sorted.now are)

pub returns-clause-does : goal.returns-clause-does
returns-clause-does g c clean was =
    let old = state g.S.Store c.args.tx.now.conn.now in
    let new = state g.S.Store c.insert_all.new.tx.conn.now in
    let names = c.args.filter.now in
    let changes = c.args.changes.now in
    let sorted = c.in-Some.sorted.now in
    let are : AreInserts names changes sorted = rw c.in-Some.is at c.requires in
    let added : IsTrue c.in_ok-insert_all.field-0 = search rules in
    let raised : Adds (keys_in sorted) old new = (rw c.as_slice.ensures.value at (c.in_ok-insert_all.ensures.adds clean was)) added in
    (raised.0, inserts_done names changes sorted are _ _ raised.1)
