use Rattle.store.proofs.Names.{arith, HasCleanDisk, IsUnchanged, key_in}
use Rattle.sqlite.specs.Held.{state}
use Rattle.store.proofs.Keeps.{stays_then}
use Rattle.store.proofs.BetweenCalls.{working_same, counted_new, counted_since}
use Rattle.store.proofs.row_change.add.Goals as goal

pub returns-then-branch-clause-counted : goal.returns-then-branch-clause-counted
returns-then-branch-clause-counted g c clean was stored =
    counted_new (state g.S.Store c.args.tx.now.conn.now) (state g.S.Store c.insert.new.tx.conn.now) (key_in c.args.row.now) ((rw c.if-branch.true at (c.in_ok-insert.ensures.inserts clean was)) (stored, tt))

pub returns-clause-counted : goal.returns-clause-counted
returns-clause-counted g c clean was stored =
    let old = state g.S.Store c.args.tx.now.conn.now in
    let mid = state g.S.Store c.insert.new.tx.conn.now in
    let early : HasCleanDisk mid = omega (arith, c.raise.ensures.stays.survives.clean) in
    let same : IsUnchanged old mid = rw c.if-branch.false at (c.in_ok-insert.ensures.inserts early was) in
    counted_since old mid (state g.S.Store c.raise.new.tx.conn.now) (key_in c.args.row.now) c.raise.result same (c.raise.ensures.counted clean (working_same old mid same was))

pub returns-clause-stays : goal.returns-clause-stays
returns-clause-stays g c = stays_then c.in_ok-insert.ensures.stays c.raise.ensures.stays
