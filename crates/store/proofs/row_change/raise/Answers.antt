use Rattle.store.proofs.Names.{◌+◌, Some, arith, w64, to_z_pos, HasCleanDisk, IsUnchanged, key_in, Finds, held_rows}
use Rattle.sqlite.specs.Held.{state}
use Rattle.store.proofs.BetweenCalls.{working_same, counted_added, counted_full, counted_some, found_mid}
use Rattle.store.proofs.row_change.raise.Goals as goal

pub returns-then-n-ge-MOST-clause-counted : goal.returns-then-n-ge-MOST-clause-counted
returns-then-n-ge-MOST-clause-counted g c clean was =
    let key = key_in c.args.row.now in
    counted_full (state g.S.Store c.args.tx.now.conn.now) (state g.S.Store c.read.new.tx.conn.now) key c.in-Some.n
    (counted_some key _ c.in-Some.n (rw c.in-Some.is at (c.in_ok-n.ensures.found clean was))) c.if-n-ge-MOST.true

pub returns-clause-counted : goal.returns-clause-counted
returns-clause-counted g c clean was =
    let old = state g.S.Store c.args.tx.now.conn.now in
    let mid = state g.S.Store c.read.new.tx.conn.now in
    let new = state g.S.Store c.update.new.tx.conn.now in
    let key = key_in c.args.row.now in
    let n = c.in-Some.n in
    let early : HasCleanDisk mid = omega (arith, c.update.ensures.stays.survives.clean) in
    let same : IsUnchanged old mid = c.in_ok-n.ensures.same early was in
    let found : Finds key (held_rows old.now) (Some n) = rw c.in-Some.is at (c.in_ok-n.ensures.found early was) in
    counted_added old mid new key same n (counted_some key _ n found) (omega arith)
    (c.in_ok-update.ensures.raised clean (working_same old mid same was) n (omega arith) (found_mid old mid new key same (Some n) found) (to_z_pos w64 (n + 1) (omega arith)))
