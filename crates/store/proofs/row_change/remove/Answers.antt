use Rattle.store.proofs.Names.{◌≢◌, sym, ap, ◌∙◌, arith, HasCleanDisk, key_in, held_rows, count, HasCounts}
use Rattle.sqlite.specs.Held.{state}
use Rattle.store.proofs.Keeps.{stays_then}
use Rattle.store.proofs.BetweenCalls.{counted_one, counted_left}
use Rattle.store.proofs.row_change.remove.Goals as goal

pub returns-then-branch-clause-counted : goal.returns-then-branch-clause-counted
returns-then-branch-clause-counted g c clean was =
    let it = rw c.if-branch.true at (c.in_ok-delete.ensures.deletes clean was) in
    counted_one (state g.S.Store c.args.tx.now.conn.now) (state g.S.Store c.delete.new.tx.conn.now) (key_in c.args.row.now) it.0 it.1

pub returns-clause-counted : goal.returns-clause-counted
returns-clause-counted g c clean was =
    let old = state g.S.Store c.args.tx.now.conn.now in
    let mid = state g.S.Store c.delete.new.tx.conn.now in
    let key = key_in c.args.row.now in
    let early : HasCleanDisk mid = omega (arith, c.lower.ensures.stays.survives.clean) in
    let left : (count (held_rows old.now) key ≢ 1) × HasCounts old mid (count (held_rows old.now)) = rw c.if-branch.false at (c.in_ok-delete.ensures.deletes early was) in
    counted_left old mid (state g.S.Store c.lower.new.tx.conn.now) key c.lower.result left.1 (c.lower.ensures.counted clean left.1.on.working (λ one. left.0 (ap (λ f. f key) (sym left.1.counts_are) ∙ one)))

pub returns-clause-stays : goal.returns-clause-stays
returns-clause-stays g c = stays_then c.in_ok-delete.ensures.stays c.lower.ensures.stays
