use Rattle.store.proofs.Names.{◌≡◌, ◌≢◌, ◌+◌, ◌-◌, ◌<◌, Some, None, subst, ◌∙◌, ◌^◌, arith, w64, to_z_pos, HasCleanDisk, IsUnchanged, key_in, Finds, held_rows}
use Rattle.sqlite.specs.Held.{state}
use Rattle.store.proofs.BetweenCalls.{working_same, counted_removed, counted_missing, counted_none, counted_some, found_mid}
use Rattle.store.proofs.row_change.lower.Goals as goal

pub returns-in_default-clause-counted : goal.returns-in_default-clause-counted
returns-in_default-clause-counted g c clean was several =
    let key = key_in c.args.row.now in
    let old = state g.S.Store c.args.tx.now.conn.now in
    let found : Finds key (held_rows old.now) None = rw c.in_default.is at (c.in_ok-n.ensures.found clean was) in
    counted_missing old (state g.S.Store c.read.new.tx.conn.now) key (counted_none key _ found)

pub returns-then-n-eq0-clause-counted : goal.returns-then-n-eq0-clause-counted
returns-then-n-eq0-clause-counted g c clean was several =
    let key = key_in c.args.row.now in
    let old = state g.S.Store c.args.tx.now.conn.now in
    let found : Finds key (held_rows old.now) (Some c.in-Some.n) = rw c.in-Some.is at (c.in_ok-n.ensures.found clean was) in
    counted_missing old (state g.S.Store c.read.new.tx.conn.now) key (counted_some key _ c.in-Some.n found ∙ c.if-n-eq0.true)

pub returns-clause-counted : goal.returns-clause-counted
returns-clause-counted g c clean was several =
    let old = state g.S.Store c.args.tx.now.conn.now in
    let mid = state g.S.Store c.read.new.tx.conn.now in
    let new = state g.S.Store c.update.new.tx.conn.now in
    let key = key_in c.args.row.now in
    let n = c.in-Some.n in
    let early : HasCleanDisk mid = omega (arith, c.update.ensures.stays.survives.clean) in
    let same : IsUnchanged old mid = c.in_ok-n.ensures.same early was in
    let some : Finds key (held_rows old.now) (Some n) = rw c.in-Some.is at (c.in_ok-n.ensures.found early was) in
    let not_one : n ≢ 1 = λ one. several (counted_some key _ n some ∙ one) in
    let more : n ≡ (n - 1) + 1 = omega arith in
    let found : Finds key (held_rows old.now) (Some ((n - 1) + 1)) = subst (λ m. Finds key (held_rows old.now) (Some m)) more some in
    counted_removed old mid new key same n (counted_some key _ n some) (omega arith)
    (c.in_ok-update.ensures.lowered clean (working_same old mid same was) (n - 1) (omega (arith, not_one)) (let low : n < 2 ^ 63 = rw c.in-Some.is at c.in_ok-n.ensures.fits in omega arith) (found_mid old mid new key same (Some ((n - 1) + 1)) found) (to_z_pos w64 (n - 1) (let low : n < 2 ^ 63 = rw c.in-Some.is at c.in_ok-n.ensures.fits in omega arith)))
