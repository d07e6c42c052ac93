use Rattle.store.proofs.Names.{◌≡◌, ap, arith, sym, subst, HasCleanDisk, span_rows}
use Rattle.sqlite.specs.Held.{state}
use Rattle.store.specs.Changes.{widened}
use Rattle.store.specs.Inside.{StoresNames, Shows}
use Rattle.store.proofs.MoreNames.{has_widened}
use Rattle.store.proofs.admit.fill.Goals as goal

pub returns-clause-fills : goal.returns-clause-fills
returns-clause-fills g c clean was were spans shows =
    let old = state g.S.Store c.args.tx.now.conn.now in
    let mid = state g.S.Store c.add_missing.new.tx.conn.now in
    let new = state g.S.Store c.replace_all.new.tx.conn.now in
    let early : HasCleanDisk mid = omega (arith, c.replace_all.ensures.stays.survives.clean) in
    let named : StoresNames old mid (widened c.args.following.now c.args.more.now) = subst (λ names. StoresNames old mid (widened c.args.following.now names)) c.names.ensures.set (c.in_ok-add_missing.ensures.named early was were) in
    has_widened old mid new (widened c.args.following.now c.args.more.now) c.args.after.now c.replace_all.result named
    (c.replace_all.ensures.records clean named.working spans (subst (λ rows. Shows rows spans c.args.executed.now) (sym named.spans) shows))
