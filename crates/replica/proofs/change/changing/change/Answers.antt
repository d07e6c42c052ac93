use Rattle.replica.proofs.Names.{false, refl, sym, subst, adopted, HasChanged}
use Rattle.store.specs.Store.{Holds}
use Rattle.replica.proofs.ChangeFiles.{unless_begun, since_likewise}
use Rattle.replica.proofs.InOrder.{not_adopted}
use Rattle.replica.proofs.Notices.{excludes_by}
use Rattle.replica.proofs.Keeps.{store_then, since_opened, since_then}
use Rattle.replica.proofs.change.changing.change.Goals as goal

pub returns-in-Ok-clause-changes : goal.returns-in-Ok-clause-changes
returns-in-Ok-clause-changes g c clean old holds =
    let whole : Holds g.S.Store c.adopt.new.self (adopted old c.args.gtids.now) = c.in-Ok.ensures.adopts (c.apply_all.ensures.keeps.store.clean clean) old holds in
    subst (λ n. HasChanged g.S.Store n c.apply_all.new.store old c.args.gtids.now (g.I.Deliveries.supply c.args.deliveries.now) c.apply_all.result.0 c.apply_all.result.1) c.adopt.ensures.rest.following
    (c.apply_all.ensures.changes clean old c.args.gtids.now whole)

pub returns-in-Err-clause-changes : goal.returns-in-Err-clause-changes
returns-in-Err-clause-changes g c clean old holds =
    not_adopted g.S.Store c.args.store.now c.adopt.new.self old c.args.gtids.now (g.I.Deliveries.supply c.args.deliveries.now) c.in-Err.fault c.adopt.ensures.rest.following (c.in-Err.ensures.adopts clean old holds) (c.in-Err.ensures.crash clean old holds)

pub returns-in-Ok-clause-notes : goal.returns-in-Ok-clause-notes
returns-in-Ok-clause-notes g c clean old holds begun =
    let whole : Holds g.S.Store c.adopt.new.self (adopted old c.args.gtids.now) = c.in-Ok.ensures.adopts (c.apply_all.ensures.keeps.store.clean clean) old holds in
    let since = since_then g.S.Store (λ some. absurd (some refl)) refl (λ some. absurd (some refl)) (since_opened g.S.Store c.executed.ensures.value c.opened.ensures.noticed (excludes_by (g.W.Observer.account c.args.observer.now) (g.W.Observer.account c.opened.new.self) c.executed.result.now c.following.ensures c.opened.ensures.excludes)) c.apply_all.ensures.keeps in
    since_likewise g.S.Store c.args.store.now c.adopt.new.self c.apply_all.new.store (adopted old c.args.gtids.now) (g.W.Observer.account c.args.observer.now) (g.W.Observer.account c.apply_all.new.observer) c.adopt.ensures.rest.following
    (since.notes clean false (adopted old c.args.gtids.now) whole)

pub returns-in-Err-clause-notes : goal.returns-in-Err-clause-notes
returns-in-Err-clause-notes g c clean old holds begun = absurd begun

pub returns-in-Ok-clause-heeds : goal.returns-in-Ok-clause-heeds
returns-in-Ok-clause-heeds g c clean old holds on begun =
    let begin = adopted old c.args.gtids.now in
    let whole : Holds g.S.Store c.adopt.new.self begin = c.in-Ok.ensures.adopts (c.apply_all.ensures.keeps.store.clean clean) old holds in
    subst (λ s. Holds g.S.Store s begin) (sym (c.apply_all.ensures.keeps.heeds false begin whole (c.opened.ensures.noticed.stays on))) whole

pub returns-in-Err-clause-heeds : goal.returns-in-Err-clause-heeds
returns-in-Err-clause-heeds g c clean old holds on begun = absurd begun

pub returns-in-Ok-clause-unreported : goal.returns-in-Ok-clause-unreported
returns-in-Ok-clause-unreported g c = unless_begun c.apply_all.result.1 _ c.apply_all.ensures.begun

pub returns-in-Ok-clause-keeps : goal.returns-in-Ok-clause-keeps
returns-in-Ok-clause-keeps g c = store_then g.S.Store (record { following = c.adopt.ensures.rest.following; broken = λ b. (c.adopt.ensures.broken b).1; clean = c.adopt.ensures.rest.clean }) c.apply_all.ensures.keeps.store
