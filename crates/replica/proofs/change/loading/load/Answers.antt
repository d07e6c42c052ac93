use Rattle.replica.proofs.Names.{◌≡◌, [], false, refl, subst, Ids, id, adopted, HasChanged, IsLedSinceOpening}
use Rattle.replica.specs.Marks.{ended_number, given_up_number}
use Rattle.replica.specs.Copies.{with_marks}
use Rattle.replica.proofs.ChangeFiles.{since_likewise}
use Rattle.replica.proofs.LoadFiles.{refused, unadopted, marked_by}
use Rattle.replica.proofs.ClearStore.{stays_whole}
use Rattle.replica.proofs.Keeps.{store_then}
use Rattle.replica.proofs.change.loading.load.Goals as goal

pub returns-in-Ok-set_of-clause-loads : goal.returns-in-Ok-set_of-clause-loads
returns-in-Ok-set_of-clause-loads g c clean old holds =
    let j = c.in-Ok.ensures.judges (c.change-applied.ensures.keeps.clean clean) old holds (marked_by old given_up_number c.given_up_mark.result (c.executed.ensures.value false old holds) c.contains.ensures c.given_up_mark.ensures.source c.given_up_mark.ensures.number c.if-contains.false, marked_by old ended_number c.ended_mark.result (c.executed-2.ensures.value false old holds) c.contains-2.ensures c.ended_mark.ensures.source c.ended_mark.ensures.number c.if-contains-2.false) in (
      j.1,
      subst (λ (ids : Ids). HasChanged g.S.Store c.args.store.now.following c.change-applied.new.store old ids (g.I.Deliveries.supply c.args.deliveries.now) c.change-applied.result.0 c.change-applied.result.1) c.in-Ok-set_of.ensures
          (subst (λ n. HasChanged g.S.Store n c.change-applied.new.store old c.in-Ok-set_of.gtids (g.I.Deliveries.supply c.args.deliveries.now) c.change-applied.result.0 c.change-applied.result.1) c.may_load.ensures.keeps.following (c.change-applied.ensures.changes clean old j.0)),
    )

pub returns-in-Ok-set_of-clause-notes : goal.returns-in-Ok-set_of-clause-notes
returns-in-Ok-set_of-clause-notes g c clean old holds begun =
    let j = c.in-Ok.ensures.judges (c.change-applied.ensures.keeps.clean clean) old holds (marked_by old given_up_number c.given_up_mark.result (c.executed.ensures.value false old holds) c.contains.ensures c.given_up_mark.ensures.source c.given_up_mark.ensures.number c.if-contains.false, marked_by old ended_number c.ended_mark.result (c.executed-2.ensures.value false old holds) c.contains-2.ensures c.ended_mark.ensures.source c.ended_mark.ensures.number c.if-contains-2.false) in
    let is = g.W.Observer.account c.change-applied.new.observer in
    subst (λ (ids : Ids). IsLedSinceOpening g.S.Store c.args.store.now c.change-applied.new.store false (adopted old ids) (g.W.Observer.account c.args.observer.now) is []) c.in-Ok-set_of.ensures
    (since_likewise g.S.Store c.args.store.now c.may_load.new.store c.change-applied.new.store (adopted old c.in-Ok-set_of.gtids) (g.W.Observer.account c.args.observer.now) is c.may_load.ensures.keeps.following
    (c.change-applied.ensures.notes clean old j.0 begun))

pub returns-in_default-clause-loads : goal.returns-in_default-clause-loads
returns-in_default-clause-loads g c clean old holds =
    let j = c.in-Ok.ensures.judges clean old holds (marked_by old given_up_number c.given_up_mark.result (c.executed.ensures.value false old holds) c.contains.ensures c.given_up_mark.ensures.source c.given_up_mark.ensures.number c.if-contains.false, marked_by old ended_number c.ended_mark.result (c.executed-2.ensures.value false old holds) c.contains-2.ensures c.ended_mark.ensures.source c.ended_mark.ensures.number c.if-contains-2.false) in (
      j.1,
      unadopted g.S.Store c.args.store.now c.may_load.new.store old (with_marks c.args.copy.now.gtids.now (id c.args.copy.now.first)) (g.I.Deliveries.supply c.args.deliveries.now) c.may_load.ensures.keeps.following j.0 (c.may_load.ensures.crash clean old holds),
    )

pub returns-in_default-clause-notes : goal.returns-in_default-clause-notes
returns-in_default-clause-notes g c clean old holds begun = absurd begun

pub returns-in-Err-clause-loads : goal.returns-in-Err-clause-loads
returns-in-Err-clause-loads g c clean old holds =
    refused g.S.Store c.args.store.now c.may_load.new.store old c.args.copy.now.gtids.now (id c.args.copy.now.first) c.args.copy.now.tables.now c.may_load.ensures.keeps.following (c.may_load.ensures.crash clean old holds) c.in-Err.why
    (c.in-Err.ensures.judges clean old holds (marked_by old given_up_number c.given_up_mark.result (c.executed.ensures.value false old holds) c.contains.ensures c.given_up_mark.ensures.source c.given_up_mark.ensures.number c.if-contains.false, marked_by old ended_number c.ended_mark.result (c.executed-2.ensures.value false old holds) c.contains-2.ensures c.ended_mark.ensures.source c.ended_mark.ensures.number c.if-contains-2.false))

pub returns-in-Ok-set_of-clause-keeps : goal.returns-in-Ok-set_of-clause-keeps
returns-in-Ok-set_of-clause-keeps g c = store_then g.S.Store c.may_load.ensures.keeps c.change-applied.ensures.keeps

pub returns-then-contains-clause-loads : goal.returns-then-contains-clause-loads
returns-then-contains-clause-loads g c clean old holds = (
  marked_by old given_up_number c.given_up_mark.result (c.executed.ensures.value false old holds) c.contains.ensures c.given_up_mark.ensures.source c.given_up_mark.ensures.number c.if-contains.true,
  stays_whole g.S.Store (λ h db is_open may. g.met.S.Store.settled h.store db is_open may) c.args.store.now old (λ left. left ≡ old) refl holds,
)

pub returns-then-contains-2-clause-loads : goal.returns-then-contains-2-clause-loads
returns-then-contains-2-clause-loads g c clean old holds = (
  (
    marked_by old given_up_number c.given_up_mark.result (c.executed.ensures.value false old holds) c.contains.ensures c.given_up_mark.ensures.source c.given_up_mark.ensures.number c.if-contains.false,
    marked_by old ended_number c.ended_mark.result (c.executed-2.ensures.value false old holds) c.contains-2.ensures c.ended_mark.ensures.source c.ended_mark.ensures.number c.if-contains-2.true,
  ),
  stays_whole g.S.Store (λ h db is_open may. g.met.S.Store.settled h.store db is_open may) c.args.store.now old (λ left. left ≡ old) refl holds,
)
