use Rattle.replica.proofs.Names.{[], ◌∷◌, subst, delivery_value, GathersMore, EndsDump}
use Rattle.gather.specs.View.{delivered}
use Rattle.replica.proofs.Events.{ends_early, goes_on}
use Rattle.replica.specs.Sees.{SeesEvent}
use Rattle.replica.proofs.Keeps.{keeps_noticed, keeps_then}
use Rattle.replica.proofs.Sees.{seen_on, seen_refused, seen_transaction}
use Rattle.replica.proofs.session.dump.take_event.Goals as goal

pub returns-in-Ok-Some-clause-step : goal.returns-in-Ok-Some-clause-step
returns-in-Ok-Some-clause-step g c clean is now es ds stands holds =
    let d = delivery_value c.in-Ok-Some.delivery in
    let p = c.args.payload.now in
    let gatherer = c.gather.new.gatherer in
    let more : GathersMore c.args.store.now.following es ds p (d ∷ []) gatherer =
    subst (λ f. GathersMore f es ds p (d ∷ []) gatherer) c.following.ensures
    (subst (λ o. GathersMore c.following.result.now es ds p (delivered o) gatherer) c.in-Ok-Some.field-0-is (c.in-Ok-Some.ensures.ok es ds stands)) in
    c.apply.ensures.step clean is now es ds p gatherer holds more

pub returns-in-Ok-None-clause-step : goal.returns-in-Ok-None-clause-step
returns-in-Ok-None-clause-step g c clean is now es ds stands holds = goes_on g.S.Store es ds c.args.payload.now is now c.args.store.now c.gather.new.gatherer holds
    (subst (λ f. GathersMore f es ds c.args.payload.now [] c.gather.new.gatherer) c.following.ensures
    (subst (λ o. GathersMore c.following.result.now es ds c.args.payload.now (delivered o) c.gather.new.gatherer) c.in-Ok-None.field-0-is (c.in-Ok-None.ensures.ok es ds stands)))

pub returns-in-Err-clause-step : goal.returns-in-Err-clause-step
returns-in-Err-clause-step g c clean is now es ds stands holds = ends_early g.S.Store es ds c.args.payload.now is now c.args.store.now c.in-Err.reason holds
    (subst (λ f. EndsDump f es c.args.payload.now c.in-Err.reason) c.following.ensures (c.in-Err.ensures.err es ds stands))

pub returns-in-Ok-Some-clause-keeps : goal.returns-in-Ok-Some-clause-keeps
returns-in-Ok-Some-clause-keeps g c =
    keeps_then g.S.Store (keeps_noticed g.S.Store c.gather.ensures.noticed) c.apply.ensures.keeps

pub returns-in-Ok-None-clause-keeps : goal.returns-in-Ok-None-clause-keeps
returns-in-Ok-None-clause-keeps g c = keeps_noticed g.S.Store c.gather.ensures.noticed

pub returns-in-Err-clause-keeps : goal.returns-in-Err-clause-keeps
returns-in-Err-clause-keeps g c =
    keeps_then g.S.Store (keeps_noticed g.S.Store c.gather.ensures.noticed)
    (keeps_noticed g.S.Store c.refused.ensures.noticed)

pub returns-in-Ok-Some-clause-sees : goal.returns-in-Ok-Some-clause-sees
returns-in-Ok-Some-clause-sees g c es ds stands =
    let d = delivery_value c.in-Ok-Some.delivery in
    let p = c.args.payload.now in
    let gatherer = c.gather.new.gatherer in
    let t0 = g.W.Observer.account c.args.observer.now in
    let t1 = g.W.Observer.account c.gather.new.observer in
    seen_transaction c.args.store.now.following es ds p gatherer t0 t1 (g.W.Observer.account c.apply.new.observer) d c.apply.result
    (subst (λ f. SeesEvent f es p t0 t1) c.following.ensures (c.gather.ensures.sees es ds stands))
    (subst (λ f. GathersMore f es ds p (d ∷ []) gatherer) c.following.ensures
    (subst (λ o. GathersMore c.following.result.now es ds p (delivered o) gatherer) c.in-Ok-Some.field-0-is (c.in-Ok-Some.ensures.ok es ds stands)))
    c.apply.ensures.seen

pub returns-in-Ok-None-clause-sees : goal.returns-in-Ok-None-clause-sees
returns-in-Ok-None-clause-sees g c es ds stands =
    let p = c.args.payload.now in
    let t0 = g.W.Observer.account c.args.observer.now in
    let t1 = g.W.Observer.account c.gather.new.observer in
    seen_on c.args.store.now.following es ds p c.gather.new.gatherer t0 t1 t1 (subst (λ f. SeesEvent f es p t0 t1) c.following.ensures (c.gather.ensures.sees es ds stands))

pub returns-in-Err-clause-sees : goal.returns-in-Err-clause-sees
returns-in-Err-clause-sees g c es ds stands =
    let p = c.args.payload.now in
    let t0 = g.W.Observer.account c.args.observer.now in
    let t1 = g.W.Observer.account c.gather.new.observer in
    seen_refused c.args.store.now.following es ds p c.gather.new.gatherer t0 t1 (g.W.Observer.account c.refused.new.self) c.in-Err.reason
    (subst (λ f. SeesEvent f es p t0 t1) c.following.ensures (c.gather.ensures.sees es ds stands)) c.gather.ensures.noticed.noted c.refused.ensures.noticed.noted c.refused.ensures.seen
