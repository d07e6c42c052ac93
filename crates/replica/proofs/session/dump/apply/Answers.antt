use Rattle.replica.proofs.Names.{Bool, true, false, [], subst, sym, ◌∙◌, refl, delivery_value, HoldsAs, HasNotices, Account, IsLedOver}
use Rattle.replica.specs.Event.{so_far, TakesEvent}
use Rattle.replica.specs.Noted.{asked_about}
use Rattle.replica.proofs.Notices.{Asks, led_to_stop, led_broken, led_whole}
use Rattle.replica.proofs.Events.{halts, over_broken, over_whole, heeded}
use Rattle.replica.proofs.Alone.{own_alone, taken_alone}
use Rattle.replica.proofs.Keeps.{store_same, grown_more}
use Rattle.replica.proofs.session.dump.apply.Goals as goal

pub returns-then-is_halted-clause-step : goal.returns-then-is_halted-clause-step
returns-then-is_halted-clause-step g c clean is now es ds p gatherer holds more =
    halts g.S.Store es ds p is now c.args.store.now (delivery_value c.args.delivery.now) gatherer holds more (c.is_halted.ensures.new is now holds c.if-is_halted.true)

pub returns-clause-step : goal.returns-clause-step
returns-clause-step g c clean is now es ds p gatherer holds more =
    let d = delivery_value c.args.delivery.now in
    let store = c.args.store.now in
    let new = c.apply.new.self in
    elim is as (λ b. HoldsAs g.S.Store b now store → TakesEvent g.S.Store (so_far b now es ds) p store new gatherer c.outcome-outcome.result) [
      | true ↦ λ holds. over_broken g.S.Store es ds p now store new d gatherer c.apply.result c.outcome-outcome.result holds more (c.apply.ensures.broken holds.broken) c.outcome-outcome.ensures.maps
      | false ↦ λ holds. over_whole g.S.Store es ds p now store new d gatherer c.apply.result c.outcome-outcome.result holds more (c.apply.ensures.applies clean now holds) (c.apply.ensures.rest.schema clean now holds)
          (c.apply.ensures.crash clean now holds) c.outcome-outcome.ensures.maps
    ] holds

pub returns-then-is_halted-clause-alone : goal.returns-then-is_halted-clause-alone
returns-then-is_halted-clause-alone g c clean now holds = (c.is_halted.ensures.new false now holds c.if-is_halted.true, holds)

pub returns-clause-alone : goal.returns-clause-alone
returns-clause-alone g c clean now holds =
    taken_alone g.S.Store now c.args.store.now c.apply.new.self (delivery_value c.args.delivery.now) c.apply.result c.outcome-outcome.result holds (c.apply.ensures.applies clean now holds) (c.apply.ensures.crash clean now holds) c.outcome-outcome.ensures.maps

pub returns-then-is_halted-clause-own : goal.returns-then-is_halted-clause-own
returns-then-is_halted-clause-own g c = c.is_halted.ensures.asked c.if-is_halted.true

pub returns-clause-own : goal.returns-clause-own
returns-clause-own g c = own_alone c.outcome-outcome.result (g.W.Observer.account c.after_apply.new.self).has_stopped c.outcome-outcome.ensures.may_end

pub returns-then-is_halted-clause-keeps : goal.returns-then-is_halted-clause-keeps
returns-then-is_halted-clause-keeps g c = record {
  store = store_same g.S.Store;
  stays = c.is_halted.ensures.stays;
  heeds = λ is now holds on. refl;
  grows = c.is_halted.ensures.grows;
  notes = λ clean was old holds.
      let d = delivery_value c.args.delivery.now in
      let t0 : Account = g.W.Observer.account c.args.observer.now in
      let t1 : Account = g.W.Observer.account c.is_halted.new.observer in
      led_to_stop g.S.Store was old c.args.store.now d t0 t1 holds (c.is_halted.ensures.new was old holds c.if-is_halted.true)
      (subst (λ (b : Bool). HasNotices t0 t1 (asked_about old d b)) c.if-is_halted.true (c.is_halted.ensures.noticed was old holds)) (c.is_halted.ensures.asked c.if-is_halted.true);
}

pub returns-clause-keeps : goal.returns-clause-keeps
returns-clause-keeps g c = record {
  store = record { following = c.apply.ensures.rest.following; broken = λ b. (c.apply.ensures.broken b).1; clean = c.apply.ensures.rest.clean };
  stays = λ on. c.after_apply.ensures.noticed.stays (c.is_halted.ensures.stays on);
  heeds = λ is now holds on.
      heeded g.S.Store is now (delivery_value c.args.delivery.now) c.args.store.now c.apply.new.self c.is_halted.result (g.W.Observer.account c.is_halted.new.observer).has_stopped holds (c.is_halted.ensures.heeds is now holds) (c.is_halted.ensures.stays on) c.if-is_halted.false
      (λ b. (c.apply.ensures.broken b).1) (λ content keeps it. (c.apply.ensures.known content keeps it).1);
  grows = grown_more (g.W.Observer.account c.args.observer.now) (g.W.Observer.account c.is_halted.new.observer) (g.W.Observer.account c.after_apply.new.self) c.is_halted.ensures.grows (_, c.after_apply.ensures.noticed.noted);
  notes = λ clean was old holds.
      let d = delivery_value c.args.delivery.now in
      let store = c.args.store.now in
      let new = c.apply.new.self in
      let t0 : Account = g.W.Observer.account c.args.observer.now in
      let t1 : Account = g.W.Observer.account c.is_halted.new.observer in
      let t2 : Account = g.W.Observer.account c.after_apply.new.self in
      let asks : Asks old d t0 t1 t2 c.outcome-outcome.result = record {
        asked = subst (λ (halts : Bool). HasNotices t0 t1 (asked_about old d halts)) c.if-is_halted.false (c.is_halted.ensures.noticed was old holds);
        noticed = c.after_apply.ensures.noticed;
        goes_on = λ fresh. sym (c.is_halted.ensures.heeds was old holds fresh) ∙ c.if-is_halted.false;
        missed = λ fresh. c.is_halted.ensures.missed was old holds fresh c.if-is_halted.false;
      } in
      elim was as (λ b. HoldsAs g.S.Store b old store → IsLedOver g.S.Store store new b old t0 t2 []) [
        | true ↦ λ holds. led_broken g.S.Store old store new d t0 t1 t2 c.apply.result c.outcome-outcome.result holds (c.apply.ensures.broken holds.broken) c.outcome-outcome.ensures.maps asks
        | false ↦ λ holds. led_whole g.S.Store old store new d t0 t1 t2 c.apply.result c.outcome-outcome.result holds (c.apply.ensures.applies clean old holds) c.apply.ensures.rest.following
            (taken_alone g.S.Store old store new d c.apply.result c.outcome-outcome.result holds (c.apply.ensures.applies clean old holds) (c.apply.ensures.crash clean old holds) c.outcome-outcome.ensures.maps) c.outcome-outcome.ensures.maps asks
      ] holds;
}
