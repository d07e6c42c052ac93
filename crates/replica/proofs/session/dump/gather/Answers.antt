use Rattle.replica.proofs.Names.{◌≡◌, ◌≤◌, false, get_or, length, arith, rules, begins_event}
use Rattle.binlog.specs.EventView.{event_value}
use Rattle.replica.proofs.Events.{carries_event, events_end}
use Rattle.replica.proofs.Notices.{no_notice}
use Rattle.replica.proofs.Sees.{without_event, unread_event, sees_event}
use Rattle.replica.proofs.session.dump.gather.Goals as goal

pub returns-in_default-clause-err : goal.returns-in_default-clause-err
returns-in_default-clause-err g c es ds stands = c.no_event.ensures.ends c.args.follow.now es

pub returns-in-Ok-event-clause-ok : goal.returns-in-Ok-event-clause-ok
returns-in-Ok-event-clause-ok g c es ds stands =
    let some : 1 ≤ length c.args.payload.now = c.in-0.len_at_least in
    let first : get_or c.args.payload.now 0 0 ≡ 0 = omega arith in
    record {
      event = event_value c.in-Ok.event;
      carries = carries_event c.args.follow.now c.args.payload.now (event_value c.in-Ok.event) some first c.in-Ok.ensures.found;
      gathers = c.in-Ok-event.ensures.taken es ds stands;
    }

pub returns-in-Err-event-clause-err : goal.returns-in-Err-event-clause-err
returns-in-Err-event-clause-err g c es ds stands =
    let some : 1 ≤ length c.args.payload.now = c.in-0.len_at_least in
    let first : get_or c.args.payload.now 0 0 ≡ 0 = omega arith in
    events_end c.args.follow.now es c.args.payload.now (event_value c.in-Ok.event) c.in-Err-event.fault c.reason_for.result
    (carries_event c.args.follow.now c.args.payload.now (event_value c.in-Ok.event) some first c.in-Ok.ensures.found)
    (c.in-Err-event.ensures.fault es ds stands) c.reason_for.ensures.maps

pub returns-in_default-clause-noticed : goal.returns-in_default-clause-noticed
returns-in_default-clause-noticed g c = no_notice

pub returns-in-Err-clause-noticed : goal.returns-in-Err-clause-noticed
returns-in-Err-clause-noticed g c = no_notice

pub returns-in_default-clause-sees : goal.returns-in_default-clause-sees
returns-in_default-clause-sees g c es ds stands =
    let other : begins_event c.args.payload.now ≡ false = search rules in
    without_event c.args.follow.now es c.args.payload.now (g.W.Observer.account c.args.observer.now) other

pub returns-in-Err-clause-sees : goal.returns-in-Err-clause-sees
returns-in-Err-clause-sees g c es ds stands =
    let some : 1 ≤ length c.args.payload.now = c.in-0.len_at_least in
    let first : get_or c.args.payload.now 0 0 ≡ 0 = omega arith in
    unread_event c.args.follow.now es c.args.payload.now (g.W.Observer.account c.args.observer.now) some first c.in-Err.ensures.only

pub returns-in-Ok-event-clause-sees : goal.returns-in-Ok-event-clause-sees
returns-in-Ok-event-clause-sees g c es ds stands =
    let some : 1 ≤ length c.args.payload.now = c.in-0.len_at_least in
    let first : get_or c.args.payload.now 0 0 ≡ 0 = omega arith in
    let e = event_value c.in-Ok.event in
    sees_event c.args.follow.now es c.args.payload.now (g.W.Observer.account c.args.observer.now) (g.W.Observer.account c.event.new.self) e c.pending.result some first
    (carries_event c.args.follow.now c.args.payload.now e some first c.in-Ok.ensures.found) (c.pending.ensures es ds stands) c.event.ensures.seen

pub returns-in-Err-event-clause-sees : goal.returns-in-Err-event-clause-sees
returns-in-Err-event-clause-sees g c es ds stands =
    let some : 1 ≤ length c.args.payload.now = c.in-0.len_at_least in
    let first : get_or c.args.payload.now 0 0 ≡ 0 = omega arith in
    let e = event_value c.in-Ok.event in
    sees_event c.args.follow.now es c.args.payload.now (g.W.Observer.account c.args.observer.now) (g.W.Observer.account c.event.new.self) e c.pending.result some first
    (carries_event c.args.follow.now c.args.payload.now e some first c.in-Ok.ensures.found) (c.pending.ensures es ds stands) c.event.ensures.seen
