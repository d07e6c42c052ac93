use Rattle.replica.proofs.Names.{◌≡◌, ◌+◌, ◌^◌, ◌≤◌, sym, ap, subst, ◌∙◌, length, arith, packing_length, Wire, Ended, HasEnded, end_of}
use Rattle.wire.specs.declared.fault.WireFault.TheVariants as wire
use Rattle.replica.specs.Standing.{parts_of, sends_on}
use Rattle.replica.proofs.PayloadSteps.{rest_length, too_far, stands_ended, room_left}
use Rattle.replica.proofs.DumpSteps.{over_same}
use Rattle.replica.proofs.ObserverEnds.{own_may}
use Rattle.replica.proofs.Keeps.{keeps_same}
use Rattle.replica.proofs.session.Session.take.Goals as goal

pub returns-in_default-clause-takes : goal.returns-in_default-clause-takes
returns-in_default-clause-takes g c clean schema pos m =
    let s = c.args.self.now in
    let p = c.args.payload.now in
    let store = c.args.store.now in
    let e : Ended = record { reason = Wire wire.TooLarge; at = s.at; applied = s.applied } in
    let same = rest_length (parts_of s) store.following (sends_on pos s.out.items) m.is m.now p m.meets in
    let beyond : 2 ^ 64 ≤ s.at + length m.meets.reading.rest = omega (arith, same, c.packing_length.ensures, c.in_default.ensures) in
    over_same g.S.Store (λ h db is_open may. g.met.S.Store.settled h.store db is_open may) s c.end.new.self store schema pos p m
    (stands_ended c.end.new.self store.following pos m.is m.now e (ap (λ x. x.ended) c.end.ensures)
    (subst (λ x. HasEnded x.config store.following (sends_on pos x.out.items) m.is m.now e) (sym c.end.ensures)
    (too_far (parts_of s) store.following (sends_on pos s.out.items) m.is m.now p m.meets beyond)))

pub returns-in-Login : goal.returns-in-Login
returns-in-Login g c =
    let s = c.args.self.now in
    let n = packing_length (length c.args.payload.now) in
    let ends : c.in-Some.end ≡ s.at + n = c.in-Some.ensures.1 ∙ ap (λ k. s.at + k) c.packing_length.ensures in
    record {
      keeps = keeps_same g.S.Store;
      config = c.take_message.ensures.config;
      may_end = own_may (end_of c.take_message.new.self).reason (g.W.Observer.account c.args.observer.now) c.take_message.ensures.may_end;
      room = λ none. let f = c.take_message.ensures.further none in room_left s c.take_message.new.self c.in-Some.end n f.0 f.1 c.requires.between.0 ends (omega (arith, c.in-Some.ensures));
      takes = λ clean schema pos m.
          over_same g.S.Store (λ h db is_open may. g.met.S.Store.settled h.store db is_open may) s c.take_message.new.self c.args.store.now schema pos c.args.payload.now m
          (c.take_message.ensures.takes c.args.store.now.following pos m.is m.now (c.executed.ensures.value m.is m.now m.holds) ends m.meets);
    }

pub returns-in_default-clause-keeps : goal.returns-in_default-clause-keeps
returns-in_default-clause-keeps g c = keeps_same g.S.Store
