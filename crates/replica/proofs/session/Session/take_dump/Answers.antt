use Rattle.replica.proofs.Names.{◌≡◌, ◌+◌, ◌^◌, ◌<◌, refl, sym, ap, subst, ◌∙◌, length, arith, Session, GoesOn, due_of}
use Rattle.std.proofs.Common.{if◌then◌else◌}
use Rattle.replica.specs.Standing.{parts_of, sends_on}
use Rattle.replica.proofs.PayloadSteps.{rest_length}
use Rattle.replica.proofs.DumpSteps.{event_goes_on, moved, dump_goes_on, dump_until, dump_ends}
use Rattle.replica.proofs.session.Session.take_dump.Goals as goal

pub returns-then-not-applied-clause-takes : goal.returns-then-not-applied-clause-takes
returns-then-not-applied-clause-takes g c clean schema pos ends m =
    let s = c.args.self.now in
    let p = c.args.payload.now in
    let store = c.args.store.now in
    let after = c.take_event.new.store in
    let n = if c.in-Ok.applied then 1 else 0 in
    let within : c.args.end < 2 ^ 64 = omega (arith, c.ranges.end.fits) in
    let end_at : c.args.end ≡ s.at + length m.meets.reading.rest =
    ends ∙ ap (λ k. s.at + k) (sym (rest_length (parts_of s) store.following (sends_on pos s.out.items) m.is m.now p m.meets)) in
    let t = c.in-Ok.ensures.step clean m.is m.now m.meets.reading.events m.meets.reading.deliveries m.meets.gathers m.holds in
    dump_goes_on g.S.Store (λ h db is_open may. g.met.S.Store.settled h.store db is_open may) s store after schema pos p m c.take_event.ensures.keeps.store.following
    c.go_on.new.self c.take_event.new.gatherer c.in-Ok.applied (c.go_on.ensures.ended ∙ c.requires.going) t
    (moved _ c.go_on.new.self c.args.end (s.applied + n) store.following pos m.is t.after c.go_on.ensures
    (event_goes_on (parts_of s) store.following (sends_on pos s.out.items) m.is m.now p m.meets (ap due_of c.requires.in_dump)
    c.take_event.new.gatherer c.args.end n t.more t.after t.gathered t.applies end_at within t.kept))

pub returns-clause-takes : goal.returns-clause-takes
returns-clause-takes g c clean schema pos ends m =
    let s = c.args.self.now in
    let p = c.args.payload.now in
    let store = c.args.store.now in
    let after = c.take_event.new.store in
    let n = if c.in-Ok.applied then 1 else 0 in
    let within : c.args.end < 2 ^ 64 = omega (arith, c.ranges.end.fits) in
    let end_at : c.args.end ≡ s.at + length m.meets.reading.rest =
    ends ∙ ap (λ k. s.at + k) (sym (rest_length (parts_of s) store.following (sends_on pos s.out.items) m.is m.now p m.meets)) in
    let t = c.in-Ok.ensures.step clean m.is m.now m.meets.reading.events m.meets.reading.deliveries m.meets.gathers m.holds in
    dump_goes_on g.S.Store (λ h db is_open may. g.met.S.Store.settled h.store db is_open may) s store after schema pos p m c.take_event.ensures.keeps.store.following
    c.go_on.new.self c.take_event.new.gatherer c.in-Ok.applied (c.go_on.ensures.ended ∙ c.requires.going) t
    (moved _ c.go_on.new.self c.args.end (s.applied + n) store.following pos m.is t.after c.go_on.ensures
    (event_goes_on (parts_of s) store.following (sends_on pos s.out.items) m.is m.now p m.meets (ap due_of c.requires.in_dump)
    c.take_event.new.gatherer c.args.end n t.more t.after t.gathered t.applies end_at within t.kept))

pub returns-then-is_done-clause-takes : goal.returns-then-is_done-clause-takes
returns-then-is_done-clause-takes g c clean schema pos ends m =
    let s = c.args.self.now in
    let p = c.args.payload.now in
    let store = c.args.store.now in
    let after = c.take_event.new.store in
    let n = if c.in-Ok.applied then 1 else 0 in
    let within : c.args.end < 2 ^ 64 = omega (arith, c.ranges.end.fits) in
    let end_at : c.args.end ≡ s.at + length m.meets.reading.rest =
    ends ∙ ap (λ k. s.at + k) (sym (rest_length (parts_of s) store.following (sends_on pos s.out.items) m.is m.now p m.meets)) in
    let t = c.in-Ok.ensures.step clean m.is m.now m.meets.reading.events m.meets.reading.deliveries m.meets.gathers m.holds in
    let same = sym c.end.ensures in
    let goes : Session → _ = λ (x : Session). GoesOn (parts_of x) store.following (sends_on pos x.out.items) m.is t.after in
    dump_until g.S.Store (λ h db is_open may. g.met.S.Store.settled h.store db is_open may) s store after schema pos p m c.take_event.ensures.keeps.store.following
    c.end.new.self c.take_event.new.gatherer c.in-Ok.applied _ (ap (λ (x : Session). x.ended) c.end.ensures) (rw c.end.ensures refl) t
    (subst goes same
    (moved _ c.go_on.new.self c.args.end (s.applied + n) store.following pos m.is t.after c.go_on.ensures
    (event_goes_on (parts_of s) store.following (sends_on pos s.out.items) m.is m.now p m.meets (ap due_of c.requires.in_dump)
    c.take_event.new.gatherer c.args.end n t.more t.after t.gathered t.applies end_at within t.kept)))

pub returns-in-Err-clause-takes : goal.returns-in-Err-clause-takes
returns-in-Err-clause-takes g c clean schema pos ends m =
    let s = c.args.self.now in
    let t = c.in-Err.ensures.step clean m.is m.now m.meets.reading.events m.meets.reading.deliveries m.meets.gathers m.holds in
    dump_ends g.S.Store (λ h db is_open may. g.met.S.Store.settled h.store db is_open may) s c.args.store.now c.take_event.new.store schema pos c.args.payload.now m c.take_event.ensures.keeps.store.following
    c.end_after.new.self c.args.end (ap due_of c.requires.in_dump) ends (omega (arith, c.ranges.end.fits)) c.end_after.ensures.config (ap (λ v. v.items) c.end_after.ensures.out) c.in-Err.reason c.end_after.ensures.ended t
