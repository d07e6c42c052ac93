use Rattle.replica.proofs.Names.{rules, ◌≡◌, ◌++◌, ◌∷◌, [], ◌+◌, List, take, length, append-nil, refl, sym, ap, ◌∙◌, subst, subst₂, All, take_more, Capture, Ended, HasReadAll, AreRead, MayEnd, ended, KeepsSinceOpening}
use Rattle.std.proofs.Common.{slice_get}
use Rattle.std.proofs.lemmas.Bool.{not-false, not-true}
use Rattle.std.proofs.lemmas.List.{length_push}
use Rattle.std.proofs.Math.Seq.{take-length}
use Rattle.std.proofs.lemmas.Option.{slice_get_read}
use Rattle.std.proofs.lemmas.Iterator.Consumers.{YieldsList-turn, YieldsList-end}
use Rattle.std.proofs.lemmas.Iterator.Adapters.{YieldsList-from_vec}
use Rattle.sqlite.specs.Held.{state}
use Rattle.replica.specs.Capture.{AreReadUpTo}
use Rattle.replica.proofs.ObserverEnds.{ends_later, more_ends, none_yet, one_at_most}
use Rattle.replica.proofs.WaitSets.{missing_first}
use Rattle.replica.proofs.CaptureList.{no_captures, captures_more, breaks_off}
use Rattle.replica.proofs.Notices.{excludes_by}
use Rattle.replica.proofs.Keeps.{keeps_then, keeps_ended, since_opened, since_then, misses_then}
use Rattle.replica.proofs.source.captures.read_captures.Goals as goal

pub loop-capture-init : goal.loop-capture-init
loop-capture-init g c = record {
  piece = search rules;
  may = subst (λ (l : List Ended). All (λ (e : Ended). MayEnd e.reason (g.W.Observer.account c.opened.new.self)) l) (sym c.requires.none) (search rules);
  heeds = λ some. absurd (some c.requires.none);
  count = search rules;
  room = search rules;
  keeps =
      subst (λ (l : List Ended). KeepsSinceOpening g.S.Store c.args.store.now c.args.store.now (g.W.Observer.account c.args.observer.now) (g.W.Observer.account c.opened.new.self) l) (sym c.requires.none)
      (since_opened g.S.Store c.executed.ensures.value c.opened.ensures.noticed (excludes_by (g.W.Observer.account c.args.observer.now) (g.W.Observer.account c.opened.new.self) c.executed.result.now c.following.ensures c.opened.ensures.excludes));
  missed = λ clean was old holds.
      missing_first (g.W.Observer.account c.args.observer.now).waits (g.W.Observer.account c.opened.new.self).waits c.executed.result.now old.executed (c.executed.ensures.value was old holds) c.opened.ensures.noticed.waits (sym c.is_done.ensures.done ∙ c.if-is_done.false);
  taken = λ h was old holds.
      subst (λ (l : List Ended). AreRead g.R.Read.remaining (HasReadAll g.S.Store c.args.config.now.limit c.args.store.now (state g.S.Store c.args.store.now.conn).now.schema was old) [] l) (search rules)
      (no_captures g.S.Store g.R.Read.remaining (λ h db is_open may. g.met.S.Store.settled h.store db is_open may) c.args.config.now.limit c.args.store.now was old holds);
}

pub returns-in-Err-clause-reads : goal.returns-in-Err-clause-reads
returns-in-Err-clause-reads g c clean was old holds =
    let inv = c.loop-capture.invariant in
    let all = c.args.captures.items in
    let turn = YieldsList-turn (YieldsList-from_vec {s = c.into_iter-capture-iterator.result} all c.into_iter-capture-iterator.ensures.into_iter_gives.0 (c.into_iter-capture-iterator.ensures.into_iter_gives.1 ∙ c.args.captures.ok.0)) c.loop-capture.yielded c.loop-capture.capture-iterator c.loop-capture.yielded_by c.next.result c.next.new.self c.in-Some.capture c.in-Some.is
    c.next.ensures.steps in
    let t = inv.taken (c.read_capture.ensures.keeps.store.clean clean) was old holds in
    subst (λ n. AreReadUpTo g.R.Read.remaining (HasReadAll g.S.Store c.args.config.now.limit c.read_capture.new.store (state g.S.Store c.args.store.now.conn).now.schema was old) (take n all) (slice_get all n) c.loop-capture.ends.items) (sym inv.count)
    (breaks_off g.S.Store g.R.Read.remaining c.args.config.now.limit c.loop-capture.store c.read_capture.new.store (state g.S.Store c.args.store.now.conn).now.schema was old (take (length c.loop-capture.yielded) all) c.loop-capture.ends.items
    (slice_get all (length c.loop-capture.yielded)) c.in-Some.capture c.read_capture.ensures.keeps.store.broken (slice_get_read all (length all) (length c.loop-capture.yielded) c.in-Some.capture refl turn.0 turn.1) t
    (c.in-Err.ensures.failed clean t.holds.is t.holds.new t.holds.holds))

pub returns-then-not-goes_on-clause-reads : goal.returns-then-not-goes_on-clause-reads
returns-then-not-goes_on-clause-reads g c clean was old holds =
    let inv = c.loop-capture.invariant in
    let all = c.args.captures.items in
    let turn = YieldsList-turn (YieldsList-from_vec {s = c.into_iter-capture-iterator.result} all c.into_iter-capture-iterator.ensures.into_iter_gives.0 (c.into_iter-capture-iterator.ensures.into_iter_gives.1 ∙ c.args.captures.ok.0)) c.loop-capture.yielded c.loop-capture.capture-iterator c.loop-capture.yielded_by c.next.result c.next.new.self c.in-Some.capture c.in-Some.is
    c.next.ensures.steps in
    let t = inv.taken (c.read_capture.ensures.keeps.store.clean clean) was old holds in
    let ends = c.push_reserved.ensures.items in
    let count : length c.push_reserved.new.self.items ≡ length c.loop-capture.yielded + 1 = ap length ends ∙ length_push c.loop-capture.ends.items c.in-Ok.end ∙ ap (λ n. n + 1) inv.count in
    let more : take (length c.push_reserved.new.self.items) all ≡ take (length c.loop-capture.yielded) all ++ c.in-Some.capture ∷ [] =
    ap (λ n. take n all) count ∙ take_more all (length c.loop-capture.yielded) c.in-Some.capture turn.0 ∙ ap (λ (p : Capture g.row.R.Denot). take (length c.loop-capture.yielded) all ++ p ∷ []) (sym turn.1) in
    subst₂ (λ (l : List (Capture g.row.R.Denot)) (es : List Ended). AreRead g.R.Read.remaining (HasReadAll g.S.Store c.args.config.now.limit c.read_capture.new.store (state g.S.Store c.args.store.now.conn).now.schema was old) l es) (sym more) (sym ends)
    (captures_more g.S.Store g.R.Read.remaining c.args.config.now.limit c.loop-capture.store c.read_capture.new.store (state g.S.Store c.args.store.now.conn).now.schema was old (take (length c.loop-capture.yielded) all) c.loop-capture.ends.items
    c.in-Some.capture c.in-Ok.end c.read_capture.ensures.keeps.store.broken t (c.in-Ok.ensures.read clean t.holds.is t.holds.new t.holds.holds))

pub loop-capture-preserved : goal.loop-capture-preserved
loop-capture-preserved g c =
    let inv = c.loop-capture.invariant in
    let all = c.args.captures.items in
    let turn = YieldsList-turn (YieldsList-from_vec {s = c.into_iter-capture-iterator.result} all c.into_iter-capture-iterator.ensures.into_iter_gives.0 (c.into_iter-capture-iterator.ensures.into_iter_gives.1 ∙ c.args.captures.ok.0)) c.loop-capture.yielded c.loop-capture.capture-iterator c.loop-capture.yielded_by c.next.result c.next.new.self c.in-Some.capture c.in-Some.is
    c.next.ensures.steps in
    let ends = c.push_reserved.ensures.items in
    let next = length_push c.loop-capture.yielded c.in-Some.capture in
    let more : take (length (c.loop-capture.yielded ++ c.in-Some.capture ∷ [])) all ≡ take (length c.loop-capture.yielded) all ++ c.in-Some.capture ∷ [] =
    ap (λ n. take n all) next ∙ take_more all (length c.loop-capture.yielded) c.in-Some.capture turn.0 ∙ ap (λ (p : Capture g.row.R.Denot). take (length c.loop-capture.yielded) all ++ p ∷ []) (sym turn.1) in
    record {
      piece = search rules;
      may = more_ends c.loop-capture.ends.items c.in-Ok.end (g.W.Observer.account c.loop-capture.observer) (g.W.Observer.account c.read_capture.new.observer) (g.W.Observer.account c.ended-goes_on.new.self) (ended c.in-Ok.end c.ended-goes_on.result ∷ []) c.push_reserved.new.self.items
          inv.heeds c.ended-goes_on.ensures.noticed.stays c.ended-goes_on.ensures.noticed.waits c.push_reserved.ensures.items inv.may c.in-Ok.ensures.may_end;
      heeds = λ some. not-true _ (sym c.ended-goes_on.ensures.goes_on ∙ c.if-not-goes_on.false);
      count = ap length ends ∙ length_push c.loop-capture.ends.items c.in-Ok.end ∙ ap (λ n. n + 1) inv.count ∙ sym next;
      room = search rules;
      keeps = since_then g.S.Store inv.heeds c.push_reserved.ensures.items (λ some. inv.missed) inv.keeps
          (keeps_then g.S.Store c.read_capture.ensures.keeps
          (keeps_ended g.S.Store c.ended-goes_on.ensures.noticed c.ended-goes_on.ensures.goes_on));
      missed = misses_then g.S.Store inv.keeps
          (keeps_then g.S.Store c.read_capture.ensures.keeps
          (keeps_ended g.S.Store c.ended-goes_on.ensures.noticed c.ended-goes_on.ensures.goes_on)) inv.missed;
      taken = λ clean was old holds.
          let t = inv.taken (c.read_capture.ensures.keeps.store.clean clean) was old holds in
          subst₂ (λ (l : List (Capture g.row.R.Denot)) (es : List Ended). AreRead g.R.Read.remaining (HasReadAll g.S.Store c.args.config.now.limit c.read_capture.new.store (state g.S.Store c.args.store.now.conn).now.schema was old) l es) (sym more) (sym ends)
          (captures_more g.S.Store g.R.Read.remaining c.args.config.now.limit c.loop-capture.store c.read_capture.new.store (state g.S.Store c.args.store.now.conn).now.schema was old (take (length c.loop-capture.yielded) all)
          c.loop-capture.ends.items c.in-Some.capture c.in-Ok.end c.read_capture.ensures.keeps.store.broken t (c.in-Ok.ensures.read clean t.holds.is t.holds.new t.holds.holds));
    }

pub returns-clause-reads : goal.returns-clause-reads
returns-clause-reads g c clean was old holds =
    let inv = c.loop-capture.invariant in
    let all = c.args.captures.items in
    let end = YieldsList-end (YieldsList-from_vec {s = c.into_iter-capture-iterator.result} all c.into_iter-capture-iterator.ensures.into_iter_gives.0 (c.into_iter-capture-iterator.ensures.into_iter_gives.1 ∙ c.args.captures.ok.0)) c.loop-capture.yielded c.loop-capture.capture-iterator c.loop-capture.yielded_by c.next.result c.next.new.self c.in-None.is c.next.ensures.steps in
    subst (λ (l : List (Capture g.row.R.Denot)). AreRead g.R.Read.remaining (HasReadAll g.S.Store c.args.config.now.limit c.loop-capture.store (state g.S.Store c.args.store.now.conn).now.schema was old) l c.loop-capture.ends.items)
    (ap (λ n. take n all) end.1 ∙ take-length all) (inv.taken clean was old holds)

pub returns-then-is_done-clause-reads : goal.returns-then-is_done-clause-reads
returns-then-is_done-clause-reads g c clean was old holds =
    subst (λ (l : List Ended). AreRead g.R.Read.remaining (HasReadAll g.S.Store c.args.config.now.limit c.args.store.now (state g.S.Store c.args.store.now.conn).now.schema was old) (take (length l) c.args.captures.items) l) (sym c.requires.none)
    (no_captures g.S.Store g.R.Read.remaining (λ h db is_open may. g.met.S.Store.settled h.store db is_open may) c.args.config.now.limit c.args.store.now was old holds)

pub returns-then-is_done-clause-keeps : goal.returns-then-is_done-clause-keeps
returns-then-is_done-clause-keeps g c =
    subst (λ (l : List Ended). KeepsSinceOpening g.S.Store c.args.store.now c.args.store.now (g.W.Observer.account c.args.observer.now) (g.W.Observer.account c.opened.new.self) l) (sym c.requires.none)
    (since_opened g.S.Store c.executed.ensures.value c.opened.ensures.noticed (excludes_by (g.W.Observer.account c.args.observer.now) (g.W.Observer.account c.opened.new.self) c.executed.result.now c.following.ensures c.opened.ensures.excludes))

pub returns-in-Err-clause-keeps : goal.returns-in-Err-clause-keeps
returns-in-Err-clause-keeps g c =
    let inv = c.loop-capture.invariant in
    since_then g.S.Store inv.heeds (sym (append-nil c.loop-capture.ends.items)) (λ some. inv.missed) inv.keeps c.read_capture.ensures.keeps

pub returns-then-not-goes_on-clause-keeps : goal.returns-then-not-goes_on-clause-keeps
returns-then-not-goes_on-clause-keeps g c =
    let inv = c.loop-capture.invariant in
    since_then g.S.Store inv.heeds c.push_reserved.ensures.items (λ some. inv.missed) inv.keeps
    (keeps_then g.S.Store c.read_capture.ensures.keeps
    (keeps_ended g.S.Store c.ended-goes_on.ensures.noticed c.ended-goes_on.ensures.goes_on))

pub returns-then-is_done-clause-heeded : goal.returns-then-is_done-clause-heeded
returns-then-is_done-clause-heeded g c = record {
  asked = λ is. c.is_done.ensures.stopped c.if-is_done.true;
  may_end = subst (λ (l : List Ended). All (λ (e : Ended). MayEnd e.reason (g.W.Observer.account c.opened.new.self)) l) (sym c.requires.none) (search rules);
  heeds = search rules;
  no_more = λ on. none_yet c.args.ends.now.items (g.W.Observer.account c.opened.new.self).has_stopped (λ some. absurd (some c.requires.none)) (c.opened.ensures.noticed.stays on);
}

pub returns-in-Err-clause-heeded : goal.returns-in-Err-clause-heeded
returns-in-Err-clause-heeded g c = record {
  asked = search rules;
  may_end = ends_later c.loop-capture.ends.items (g.W.Observer.account c.loop-capture.observer) (g.W.Observer.account c.read_capture.new.observer) c.loop-capture.invariant.heeds c.loop-capture.invariant.may;
  heeds = search rules;
  no_more = λ on. none_yet c.loop-capture.ends.items (g.W.Observer.account c.loop-capture.observer).has_stopped c.loop-capture.invariant.heeds (c.loop-capture.invariant.keeps.stays on);
}

pub returns-then-not-goes_on-clause-heeded : goal.returns-then-not-goes_on-clause-heeded
returns-then-not-goes_on-clause-heeded g c = record {
  asked = λ is. not-false _ (sym c.ended-goes_on.ensures.goes_on ∙ c.if-not-goes_on.true);
  may_end = more_ends c.loop-capture.ends.items c.in-Ok.end (g.W.Observer.account c.loop-capture.observer) (g.W.Observer.account c.read_capture.new.observer) (g.W.Observer.account c.ended-goes_on.new.self) (ended c.in-Ok.end c.ended-goes_on.result ∷ []) c.push_reserved.new.self.items
      c.loop-capture.invariant.heeds c.ended-goes_on.ensures.noticed.stays c.ended-goes_on.ensures.noticed.waits c.push_reserved.ensures.items c.loop-capture.invariant.may c.in-Ok.ensures.may_end;
  heeds = search rules;
  no_more = λ on.
      one_at_most c.loop-capture.ends.items c.in-Ok.end c.push_reserved.new.self.items c.push_reserved.ensures.items (g.W.Observer.account c.loop-capture.observer).has_stopped c.loop-capture.invariant.heeds (c.loop-capture.invariant.keeps.stays on);
}

pub returns-clause-heeded : goal.returns-clause-heeded
returns-clause-heeded g c = record {
  asked = search rules;
  may_end = c.loop-capture.invariant.may;
  heeds = λ done. c.loop-capture.invariant.heeds;
  no_more = λ on. none_yet c.loop-capture.ends.items (g.W.Observer.account c.loop-capture.observer).has_stopped c.loop-capture.invariant.heeds (c.loop-capture.invariant.keeps.stays on);
}
