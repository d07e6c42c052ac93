-- A session over a store takes a payload.
use Rattle.replica.proofs.Names.{◌≡◌, ◌≢◌, ◌⊎◌, ℕ, ◌+◌, ◌^◌, ◌<◌, Bool, true, false, List, [], ◌∷◌, ◌++◌, length, Some, None, unwrap_or, IsTrue, inl, inr, refl, sym, ap, subst, ◌∙◌, append-nil, arith, length-append, true≢false, Ghosts, Trees, Schema, Held, packing_length, IsUnfinished, Payload, nothing_yet, Names, DeliveryValue, Gatherer, Error, Content, HasOutcome, done, StoreFault, Store, HoldsAs, AreOf, Reason, EndOfInput, SourceEof, SourceError, Greet, Event, Gather, Refused, Database, Memory, Halted, Until, Ended, Session, Settings, Hello, InDump, IsInDump, Answers, next_due, next_id, due_after, due_from, Denies, EndsLog, AppliesAll, Why, BreaksStore, GoesOn, HasEnded, HasPayload, due_of, end_of, IsLeftOfOne, GathersMore, LeavesOnly, StandsOver}
use Rattle.sqlite.specs.Held.{state}
use Rattle.store.specs.declared.fault.StoreFault.TheVariants as fault
use Rattle.store.specs.Store.{Holds}
use Rattle.store.proofs.ExecutedInMemory.{stays}
use Rattle.replica.specs.End.{rest_of}
use Rattle.replica.specs.Conn.{NextEnds}
use Rattle.replica.specs.Sent.{Sent}
use Rattle.replica.specs.Standing.{Parts, Position, parts_of, sends_on, Stands, offset_of, MovesOn}
use Rattle.replica.specs.Event.{so_far, GoesFurther, EndsOne, IsAsBefore, EndsSo}
use Rattle.replica.specs.Over.{MeetsOver}
use Rattle.replica.proofs.Push.{due_push, responds_push, applies_push, with_event}
use Rattle.replica.proofs.PayloadSteps.{stands_going, stands_ended, stops, ended, rest_length}

pub either : (b : Bool) → (b ≡ false) ⊎ (b ≡ true)
either false = inl refl
either true = inr refl

was_whole : (is broken : Bool) → (is ≡ true → broken ≡ true) → broken ≡ false → is ≡ false
was_whole false broken h whole = refl
was_whole true broken h whole = absurd (true≢false (sym (h refl) ∙ whole))

-- ---- an event goes on
module _ (parts : Parts) (names : Names) (pos : Position) (is : Bool) (now : Content) (p : Payload) (h : HasPayload parts names pos is now p) (dump : due_of parts.phase ≡ InDump) where
  pub due_is : due_after h.reading.payloads ≡ InDump
  due_is = sym h.awaits ∙ dump

  pub in_the_dump : IsInDump (due_after h.reading.payloads)
  in_the_dump = subst IsInDump (sym due_is) tt

  pub event_goes_on : (after_gatherer : Gatherer) (end n : ℕ) (more : List DeliveryValue) (after : Content) → GathersMore names h.reading.events h.reading.deliveries p more after_gatherer → AppliesAll names now more n after
      → end ≡ parts.at + length h.reading.rest → end < 2 ^ 64 → (is ≡ true → after ≡ now) → GoesOn (record { settings = parts.settings; assembly = parts.assembly; gatherer = after_gatherer; phase = parts.phase; at = end; applied = parts.applied + n }) names pos is after
  event_goes_on after_gatherer end n more after gathered applies end_is within same =
      let r = h.reading in
      let d = due_after r.payloads in
      let within_at : length r.front + length r.rest < 2 ^ 64 = omega (arith, end_is, within, h.at_is) in
      let answers : Answers names d p (gathered.event ∷ []) = subst (λ x. Answers names x p (gathered.event ∷ [])) (sym due_is) (gathered.event, gathered.carries, refl) in
      let same_id : parts.assembly.due ≡ next_id d p parts.assembly.due = ap (λ x. next_id x p parts.assembly.due) (sym due_is) in
      let due_after : due_from Hello (r.payloads ++ p ∷ []) ≡ d = due_push Hello r.payloads p ∙ ap (λ x. next_due x p) due_is ∙ sym due_is in
      record {
        reading = with_event parts.settings.limit names pos.read r p parts.assembly.due h.whole within_at gathered.event more answers gathered.gathers.given.deliveries;
        held = sym h.held;
        at_is = end_is ∙ ap (λ k. k + length r.rest) h.at_is ∙ sym (length-append r.front r.rest);
        limit = h.limit;
        id = same_id;
        reads = h.reads;
        unfinished = subst (λ l. IsUnfinished (next_id d p parts.assembly.due) parts.settings.limit l) (sym h.held) (nothing_yet (next_id d p parts.assembly.due) parts.settings.limit);
        awaits = h.awaits ∙ sym due_after;
        gathers = gathered.gathers;
        has_applied = record {
          applies = applies_push names pos.old r.deliveries parts.applied now more n after h.has_applied.applies applies;
          asked = λ i. h.has_applied.asked (subst IsInDump due_after i);
        };
        sent = subst (λ l. Sent parts.settings pos.old.executed (r.payloads ++ p ∷ []) l) (append-nil pos.sent)
            (responds_push parts.settings pos.old.executed Hello r.payloads pos.sent p [] h.sent (subst (λ x. Rattle.replica.specs.Sent.Responds parts.settings pos.old.executed x p []) (sym due_is) refl));
        store = h.store;
        kept = λ w. same (h.store ∙ w) ∙ h.kept w;
      }

  -- the end of the log ends it
  pub log_ends : (end : ℕ) → end ≡ parts.at + length h.reading.rest → end < 2 ^ 64 → Rattle.greet.specs.Message.IsEofPacket p → HasEnded parts.settings names pos is now (record { reason = SourceEof; at = end; applied = parts.applied })
  log_ends end end_is within eof =
      let r = h.reading in
      let log : EndsLog (rest_of r) end = record {
        payload = p;
        stops = stops parts names pos is now p h (omega (arith, end_is, within));
        in_dump = in_the_dump;
        is_eof = eof;
        at_is = end_is ∙ ap (λ k. k + length r.rest) h.at_is;
      } in
      record {
        conn = record { reading = r; has_applied = h.has_applied; why = log; kept = h.kept };
        more = λ e. cc;
        sent = record { payloads = r.payloads; taken = record { reading = r; payloads_are = refl; at_is = inr log }; sent = h.sent };
        store = h.store;
      }

  -- its payload is not the expected message
  pub denied_ends : (reason : Reason) → parts.at + length h.reading.rest < 2 ^ 64 → Denies names InDump h.reading.events p reason
      → Rattle.replica.specs.End.EndsWith (rest_of h.reading) reason
  denied_ends reason within denied = record {
    payload = p;
    stops = stops parts names pos is now p h within;
    denied = subst (λ x. Denies names x h.reading.events p reason) (sym due_is) denied;
  }

-- where the connection goes on, the observer may end it
until_ended : (parts : Parts) (names : Names) (pos : Position) (is : Bool) (now : Content) → GoesOn parts names pos is now
    → HasEnded parts.settings names pos is now (record { reason = Until; at = parts.at; applied = parts.applied })
until_ended parts names pos is now g = record {
  conn = record { reading = g.reading; has_applied = g.has_applied; why = g.at_is; kept = g.kept };
  more = λ e. cc;
  sent = record { payloads = g.reading.payloads; taken = record { reading = g.reading; payloads_are = refl; at_is = inl g.at_is }; sent = g.sent };
  store = g.store;
}

-- the same parts, at this offset with this many applied
abbrev pub parts_at : Session → ℕ → ℕ → Parts
parts_at s at applied = record (parts_of s) { at = at; applied = applied }

-- a session that has moved on goes on
pub moved : (s new : Session) (at applied : ℕ) (names : Names) (pos : Position) (is : Bool) (now : Content) → MovesOn s new at applied
    → GoesOn (parts_at s at applied) names (sends_on pos s.out.items) is now → GoesOn (parts_of new) names (sends_on pos new.out.items) is now
moved s new at applied names pos is now m g =
    subst (λ x. GoesOn (record (parts_of new) { settings = x }) names (sends_on pos new.out.items) is now) (sym m.config)
    (subst (λ x. GoesOn (record (parts_of new) { settings = s.config; assembly = x }) names (sends_on pos new.out.items) is now) (sym m.assembler)
    (subst (λ x. GoesOn (record (parts_of new) { settings = s.config; assembly = s.assembler; gatherer = x }) names (sends_on pos new.out.items) is now) (sym m.gatherer)
    (subst (λ x. GoesOn (record (parts_at s new.at new.applied) { phase = x }) names (sends_on pos new.out.items) is now) (sym m.phase)
    (subst (λ x. GoesOn (parts_at s x new.applied) names (sends_on pos new.out.items) is now) (sym m.at_is)
    (subst (λ x. GoesOn (parts_at s at x) names (sends_on pos new.out.items) is now) (sym m.applied_is)
    (subst (λ x. GoesOn (parts_at s at applied) names (sends_on pos x.items) is now) (sym m.out) g))))))

-- ---- over a store
module _ {S : Type 0} (g : Ghosts S) (settled : (h : Held S) (db : Trees) → IsTrue (state g h).is_open → (state g h).may_leave db → db ≡ (state g h).committed.trees) where
  -- a whole store leaves what it holds
  pub leaves_only : (store : Store S g) (schema : Schema) (now : Content) (kind : Content → Type 0) → Holds g store now → (state g store.conn).now.schema ≡ schema → kind now → LeavesOnly g schema store kind
  leaves_only store schema now kind holds same k = record {
    each = λ trees may. (now, subst (λ s. AreOf s store.following now trees) same (stays g store.following now settled store.conn trees holds.rest may), k);
  }

  pub over_going : (s : Session) (store : Store S g) (schema : Schema) (pos : Position) (is : Bool) (now : Content) → s.ended ≡ None → HoldsAs g is now store
      → GoesOn (parts_of s) store.following (sends_on pos s.out.items) is now
      → (is ≡ false → (state g store.conn).now.schema ≡ schema) → StandsOver g s store schema pos
  over_going s store schema pos is now none holds goes same = record {
    is = is;
    now = now;
    holds = holds;
    stands = stands_going s store.following pos is now none goes;
    schema_is = same;
    leaves = λ whole.
        let is_whole : is ≡ false = goes.store ∙ whole in
        leaves_only store schema now (IsLeftOfOne s.config.limit store.following pos.old pos.read now (end_of s)) (subst (λ i. HoldsAs g i now store) is_whole holds) (same is_whole) (inl refl);
  }

  pub over_ended : (s : Session) (store : Store S g) (schema : Schema) (pos : Position) (is : Bool) (now : Content) (end : Ended) → s.ended ≡ Some end → HoldsAs g is now store
      → HasEnded s.config store.following (sends_on pos s.out.items) is now end
      → (is ≡ false → (state g store.conn).now.schema ≡ schema) → (pos.was ≡ false → LeavesOnly g schema store (IsLeftOfOne s.config.limit store.following pos.old pos.read now end))
      → StandsOver g s store schema pos
  over_ended s store schema pos is now end some holds has same leaves = record {
    is = is;
    now = now;
    holds = holds;
    stands = stands_ended s store.following pos is now end some has;
    schema_is = same;
    leaves = λ whole.
        let is_end : end_of s ≡ end = ap (λ v. unwrap_or v (record { reason = EndOfInput; at = s.at; applied = s.applied })) some in
        subst (λ e. LeavesOnly g schema store (IsLeftOfOne s.config.limit store.following pos.old pos.read now e)) (sym is_end) (leaves whole);
  }

  -- the store is as it was
  pub over_same : (s new : Session) (store : Store S g) (schema : Schema) (pos : Position) (p : Payload) (m : MeetsOver g s store schema pos p)
      → Stands new store.following pos m.is m.now → StandsOver g new store schema pos
  over_same s new store schema pos p m stands = record {
    is = m.is;
    now = m.now;
    holds = m.holds;
    stands = stands;
    schema_is = m.schema_is;
    leaves = λ whole. record { each = λ trees may. let l = (m.leaves whole).each trees may in (l.0, l.1, inl l.2) };
  }

  -- ---- an event of the dump
  module _ (s : Session) (store after : Store S g) (schema : Schema) (pos : Position) (p : Payload) (m : MeetsOver g s store schema pos p) (same_names : after.following ≡ store.following) where
    pub dump_goes_on : (new : Session) (gatherer : Gatherer) (applied : Bool) → new.ended ≡ None
        → (f : GoesFurther g (so_far m.is m.now m.meets.reading.events m.meets.reading.deliveries) p store after gatherer applied)
        → GoesOn (parts_of new) store.following (sends_on pos new.out.items) m.is f.after
        → StandsOver g new after schema pos
    dump_goes_on new gatherer applied none f goes =
        over_going new after schema pos m.is f.after none f.holds
        (subst (λ n. GoesOn (parts_of new) n (sends_on pos new.out.items) m.is f.after) (sym same_names) goes)
        (λ whole. f.schema whole ∙ m.schema_is whole)

    -- the observer waits for nothing more after it
    pub dump_until : (new : Session) (gatherer : Gatherer) (applied : Bool) (end : Ended) → new.ended ≡ Some end → end ≡ record { reason = Until; at = new.at; applied = new.applied }
        → (f : GoesFurther g (so_far m.is m.now m.meets.reading.events m.meets.reading.deliveries) p store after gatherer applied)
        → GoesOn (parts_of new) store.following (sends_on pos new.out.items) m.is f.after
        → StandsOver g new after schema pos
    dump_until new gatherer applied end some is f goes =
        over_ended new after schema pos m.is f.after end some f.holds
        (subst (λ n. HasEnded new.config n (sends_on pos new.out.items) m.is f.after end) (sym same_names)
        (subst (λ e. HasEnded new.config store.following (sends_on pos new.out.items) m.is f.after e) (sym is)
        (until_ended (parts_of new) store.following (sends_on pos new.out.items) m.is f.after goes)))
        (λ whole. f.schema whole ∙ m.schema_is whole)
        (λ whole.
        let is_whole : m.is ≡ false = goes.store ∙ whole in
        leaves_only after schema f.after (IsLeftOfOne new.config.limit after.following pos.old pos.read f.after end) (subst (λ i. HoldsAs g i f.after after) is_whole f.holds) (f.schema is_whole ∙ m.schema_is is_whole) (inl refl))

    dump_ended : (new : Session) (is : Bool) (end : Ended) → new.ended ≡ Some end → HoldsAs g is m.now after → HasEnded new.config store.following (sends_on pos new.out.items) is m.now end
        → (is ≡ false → (state g after.conn).now.schema ≡ schema) → (pos.was ≡ false → LeavesOnly g schema after (IsLeftOfOne new.config.limit store.following pos.old pos.read m.now end)) → StandsOver g new after schema pos
    dump_ended new is end some holds has same leaves =
        over_ended new after schema pos is m.now end some holds
        (subst (λ n. HasEnded new.config n (sends_on pos new.out.items) is m.now end) (sym same_names) has)
        same
        (λ whole. subst (λ n. LeavesOnly g schema after (IsLeftOfOne new.config.limit n pos.old pos.read m.now end)) (sym same_names) (leaves whole))

    module _ (new : Session) (end : ℕ) (dump : due_of s.phase ≡ InDump) (end_is : end ≡ s.at + packing_length (length p)) (within : end < 2 ^ 64) (config : new.config ≡ s.config) (out : new.out.items ≡ s.out.items) where
      end_is_sum : end ≡ s.at + length m.meets.reading.rest
      end_is_sum = end_is ∙ ap (λ k. s.at + k) (sym (rest_length (parts_of s) store.following (sends_on pos s.out.items) m.is m.now p m.meets))

      room : s.at + length m.meets.reading.rest < 2 ^ 64
      room = subst (λ n. n < 2 ^ 64) end_is_sum within

      -- the store is whole or broken as it was
      rests_so : (reason : Reason) (at : ℕ) → new.ended ≡ Some (record { reason = reason; at = at; applied = s.applied })
          → IsAsBefore g (so_far m.is m.now m.meets.reading.events m.meets.reading.deliveries) p store after m.is
          → HasEnded s.config store.following (sends_on pos s.out.items) m.is m.now (record { reason = reason; at = at; applied = s.applied }) → StandsOver g new after schema pos
      rests_so reason at some rests has =
          let e : Ended = record { reason = reason; at = at; applied = s.applied } in
          let same : m.is ≡ false → (state g after.conn).now.schema ≡ schema = λ whole. rests.schema whole ∙ m.schema_is whole in
          dump_ended new m.is e some rests.holds
          (subst (λ c. HasEnded c store.following (sends_on pos new.out.items) m.is m.now e) (sym config)
          (subst (λ l. HasEnded s.config store.following (sends_on pos l) m.is m.now e) (sym out) has))
          same
          (λ whole.
          let is_whole : m.is ≡ false = m.meets.store ∙ whole in
          leaves_only after schema m.now (IsLeftOfOne new.config.limit store.following pos.old pos.read m.now e) (subst (λ i. HoldsAs g i m.now after) is_whole rests.holds) (same is_whole) (inl refl))

      stopped : (reason : Reason) (broken : Bool) → reason ≢ EndOfInput
          → Why (rest_of m.meets.reading) m.meets.reading.deliveries pos.was pos.old m.now s.at reason
          → BreaksStore reason pos.was broken → HasEnded s.config store.following (sends_on pos s.out.items) broken m.now (record { reason = reason; at = s.at; applied = s.applied })
      stopped reason broken more why breaks = ended (parts_of s) store.following (sends_on pos s.out.items) m.is m.now p m.meets reason broken more why breaks

      denied : (reason : Reason) → Denies store.following InDump m.meets.reading.events p reason
          → Rattle.replica.specs.End.EndsWith (rest_of m.meets.reading) reason
      denied reason d = denied_ends (parts_of s) store.following (sends_on pos s.out.items) m.is m.now p m.meets dump reason room d

      next_ends : (d : DeliveryValue) → EndsOne g (so_far m.is m.now m.meets.reading.events m.meets.reading.deliveries) p store after d
          → NextEnds (rest_of m.meets.reading) m.meets.reading.deliveries d
      next_ends d e = record {
        payload = p;
        stops = stops (parts_of s) store.following (sends_on pos s.out.items) m.is m.now p m.meets room;
        in_dump = in_the_dump (parts_of s) store.following (sends_on pos s.out.items) m.is m.now p m.meets dump;
        event = e.event;
        carries = e.carries;
        delivers = e.delivers;
      }

      one_more : (cause : StoreFault) (error : Error) → cause ≡ fault.Database error → (d : DeliveryValue) → EndsOne g (so_far m.is m.now m.meets.reading.events m.meets.reading.deliveries) p store after d → (left : Content)
          → (left ≡ m.now) ⊎ HasOutcome store.following m.now d (done left)
          → IsLeftOfOne s.config.limit store.following pos.old pos.read m.now (record { reason = Database cause; at = s.at; applied = s.applied }) left
      one_more cause error is d e left (inl same) = inl same
      one_more cause error is d e left (inr outcome) = inr (record {
        cause = error;
        failed = ap Database is;
        reading = m.meets.reading;
        at_is = m.meets.at_is;
        has_applied = m.meets.has_applied;
        next = d;
        ends = next_ends d e;
        outcome = outcome;
      })

      pub dump_ends : (reason : Reason) → new.ended ≡ Some (record { reason = reason; at = offset_of reason s.at end; applied = s.applied })
          → EndsSo g (so_far m.is m.now m.meets.reading.events m.meets.reading.deliveries) p store after reason → StandsOver g new after schema pos
      dump_ends SourceEof some e =
          rests_so SourceEof end some e.1 (log_ends (parts_of s) store.following (sends_on pos s.out.items) m.is m.now p m.meets dump end end_is_sum within e.0)
      dump_ends (SourceError code state message) some e =
          rests_so (SourceError code state message) s.at some e.1 (stopped (SourceError code state message) m.is (λ q. cc) (m.meets.at_is, denied (SourceError code state message) e.0) m.meets.store)
      dump_ends (Greet f) some e = rests_so (Greet f) s.at some e.1 (stopped (Greet f) m.is (λ q. cc) (m.meets.at_is, denied (Greet f) e.0) m.meets.store)
      dump_ends (Event f) some e = rests_so (Event f) s.at some e.1 (stopped (Event f) m.is (λ q. cc) (m.meets.at_is, denied (Event f) e.0) m.meets.store)
      dump_ends (Gather f) some e = rests_so (Gather f) s.at some e.1 (stopped (Gather f) m.is (λ q. cc) (m.meets.at_is, denied (Gather f) e.0) m.meets.store)
      dump_ends (Refused f) some e =
          rests_so (Refused f) s.at some e.3 (stopped (Refused f) m.is (λ q. cc) (m.meets.at_is, record { delivery = e.0; ends = next_ends e.0 e.1; refused = e.2 }) m.meets.store)
      dump_ends (Database cause) some e =
          let end_at : Ended = record { reason = Database cause; at = s.at; applied = s.applied } in
          dump_ended new true end_at some e.2.rests.holds
          (subst (λ c. HasEnded c store.following (sends_on pos new.out.items) true m.now end_at) (sym config)
          (subst (λ l. HasEnded s.config store.following (sends_on pos l) true m.now end_at) (sym out)
          (stopped (Database cause) true (λ q. cc)
          (m.meets.at_is, record { delivery = e.0; ends = next_ends e.0 e.1; fails = elim e.2.fails [ inl w ↦ inl (w.0, w.1, sym m.meets.store ∙ w.2, w.3) | inr w ↦ inr (w.0, sym m.meets.store ∙ w.1) ] }) refl)))
          (λ f. absurd (true≢false f))
          (λ whole. record {
            each = λ trees may.
                let is_whole : m.is ≡ false = m.meets.store ∙ whole in
                let l = e.2.leaves is_whole trees may in (
                  l.0,
                  subst (λ n. AreOf schema n l.0 trees) (sym same_names) (subst (λ x. AreOf x store.following l.0 trees) (m.schema_is is_whole) l.1),
                  subst (λ (c : Settings). IsLeftOfOne c.limit store.following pos.old pos.read m.now end_at l.0) (sym config) (elim e.2.fails [ inl w ↦ one_more cause w.0 w.1 e.0 e.1 l.0 l.2 | inr w ↦ absurd (true≢false (sym w.1 ∙ is_whole)) ]),
                );
          })
      dump_ends Memory some e =
          let end_at : Ended = record { reason = Memory; at = s.at; applied = s.applied } in
          let same : e.0 ≡ false → (state g after.conn).now.schema ≡ schema = λ whole.
          e.2.schema whole ∙ m.schema_is (was_whole m.is e.0 e.1 whole) in
          dump_ended new e.0 end_at some e.2.holds
          (subst (λ c. HasEnded c store.following (sends_on pos new.out.items) e.0 m.now end_at) (sym config)
          (subst (λ l. HasEnded s.config store.following (sends_on pos l) e.0 m.now end_at) (sym out)
          (stopped Memory e.0 (λ q. cc) m.meets.at_is (λ w. e.1 (m.meets.store ∙ w)))))
          same
          (λ whole. elim (either e.0) [
            | inl is_whole ↦ leaves_only after schema m.now (IsLeftOfOne new.config.limit store.following pos.old pos.read m.now end_at) (subst (λ i. HoldsAs g i m.now after) is_whole e.2.holds) (same is_whole) (inl refl)
            | inr broken ↦ record {
              each = λ trees may.
                  let before : m.is ≡ false = m.meets.store ∙ whole in
                  (m.now, subst (λ n. AreOf schema n m.now trees) (sym same_names) (subst (λ x. AreOf x store.following m.now trees) (m.schema_is before) (e.3 before broken trees may)), inl refl);
            }
          ])
      dump_ends Halted some e =
          rests_so Halted s.at some e.3 (stopped Halted m.is (λ q. cc) (m.meets.at_is, record { delivery = e.0; ends = next_ends e.0 e.1; fresh = e.2 }) m.meets.store)
      dump_ends _ some e = absurd e.0
