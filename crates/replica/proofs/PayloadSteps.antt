-- A session takes a payload.
use Rattle.replica.proofs.Names.{◌≡◌, ◌≢◌, ℕ, ◌+◌, ◌^◌, ◌<◌, ◌≤◌, Bool, List, [], ◌∷◌, ◌++◌, length, Some, None, MatchOption, inl, inr, refl, sym, ap, subst, ◌∙◌, append_assoc, append-nil, arith, length-append, packing_length, IsUnfinished, Payload, nothing_yet, length_packing, Names, Content, Reason, EndOfInput, SourceError, Wire, Greet, Memory, Ended, Phase, Session, Hello, IsInDump, next_due, next_id, due_after, StopsAt, AppliesAll, Why, BreaksStore, SentFor, GoesOn, HasEnded, HasPayload, due_at, due_of, room_of, IsAnswered, EndsAt}
use Rattle.wire.specs.declared.fault.WireFault.TheVariants as wire
use Rattle.replica.specs.declared.session.phase.Phase.TheVariants as phases
use Rattle.replica.specs.declared.session.phase.Login.{Login}
use Rattle.replica.specs.declared.session.phase.Login.TheVariants as login
use Rattle.replica.specs.End.{rest_of}
use Rattle.replica.specs.Sent.{Sent}
use Rattle.replica.specs.Standing.{Parts, Position, parts_of, sends_on, Stands, first_id_of}
use Rattle.replica.proofs.Push.{due_push, id_is_next, could_ask, no_events, no_deliveries, responds_push, with_message}

-- ---- sessions that go on, and that have ended
pub stands_going : (s : Session) (names : Names) (pos : Position) (is : Bool) (now : Content) → s.ended ≡ None
    → GoesOn (parts_of s) names (sends_on pos s.out.items) is now → Stands s names pos is now
unfolding Stands
stands_going s names pos is now none g =
    subst (λ v. MatchOption v (GoesOn (parts_of s) names (sends_on pos s.out.items) is now) (λ end. HasEnded s.config names (sends_on pos s.out.items) is now end)) (sym none) g

pub stands_ended : (s : Session) (names : Names) (pos : Position) (is : Bool) (now : Content) (end : Ended) → s.ended ≡ Some end
    → HasEnded s.config names (sends_on pos s.out.items) is now end → Stands s names pos is now
unfolding Stands
stands_ended s names pos is now end some h =
    subst (λ v. MatchOption v (GoesOn (parts_of s) names (sends_on pos s.out.items) is now) (λ end. HasEnded s.config names (sends_on pos s.out.items) is now end)) (sym some) h

pub some-none : (e : Ended) → Some e ≡ None → ⊥
some-none e h = cc

-- room for the payload
pub room_left : (s new : Session) (end n : ℕ) → new.at ≡ end → new.assembler.held ≡ [] → s.assembler.held ≡ [] → end ≡ s.at + n → end < 2 ^ 64 → room_of new + n ≤ room_of s
room_left s new end n at held was end_is within =
    let a : length new.assembler.held ≡ 0 = ap length held in
    let z : length s.assembler.held ≡ 0 = ap length was in
    omega (arith, a, z, at, end_is, within)

-- the message expected before the dump
no_dump : (at : Login) → IsInDump (due_at at) → ⊥
no_dump login.Greeting i = i
no_dump _ i = i

pub not_dump : (phase : Phase) (at : Login) → phase ≡ phases.Login at → IsInDump (due_of phase) → ⊥
not_dump phase at is i = no_dump at (subst (λ x. IsInDump (due_of x)) is i)

-- ---- the payload
module _ (parts : Parts) (names : Names) (pos : Position) (is : Bool) (now : Content) (p : Payload) (h : HasPayload parts names pos is now p) where
  pub rest_length : length h.reading.rest ≡ packing_length (length p)
  rest_length = length_packing h.whole.packing

  abbrev pub stops : parts.at + length h.reading.rest < 2 ^ 64 → StopsAt (rest_of h.reading) p
  stops within = record {
    next = record { packing = h.reading.rest; more = []; after = parts.assembly.due; whole = h.whole; bytes = sym (append-nil h.reading.rest) };
    within = subst (λ n. n + length h.reading.rest < 2 ^ 64) h.at_is within;
  }

  pub sent_for : (o : List ℕ) → Sent parts.settings pos.old.executed h.reading.payloads o → SentFor parts.settings names pos.old.executed pos.read parts.at o
  sent_for o s = record { payloads = h.reading.payloads; taken = record { reading = h.reading; payloads_are = refl; at_is = inl h.at_is }; sent = s }

  -- it ends here, after the payloads taken
  pub ended : (reason : Reason) (broken : Bool) → reason ≢ EndOfInput
      → Why (rest_of h.reading) h.reading.deliveries pos.was pos.old now parts.at reason
      → BreaksStore reason pos.was broken → HasEnded parts.settings names pos broken now (record { reason = reason; at = parts.at; applied = parts.applied })
  ended reason broken more why store = record {
    conn = record { reading = h.reading; has_applied = h.has_applied; why = why; kept = h.kept };
    more = more;
    sent = sent_for pos.sent h.sent;
    store = store;
  }

  -- past the greatest offset
  pub too_far : 2 ^ 64 ≤ parts.at + length h.reading.rest → HasEnded parts.settings names pos is now (record { reason = Wire wire.TooLarge; at = parts.at; applied = parts.applied })
  too_far beyond = ended (Wire wire.TooLarge) is (λ e. cc)
      (inl (
        h.at_is,
        inr (
          refl,
          record {
            payload = p;
            next = record { packing = h.reading.rest; more = []; after = parts.assembly.due; whole = h.whole; bytes = sym (append-nil h.reading.rest) };
            beyond = subst (λ n. 2 ^ 64 ≤ n + length h.reading.rest) h.at_is beyond;
          },
        ),
      ))
      h.store

  -- before the dump nothing was taken
  pub nothing_taken : (IsInDump (due_of parts.phase) → ⊥) → now ≡ pos.old
  nothing_taken n =
      let r = h.reading in
      let es : r.events ≡ [] = no_events parts.settings.limit names Hello 0 r.payloads r.front r.events r.id r.talk.talks (λ i. n (subst IsInDump (sym h.awaits) i)) in
      let ds : r.deliveries ≡ [] = no_deliveries r.events r.deliveries es r.talk.delivers in
      (subst (λ l. AppliesAll names pos.old l parts.applied now) ds h.has_applied.applies).1

  -- a message before the dump goes on
  pub message_goes_on : (next : Phase) (end : ℕ) (more : List ℕ) (out new : List ℕ) (o : List ℕ) → (IsInDump (due_of parts.phase) → ⊥) → end ≡ parts.at + length h.reading.rest → end < 2 ^ 64 → pos.sent ≡ o ++ out
      → IsAnswered parts.settings names pos.old.executed (due_of parts.phase) p out new → due_of next ≡ next_due (due_of parts.phase) p
      → GoesOn (record { settings = parts.settings; assembly = record parts.assembly { due = first_id_of next }; gatherer = parts.gatherer; phase = next; at = end; applied = parts.applied }) names (record pos { sent = o ++ new }) is now
  message_goes_on next end more out new o n end_is within all_is a due =
      let r = h.reading in
      let d = due_after r.payloads in
      let within_at : length r.front + length r.rest < 2 ^ 64 = omega (arith, end_is, within, h.at_is) in
      let answers = subst (λ x. Rattle.replica.specs.Stream.Answers names x p []) h.awaits a.answers in
      let is_due = subst (λ x. Rattle.replica.specs.Sent.Responds parts.settings pos.old.executed x p a.replies.bytes) h.awaits a.replies.is_due in
      let no_dump : IsInDump d → ⊥ = λ i. n (subst IsInDump (sym h.awaits) i) in
      let due_next : due_of next ≡ next_due d p = due ∙ ap (λ x. next_due x p) h.awaits in
      record {
        reading = with_message parts.settings.limit names pos.read r p parts.assembly.due h.whole within_at answers;
        held = sym h.held;
        at_is = end_is ∙ ap (λ k. k + length r.rest) h.at_is ∙ sym (length-append r.front r.rest);
        limit = h.limit;
        id = id_is_next d p parts.assembly.due next no_dump due_next;
        reads = h.reads;
        unfinished = subst (λ l. IsUnfinished (next_id d p parts.assembly.due) parts.settings.limit l) (sym h.held) (nothing_yet (next_id d p parts.assembly.due) parts.settings.limit);
        awaits = due_next ∙ sym (due_push Hello r.payloads p);
        gathers = h.gathers;
        has_applied = record {
          applies = h.has_applied.applies;
          asked = λ i. could_ask d p pos.old.executed no_dump (λ q. a.short (h.awaits ∙ q)) (subst IsInDump (due_push Hello r.payloads p) i);
        };
        sent = subst (λ l. Sent parts.settings pos.old.executed (r.payloads ++ p ∷ []) l) (ap (λ l. l ++ a.replies.bytes) all_is ∙ append_assoc o out a.replies.bytes ∙ ap (λ l. o ++ l) (sym a.replies.appended))
            (responds_push parts.settings pos.old.executed Hello r.payloads pos.sent p a.replies.bytes h.sent is_due);
        store = h.store;
        kept = h.kept;
      }

  -- a message before the dump ends it
  pub message_ends_it : (reason : Reason) → parts.at + length h.reading.rest < 2 ^ 64 → EndsAt names pos.old.executed (due_of parts.phase) p reason → HasEnded parts.settings names pos is now (record { reason = reason; at = parts.at; applied = parts.applied })
  message_ends_it (SourceError code state message) within e =
      ended (SourceError code state message) is (λ q. cc) (h.at_is, record { payload = p; stops = stops within; denied = subst (λ x. Rattle.replica.specs.End.Denies names x h.reading.events p (SourceError code state message)) h.awaits e }) h.store
  message_ends_it (Wire f) within e =
      ended (Wire f) is (λ q. cc) (inr (e.0, h.at_is, record { payload = p; stops = stops within; due_is = sym h.awaits ∙ e.1; is_ok = e.2 }, e.3)) h.store
  message_ends_it (Greet f) within e =
      ended (Greet f) is (λ q. cc) (h.at_is, record { payload = p; stops = stops within; denied = subst (λ x. Rattle.replica.specs.End.Denies names x h.reading.events p (Greet f)) h.awaits e }) h.store
  message_ends_it Memory within e = ended Memory is (λ q. cc) h.at_is (λ w. h.store ∙ w)
  message_ends_it _ within e = absurd e
