-- A connection's bytes have an end.
use Rattle.replica.proofs.Names.{◌≡◌, ℕ, zero, suc, ◌+◌, ◌^◌, ◌<◌, ◌⊎◌, false, List, [], ◌∷◌, ◌++◌, length, refl, sym, ap, subst, ◌∙◌, inl, inr, arith, append_assoc, append-nil, length-append, false≢true, AllByRecursion, WireFault, IsUnfinished, Payload, length_packing, Names, EventValue, DeliveryValue, AreDeliveries, IsFromBytes, Content, Reason, EndOfInput, SourceEof, SourceError, Wire, Greet, Event, Gather, Refused, Due, Hello, QueryReply, IsInDump, Carries, Answers, Reading, next_due, next_id, due_after, HasNext, StopsAt, IsWrong, Denies, AppliesAll, IsDumpTooLong, Why, IsInFull}
use Rattle.wire.specs.declared.fault.WireFault.TheVariants as wire
use Rattle.wire.specs.Stream.{Ending, Held, OutOfSequence, TooLarge, IsStream}
use Rattle.wire.proofs.SomeReading.{some_reading}
use Rattle.replica.specs.End.{Rest, rest_of}
use Rattle.replica.specs.Conn.{HasApplied}
use Rattle.replica.specs.Outcome.{HasEnd}
use Rattle.replica.proofs.Bytes.{all_front, all_back, packed_bytes}
use Rattle.replica.proofs.Push.{due_push, could_ask, talks_push, applies_push}
use Rattle.replica.proofs.OneOutcome.{talked_read, in_dump_answer}
use Rattle.replica.proofs.SomeOutcome.{Applying, applies, repeats, refuses, some_outcome}
use Rattle.replica.proofs.TooLong.{too_long}
use Rattle.replica.proofs.SomeMessage.{IsBytes, Tables, Meets, is_message, goes_on, ends_one, ends_log, is_denied, some_meaning}

-- ---- What comes next: less than a payload, a wrong header, or a payload.

data Coming (id limit : ℕ) (rest : List ℕ) : Type 0 where
  nothing : IsUnfinished id limit rest → Coming id limit rest
  wrong : (fault : WireFault) → IsWrong id limit rest fault → Coming id limit rest
  whole : (p : Payload) → HasNext limit id rest p → Coming id limit rest

coming : (id limit : ℕ) (rest : List ℕ) (payloads : List (List ℕ)) (ending : Ending) → IsStream id limit rest payloads ending → Coming id limit rest
coming id limit rest [] (Held due held) s = nothing s.2
coming id limit rest [] (OutOfSequence want got) s = wrong (wire.Sequence want got) s
coming id limit rest [] TooLarge s = wrong wire.TooLarge s
coming id limit rest (p ∷ ps) ending s = whole p (record { packing = s.0; more = s.1; after = s.2; whole = s.4; bytes = s.3 })

some_coming : (id limit : ℕ) (rest : List ℕ) → IsBytes rest → Coming id limit rest
some_coming id limit rest bytes = let s = some_reading id limit rest bytes in coming id limit rest s.0 s.1 s.2

packing_some : (limit id : ℕ) (rest : List ℕ) (p : Payload) (n : HasNext limit id rest p) → length n.more < length rest
packing_some limit id rest p n = omega (arith, ap length n.bytes, length-append n.packing n.more, length_packing n.whole.packing)

-- ---- Whether the dump is asked for now.

query : (due : Due) → (due ≡ QueryReply) ⊎ (due ≡ QueryReply → ⊥)
query QueryReply = inl refl
query _ = inr (λ e. cc)

-- ---- A payload that is not the expected message ends the connection.

module _ (rest : Rest) (ds : List DeliveryValue) (old new : Content) where
  denied_so : (p : Payload) (reason : Reason) → StopsAt rest p → Denies rest.names rest.due rest.events p reason → IsInFull reason × Why rest ds false old new rest.taken reason
  denied_so p (SourceError code state message) s d = (tt, (refl, record { payload = p; stops = s; denied = d }))
  denied_so p (Greet fault) s d = (tt, (refl, record { payload = p; stops = s; denied = d }))
  denied_so p (Event fault) s d = (tt, (refl, record { payload = p; stops = s; denied = d }))
  denied_so p (Gather fault) s d = (tt, (refl, record { payload = p; stops = s; denied = d }))
  denied_so p _ s d = absurd d

-- ---- One payload more.

module _ (limit : ℕ) (names : Names) (b : List ℕ) (r : Reading limit names b) (p : Payload) (n : HasNext limit r.id r.rest p) (within : length r.front + length n.packing < 2 ^ 64) where
  abbrev longer : (first : List EventValue) (more : List DeliveryValue) → Answers names (due_after r.payloads) p first → AreDeliveries (r.events ++ first) (r.deliveries ++ more) → Reading limit names b
  longer first more a d = record {
    payloads = r.payloads ++ p ∷ [];
    front = r.front ++ n.packing;
    events = r.events ++ first;
    deliveries = r.deliveries ++ more;
    id = next_id (due_after r.payloads) p n.after;
    rest = n.more;
    bytes = r.bytes ∙ ap (λ (l : List ℕ). r.front ++ l) n.bytes ∙ sym (append_assoc r.front n.packing n.more);
    talk = record {
      talks = talks_push limit names Hello 0 r.payloads r.front r.events r.id p n.packing n.after first r.talk.talks n.whole a;
      within = subst (λ k. k < 2 ^ 64) (sym (length-append r.front n.packing)) within;
      delivers = d;
    };
  }

-- ---- All payloads.

module _ (limit : ℕ) (names : Names) (old : Content) (b : List ℕ) (bytes : IsBytes b) (short : length b < 2 ^ 64) (tables : Tables) where
  module _ (r : Reading limit names b) (applied : ℕ) (now : Content) (has_applied : HasApplied names old r.deliveries (due_after r.payloads) applied now) where
    abbrev due : Due
    due = due_after r.payloads

    -- it ends here
    stop : (at : ℕ) (reason : Reason) → IsInFull reason → Why (rest_of r) r.deliveries false old now at reason → HasEnd limit names old b
    stop at reason full why = record {
      new = now;
      end = record { reason = reason; at = at; applied = applied };
      in_full = full;
      conn = record { reading = r; has_applied = has_applied; why = why; kept = λ e. absurd (false≢true e) };
    }

    rest_bytes : IsBytes r.rest
    rest_bytes = all_back (λ v. v < 256) r.front r.rest (subst (λ l. IsBytes l) r.bytes bytes)

    events_read : AllByRecursion IsFromBytes r.events
    events_read = talked_read limit names Hello 0 r.payloads r.front r.events r.id (all_front (λ v. v < 256) r.front r.rest (subst (λ l. IsBytes l) r.bytes bytes)) r.talk.talks

    -- or it goes on
    module _ (further : (q : Reading limit names b) (m : ℕ) (c : Content) → HasApplied names old q.deliveries (due_after q.payloads) m c → length q.rest < length r.rest → HasEnd limit names old b) where
      module _ (p : Payload) (n : HasNext limit r.id r.rest p) where
        within : length r.front + length n.packing < 2 ^ 64
        within = omega (arith, short, ap length r.bytes, length-append r.front r.rest, ap length n.bytes, length-append n.packing n.more)

        abbrev stops : StopsAt (rest_of r) p
        stops = record { next = n; within = within }

        on : (first : List EventValue) (more : List DeliveryValue) (m : ℕ) (c : Content) → Answers names due p first → AreDeliveries (r.events ++ first) (r.deliveries ++ more) → AppliesAll names now more m c
            → (IsInDump (next_due due p) → IsDumpTooLong old.executed → ⊥) → HasEnd limit names old b
        on first more m c a d t could =
            further (longer limit names b r p n within first more a d) (applied + m) c
            (record {
              applies = applies_push names old r.deliveries applied now more m c has_applied.applies t;
              asked = λ i. could (subst (λ v. IsInDump v) (due_push Hello r.payloads p) i);
            })
            (packing_some limit r.id r.rest p n)

        -- a message before the dump
        of_message : (IsInDump due → ⊥) → Answers names due p [] → HasEnd limit names old b
        of_message none a =
            let go : (due ≡ QueryReply → IsDumpTooLong old.executed → ⊥) → HasEnd limit names old b =
            λ h. on [] [] 0 now a (subst (λ l. AreDeliveries (r.events ++ []) l) (sym (append-nil r.deliveries)) (subst (λ l. AreDeliveries l r.deliveries) (sym (append-nil r.events)) r.talk.delivers)) (refl, refl) (could_ask due p old.executed none h) in
            elim (query due) [
              | inl is ↦ elim (too_long old.executed) [
                | inl long ↦ stop (length r.front) (Wire wire.TooLarge) tt (inr (refl, refl, record { payload = p; stops = stops; due_is = is; is_ok = (subst (λ d. Answers names d p []) is a).0 }, long))
                | inr fits ↦ go (λ q. fits)
              ]
              | inr other ↦ go (λ q. absurd (other q))
            ]

        -- an event
        could : IsInDump due → IsInDump (next_due due p) → IsDumpTooLong old.executed → ⊥
        could i j = has_applied.asked i

        of_event : IsInDump due → (e : EventValue) → Carries names p e → AreDeliveries (r.events ++ e ∷ []) r.deliveries → HasEnd limit names old b
        of_event i e c d = on (e ∷ []) [] 0 now (in_dump_answer names due p e i c) (subst (λ l. AreDeliveries (r.events ++ e ∷ []) l) (sym (append-nil r.deliveries)) d) (refl, refl) (could i)

        -- an event that ends a transaction
        of_transaction : IsInDump due → (e : EventValue) → Carries names p e → (d : DeliveryValue) → AreDeliveries (r.events ++ e ∷ []) (r.deliveries ++ d ∷ []) → Applying names now d → HasEnd limit names old b
        of_transaction i e c d are (applies new h) = on (e ∷ []) (d ∷ []) 1 new (in_dump_answer names due p e i c) are (inl (new, 0, h, refl, (refl, refl))) (could i)
        of_transaction i e c d are (repeats h) = on (e ∷ []) (d ∷ []) 0 now (in_dump_answer names due p e i c) are (inr (h, (refl, refl))) (could i)
        of_transaction i e c d are (refuses refusal h) =
            stop (length r.front) (Refused refusal) tt
            (refl, record { delivery = d; ends = record { payload = p; stops = stops; in_dump = i; event = e; carries = c; delivers = are }; refused = h })

        of_payload : Meets names due r.events r.deliveries p → HasEnd limit names old b
        of_payload (is_message none a) = of_message none a
        of_payload (goes_on i e c d) = of_event i e c d
        of_payload (ends_one i e c d are) = of_transaction i e c d are (some_outcome names now d)
        of_payload (ends_log i eof) = stop (length r.front + length n.packing) SourceEof tt (record { payload = p; stops = stops; in_dump = i; is_eof = eof; at_is = refl })
        of_payload (is_denied reason d) = let k = denied_so (rest_of r) r.deliveries old now p reason stops d in stop (length r.front) reason k.0 k.1

        payload_bytes : IsBytes p
        payload_bytes = packed_bytes r.id p n.packing n.after n.whole.packing (all_front (λ v. v < 256) n.packing n.more (subst (λ l. IsBytes l) n.bytes rest_bytes))

      step : Coming r.id limit r.rest → HasEnd limit names old b
      step (nothing u) = stop (length r.front) EndOfInput tt (refl, u)
      step (wrong fault w) = stop (length r.front) (Wire fault) tt (inl (refl, inl w))
      step (whole p n) = of_payload p n (some_meaning tables names r.events r.deliveries due p (payload_bytes p n) events_read r.talk.delivers)

  read_on : (fuel : ℕ) (r : Reading limit names b) (applied : ℕ) (now : Content) → HasApplied names old r.deliveries (due_after r.payloads) applied now → length r.rest < fuel → HasEnd limit names old b
  read_on zero r applied now has_applied enough = absurd (omega (arith, enough))
  read_on (suc fuel) r applied now has_applied enough =
      step r applied now has_applied (λ q m c t less. read_on fuel q m c t (omega (arith, enough, less))) (some_coming r.id limit r.rest (rest_bytes r applied now has_applied))

  pub some_end : HasEnd limit names old b
  some_end =
      read_on (suc (length b))
      (record {
        payloads = [];
        front = [];
        events = [];
        deliveries = [];
        id = 0;
        rest = b;
        bytes = refl;
        talk = record { talks = (refl, refl, refl); within = omega arith; delivers = record { blocks = []; cut = refl; each = refl; format_first = refl } };
      })
      0 old (record { applies = (refl, refl); asked = λ i. absurd i }) (omega arith)
