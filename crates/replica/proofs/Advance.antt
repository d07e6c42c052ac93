-- One step of a session: some bytes, and what they complete.
use Rattle.replica.proofs.Names.{◌≡◌, ℕ, Bool, true, false, List, [], ◌++◌, refl, sym, ap, ◌∙◌, inl, inr, Option, Some, None, is_some, unwrap_or, subst, true≢false, WireFault, IsWholePayload, IsUnfinished, Payload, Names, Ghosts, Schema, Content, Store, EndOfInput, Memory, Wire, Ended, Session, IsWrong, IsLeftOfOne, GoesOn, HasEnded, HasPayload, end_of, StandsOver, LeavesOnly}
use Rattle.std.proofs.Common.{IfSome, IfNone}
use Rattle.wire.specs.declared.fault.WireFault.TheVariants as wire
use Rattle.wire.specs.Payload.{IsOutOfSequence, IsTooLarge}
use Rattle.replica.specs.PayloadStep.{reason_of}
use Rattle.replica.specs.Standing.{Parts, Position, parts_of, reads_on, sends_on, Stands}
use Rattle.replica.specs.Over.{MeetsOver}
use Rattle.replica.proofs.Extend.{extended, left-append}
use Rattle.replica.proofs.Positions.{stands-append, going}

module _ (parts : Parts) (names : Names) (pos : Position) (is : Bool) (now : Content) (more : List ℕ) (g : GoesOn parts names pos is now) where
  -- a header is wrong
  ended-wire : (fault : WireFault) → IsWrong g.reading.id parts.settings.limit (g.reading.rest ++ more) fault → HasEnded parts.settings names (reads_on pos more) is now (record { reason = Wire fault; at = parts.at; applied = parts.applied })
  ended-wire fault w = record {
    conn = record { reading = extended parts.settings.limit names pos.read more g.reading; has_applied = g.has_applied; why = inl (g.at_is, inl w); kept = g.kept };
    more = λ e. cc;
    sent = record { payloads = g.reading.payloads; taken = record { reading = extended parts.settings.limit names pos.read more g.reading; payloads_are = refl; at_is = inl g.at_is }; sent = g.sent };
    store = g.store;
  }

  -- memory ran out
  ended-memory : HasEnded parts.settings names (reads_on pos more) is now (record { reason = Memory; at = parts.at; applied = parts.applied })
  ended-memory = record {
    conn = record { reading = extended parts.settings.limit names pos.read more g.reading; has_applied = g.has_applied; why = g.at_is; kept = g.kept };
    more = λ e. cc;
    sent = record { payloads = g.reading.payloads; taken = record { reading = extended parts.settings.limit names pos.read more g.reading; payloads_are = refl; at_is = inl g.at_is }; sent = g.sent };
    store = λ h. g.store ∙ h;
  }

  rest-now : g.reading.rest ++ more ≡ parts.assembly.held ++ more
  rest-now = ap (λ (l : List ℕ). l ++ more) g.held

  reported_as : (fault : WireFault)
      → ((want got : ℕ) → fault ≡ wire.Sequence want got → IsOutOfSequence parts.assembly.due parts.assembly.limit (parts.assembly.held ++ more) want got) → (fault ≡ wire.TooLarge → IsTooLarge parts.assembly.due parts.assembly.limit (parts.assembly.held ++ more)) → (fault ≡ wire.Ended → parts.assembly.ended ≡ true)
      → HasEnded parts.settings names (reads_on pos more) is now (record { reason = reason_of fault; at = parts.at; applied = parts.applied })
  reported_as (wire.Sequence want got) sequence large ended =
      ended-wire (wire.Sequence want got)
      (subst (λ l. IsOutOfSequence g.reading.id parts.settings.limit l want got) (sym rest-now)
      (subst (λ n. IsOutOfSequence g.reading.id n (parts.assembly.held ++ more) want got) g.limit (subst (λ n. IsOutOfSequence n parts.assembly.limit (parts.assembly.held ++ more) want got) g.id (sequence want got refl))))
  reported_as wire.TooLarge sequence large ended =
      ended-wire wire.TooLarge
      (subst (λ l. IsTooLarge g.reading.id parts.settings.limit l) (sym rest-now)
      (subst (λ n. IsTooLarge g.reading.id n (parts.assembly.held ++ more)) g.limit (subst (λ n. IsTooLarge n parts.assembly.limit (parts.assembly.held ++ more)) g.id (large refl))))
  reported_as wire.Memory sequence large ended = ended-memory
  reported_as wire.Ended sequence large ended = absurd (true≢false (sym (ended refl) ∙ g.reads))

  -- no payload is whole yet
  goes_on-unfinished : IsUnfinished parts.assembly.due parts.assembly.limit (parts.assembly.held ++ more) → GoesOn (record parts { assembly = record parts.assembly { held = parts.assembly.held ++ more } }) names (reads_on pos more) is now
  goes_on-unfinished u = record {
    reading = extended parts.settings.limit names pos.read more g.reading;
    held = rest-now;
    at_is = g.at_is;
    limit = g.limit;
    id = g.id;
    reads = g.reads;
    unfinished = subst (λ n. IsUnfinished g.reading.id n (parts.assembly.held ++ more)) g.limit (subst (λ n. IsUnfinished n parts.assembly.limit (parts.assembly.held ++ more)) g.id u);
    awaits = g.awaits;
    gathers = g.gathers;
    has_applied = g.has_applied;
    sent = g.sent;
    store = g.store;
    kept = g.kept;
  }

  -- a payload is whole
  has_payload : (p : Payload) (next : ℕ) → IsWholePayload parts.assembly.due parts.assembly.limit (parts.assembly.held ++ more) p next → HasPayload (record parts { assembly = record parts.assembly { due = next; held = [] } }) names (reads_on pos more) is now p
  has_payload p next whole = record {
    reading = extended parts.settings.limit names pos.read more g.reading;
    whole = subst (λ l. IsWholePayload g.reading.id parts.settings.limit l p next) (sym rest-now)
        (subst (λ n. IsWholePayload g.reading.id n (parts.assembly.held ++ more) p next) g.limit (subst (λ n. IsWholePayload n parts.assembly.limit (parts.assembly.held ++ more) p next) g.id whole));
    at_is = g.at_is;
    limit = g.limit;
    held = refl;
    reads = g.reads;
    awaits = g.awaits;
    gathers = g.gathers;
    has_applied = g.has_applied;
    sent = g.sent;
    store = g.store;
    kept = g.kept;
  }

-- what a crash leaves of a session that goes on
left_here : (session : Session) (limit : ℕ) (names : Names) (old : Content) (b : List ℕ) (now left : Content) → session.ended ≡ None → IsLeftOfOne limit names old b now (end_of session) left → left ≡ now
left_here session limit names old b now left none l = elim l [
  | inl e ↦ e
  | inr m ↦ (
      let going_on : (end_of session).reason ≡ EndOfInput = ap (λ (v : Option Ended). (unwrap_or v (record { reason = EndOfInput; at = session.at; applied = session.applied })).reason) none in
      let failed = m.failed in
      cc
      )
]

module _ {S : Type 0} (g : Ghosts S) (store : Store S g) (schema : Schema) (pos : Position) where
  leaves_now : (session : Session) (limit : ℕ) (now : Content) → session.ended ≡ None
      → LeavesOnly g schema store (IsLeftOfOne limit store.following pos.old pos.read now (end_of session)) → LeavesOnly g schema store (λ left. left ≡ now)
  leaves_now session limit now none l = record {
    each = λ trees may.
        let e = l.each trees may in
        (e.0, e.1, left_here session limit store.following pos.old pos.read now e.0 none e.2);
  }

  leaves_so : (limit : ℕ) (now : Content) (end : Ended) (bytes : List ℕ) → LeavesOnly g schema store (λ left. left ≡ now) → LeavesOnly g schema store (IsLeftOfOne limit store.following pos.old bytes now end)
  leaves_so limit now end bytes l = record {
    each = λ trees may.
        let e = l.each trees may in
        (e.0, e.1, inl e.2);
  }

  -- after the end the session reads nothing
  pub over-append : (session : Session) (more : List ℕ) → is_some session.ended ≡ true → StandsOver g session store schema pos → StandsOver g session store schema (reads_on pos more)
  over-append session more ended s = record {
    is = s.is;
    now = s.now;
    holds = s.holds;
    stands = stands-append session store.following pos s.is s.now more ended s.stands;
    schema_is = s.schema_is;
    leaves = λ w. record {
      each = λ trees may.
          let e = (s.leaves w).each trees may in
          (e.0, e.1, left-append session.config.limit store.following pos.old pos.read more s.now (end_of session) e.0 e.2);
    };
  }

  -- a header was wrong, or memory ran out
  pub over-fault : (session after : Session) (more : List ℕ) (fault : WireFault) → session.ended ≡ None
      → after.config ≡ session.config → after.out ≡ session.out → after.ended ≡ Some (record { reason = reason_of fault; at = session.at; applied = session.applied })
      → ((want got : ℕ) → fault ≡ wire.Sequence want got → IsOutOfSequence session.assembler.due session.assembler.limit (session.assembler.held ++ more) want got)
      → (fault ≡ wire.TooLarge → IsTooLarge session.assembler.due session.assembler.limit (session.assembler.held ++ more)) → (fault ≡ wire.Ended → session.assembler.ended ≡ true)
      → StandsOver g session store schema pos → StandsOver g after store schema (reads_on pos more)
  unfolding Stands
  over-fault session after more fault none config out ended_so sequence large ended s =
      let goes = going session store.following pos s.is s.now none s.stands in
      let has = reported_as (parts_of session) store.following (sends_on pos session.out.items) s.is s.now more goes fault sequence large ended in
      record {
        is = s.is;
        now = s.now;
        holds = s.holds;
        stands = rw (ended_so, config, out) has;
        schema_is = s.schema_is;
        leaves = λ w. leaves_so after.config.limit s.now (end_of after) (pos.read ++ more) (leaves_now session session.config.limit s.now none (s.leaves w));
      }

  -- no payload was whole
  pub over-unfinished : (session after : Session) (more : List ℕ) → session.ended ≡ None → after.ended ≡ None
      → after.config ≡ session.config → after.assembler ≡ record session.assembler { held = session.assembler.held ++ more } → after.gatherer ≡ session.gatherer → after.phase ≡ session.phase
      → after.at ≡ session.at → after.applied ≡ session.applied → after.out ≡ session.out
      → IsUnfinished session.assembler.due session.assembler.limit (session.assembler.held ++ more)
      → StandsOver g session store schema pos → StandsOver g after store schema (reads_on pos more)
  unfolding Stands
  over-unfinished session after more none still config assembler gatherer phase at applied out u s =
      let goes = going session store.following pos s.is s.now none s.stands in
      let on = goes_on-unfinished (parts_of session) store.following (sends_on pos session.out.items) s.is s.now more goes u in
      record {
        is = s.is;
        now = s.now;
        holds = s.holds;
        stands = rw (still, config, assembler, gatherer, phase, at, applied, out) on;
        schema_is = s.schema_is;
        leaves = λ w. leaves_so after.config.limit s.now (end_of after) (pos.read ++ more) (leaves_now session session.config.limit s.now none (s.leaves w));
      }

  -- a payload has come
  pub over-payload : (session after : Session) (more : List ℕ) (p : Payload) (next : ℕ) → session.ended ≡ None
      → after.config ≡ session.config → after.assembler ≡ record session.assembler { due = next; held = [] } → after.gatherer ≡ session.gatherer → after.phase ≡ session.phase
      → after.at ≡ session.at → after.applied ≡ session.applied → after.out ≡ session.out
      → IsWholePayload session.assembler.due session.assembler.limit (session.assembler.held ++ more) p next
      → StandsOver g session store schema pos → MeetsOver g after store schema (reads_on pos more) p
  over-payload session after more p next none config assembler gatherer phase at applied out whole s =
      let goes = going session store.following pos s.is s.now none s.stands in
      let has = has_payload (parts_of session) store.following (sends_on pos session.out.items) s.is s.now more goes p next whole in
      record {
        is = s.is;
        now = s.now;
        holds = s.holds;
        meets = rw (config, assembler, gatherer, phase, at, applied, out) has;
        schema_is = s.schema_is;
        leaves = λ w. leaves_now session session.config.limit s.now none (s.leaves w);
      }

pub none_after : (v : Option Ended) → is_some v ≡ false → v ≡ None
none_after None e = refl
none_after (Some end) e = absurd (true≢false e)

pub at_some : {X : Type 0} (P : X → Type 0) (v : Option X) (x : X) → v ≡ Some x → IfSome v P → P x
at_some P v x e h = subst (λ (w : Option _). IfSome w P) e h

pub at_none : {X : Type 0} (P : Type 0) (v : Option X) → v ≡ None → IfNone v P → P
at_none P v e h = subst (λ (w : Option _). IfNone w P) e h
