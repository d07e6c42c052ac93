-- What ends a connection still ends it when more bytes follow.
use Rattle.replica.proofs.Names.{◌≡◌, ◌≢◌, ℕ, Bool, List, ◌++◌, refl, ap, ◌∙◌, inl, inr, append_assoc, WireFault, Ids, Names, DeliveryValue, Content, Reason, EndOfInput, SourceEof, SourceError, Wire, Greet, Event, Gather, Refused, Database, Memory, ReadFailed, WriteFailed, Halted, Until, Ended, Settings, Reading, Payload, HasNext, StopsAt, EndsLog, StopsFor, IsWrong, Why, Conn, SentFor, IsLeftOfOne}
use Rattle.wire.specs.declared.fault.WireFault.TheVariants as wire
use Rattle.wire.proofs.OneReading.{more_wrong, more_large}
use Rattle.replica.specs.End.{Rest, rest_of, PassesEnd, EndsWith}
use Rattle.replica.specs.Conn.{NextEnds, NextAnswers}
use Rattle.replica.specs.Sent.{Taken}
use Rattle.replica.specs.Crash.{IsOneMore}

pub front-append : (b x rest more : List ℕ) → b ≡ x ++ rest → b ++ more ≡ x ++ (rest ++ more)
front-append b x rest more h = ap (λ (l : List ℕ). l ++ more) h ∙ append_assoc x rest more

-- the same reading, of more bytes
abbrev pub extended : (limit : ℕ) (names : Names) (b more : List ℕ) → Reading limit names b → Reading limit names (b ++ more)
extended limit names b more r = record {
  payloads = r.payloads;
  front = r.front;
  events = r.events;
  deliveries = r.deliveries;
  id = r.id;
  rest = r.rest ++ more;
  bytes = front-append b r.front r.rest more r.bytes;
  talk = r.talk;
}

abbrev pub next-append : (limit id : ℕ) (r : List ℕ) (p : Payload) (more : List ℕ) → HasNext limit id r p → HasNext limit id (r ++ more) p
next-append limit id r p more n = record { packing = n.packing; more = n.more ++ more; after = n.after; whole = n.whole; bytes = front-append r n.packing n.more more n.bytes }

wrong-append : (id limit : ℕ) (r more : List ℕ) (fault : WireFault) → IsWrong id limit r fault → IsWrong id limit (r ++ more) fault
wrong-append id limit r more (wire.Sequence want got) w = more_wrong more w
wrong-append id limit r more wire.TooLarge w = more_large more w
wrong-append id limit r more wire.Memory w = absurd w
wrong-append id limit r more wire.Ended w = absurd w

module _ (rest : Rest) (more : List ℕ) where
  -- the same with more bytes
  abbrev pub with_more : Rest
  with_more = record rest { bytes = rest.bytes ++ more }

  abbrev pub at-append : (p : Payload) → StopsAt rest p → StopsAt with_more p
  at-append p s = record { next = next-append rest.limit rest.id rest.bytes p more s.next; within = s.within }

  passes-append : PassesEnd rest → PassesEnd with_more
  passes-append s = record { payload = s.payload; next = next-append rest.limit rest.id rest.bytes s.payload more s.next; beyond = s.beyond }

  pub log-append : (at : ℕ) → EndsLog rest at → EndsLog with_more at
  log-append at s = record { payload = s.payload; stops = at-append s.payload s.stops; in_dump = s.in_dump; is_eof = s.is_eof; at_is = s.at_is }

  with-append : (reason : Reason) → EndsWith rest reason → EndsWith with_more reason
  with-append reason s = record { payload = s.payload; stops = at-append s.payload s.stops; denied = s.denied }

  pub stops-append : (at : ℕ) (reason : Reason) → reason ≢ EndOfInput → StopsFor rest at reason → StopsFor with_more at reason
  stops-append at EndOfInput h s = absurd (h refl)
  stops-append at SourceEof h s = log-append at s
  stops-append at (SourceError code state message) h s = (s.0, with-append (SourceError code state message) s.1)
  stops-append at (Wire fault) h s = (
    s.0,
    elim s.1 [
      | inl w ↦ inl (wrong-append rest.id rest.limit rest.bytes more fault w)
      | inr e ↦ inr (e.0, passes-append e.1)
    ],
  )
  stops-append at (Greet fault) h s = (s.0, with-append (Greet fault) s.1)
  stops-append at (Event fault) h s = (s.0, with-append (Event fault) s.1)
  stops-append at (Gather fault) h s = (s.0, with-append (Gather fault) s.1)
  stops-append at _ h s = s

  module _ (ds : List DeliveryValue) where
    pub ends-append : (d : DeliveryValue) → NextEnds rest ds d → NextEnds with_more ds d
    ends-append d n = record { payload = n.payload; stops = at-append n.payload n.stops; in_dump = n.in_dump; event = n.event; carries = n.carries; delivers = n.delivers }

    answers-append : NextAnswers rest ds → NextAnswers with_more ds
    answers-append n = record { payload = n.payload; stops = at-append n.payload n.stops; due_is = n.due_is; is_ok = n.is_ok }

    pub why-append : (was : Bool) (old new : Content) (at : ℕ) (reason : Reason) → reason ≢ EndOfInput → Why rest ds was old new at reason → Why with_more ds was old new at reason
    why-append was old new at EndOfInput h w = absurd (h refl)
    why-append was old new at (Wire fault) h w = elim w [
      | inl s ↦ inl (stops-append at (Wire fault) h s)
      | inr s ↦ inr (s.0, s.1, answers-append s.2, s.3)
    ]
    why-append was old new at (Refused refusal) h w = (w.0, record { delivery = w.1.delivery; ends = ends-append w.1.delivery w.1.ends; refused = w.1.refused })
    why-append was old new at (Database cause) h w = (w.0, record { delivery = w.1.delivery; ends = ends-append w.1.delivery w.1.ends; fails = w.1.fails })
    why-append was old new at Memory h w = w
    why-append was old new at ReadFailed h w = w
    why-append was old new at WriteFailed h w = elim w [ inl e ↦ inl e | inr f ↦ inr (log-append at f) ]
    why-append was old new at Halted h w = (w.0, record { delivery = w.1.delivery; ends = ends-append w.1.delivery w.1.ends; fresh = w.1.fresh })
    why-append was old new at Until h w = w
    why-append was old new at reason h w = stops-append at reason h w

-- a connection that has ended has this end whatever follows
pub conn-append : (limit : ℕ) (names : Names) (was : Bool) (old : Content) (b more : List ℕ) (new : Content) (end : Ended) → end.reason ≢ EndOfInput → Conn limit names was old b new end → Conn limit names was old (b ++ more) new end
conn-append limit names was old b more new end h c =
    let r = c.reading in
    record {
      reading = extended limit names b more r;
      has_applied = c.has_applied;
      why = why-append (rest_of r) more r.deliveries was old new end.at end.reason h c.why;
      kept = c.kept;
    }

pub taken-append : (limit : ℕ) (names : Names) (b more : List ℕ) (at : ℕ) (payloads : List Payload) → Taken limit names b at payloads → Taken limit names (b ++ more) at payloads
taken-append limit names b more at payloads t =
    let r = t.reading in
    record {
      reading = extended limit names b more r;
      payloads_are = t.payloads_are;
      at_is = elim t.at_is [
        | inl h ↦ inl h
        | inr h ↦ inr (log-append (rest_of r) more at h)
      ];
    }

pub sent-append : (settings : Settings) (names : Names) (executed : Ids) (b more : List ℕ) (at : ℕ) (o : List ℕ) → SentFor settings names executed b at o → SentFor settings names executed (b ++ more) at o
sent-append settings names executed b more at o s = record { payloads = s.payloads; taken = taken-append settings.limit names b more at s.payloads s.taken; sent = s.sent }

-- and what a crash leaves of it
pub one_more-append : (limit : ℕ) (names : Names) (old : Content) (b more : List ℕ) (new : Content) (end : Ended) (left : Content) → IsOneMore limit names old b new end left → IsOneMore limit names old (b ++ more) new end left
one_more-append limit names old b more new end left m =
    let r = m.reading in
    record {
      cause = m.cause;
      failed = m.failed;
      reading = extended limit names b more r;
      at_is = m.at_is;
      has_applied = m.has_applied;
      next = m.next;
      ends = ends-append (rest_of r) more r.deliveries m.next m.ends;
      outcome = m.outcome;
    }

pub left-append : (limit : ℕ) (names : Names) (old : Content) (b more : List ℕ) (new : Content) (end : Ended) (left : Content) → IsLeftOfOne limit names old b new end left → IsLeftOfOne limit names old (b ++ more) new end left
left-append limit names old b more new end left l = elim l [ inl e ↦ inl e | inr m ↦ inr (one_more-append limit names old b more new end left m) ]
