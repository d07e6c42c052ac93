-- The payloads of a scripted source, as a replica reads them.
use Rattle.replica.proofs.Names.{◌≡◌, ℕ, ◌+◌, ◌<◌, ◌≤◌, Bool, true, false, List, [], ◌∷◌, ◌++◌, length, map, flat_map, refl, sym, ap, subst, ◌∙◌, append_assoc, inl, arith, length-append, AllByRecursion, packing_length, IsWholePayload, Payload, length_packing, Names, is_read, TableValue, EventValue, IsEvent, IsFromBytes, Due, Hello, SecondReply, QueryReply, InDump, next_due, next_id, due_from, due_after, Carries, Answers, Talks, ScriptValue, PartValue, events_of, CanSend}
use Rattle.std.proofs.Common.{if◌then◌else◌}
use Rattle.wire.specs.Packet.{IsPacking}
use Rattle.wire.proofs.OnePacking.{none_begins}
use Rattle.greet.specs.Message.{IsOkPacket}
use Rattle.binlog.specs.Event.{format, begin, commit, neutral, stop, rotate, gtid, table_map, other_map, rows, xid}
use Rattle.binlog.specs.Writing.{IsWritable, event_bytes}
use Rattle.binlog.proofs.EventBytes.{written, writes_format, writes_begin, no_other_map}
use Rattle.std.specs.FinSet as set
use Rattle.replica.specs.Stream.{begins_switch}
use Rattle.scripted_source.specs.Script.{part_events, end_event, script_events}
use Rattle.scripted_source.specs.Source.{OpensWith, payload_of, payloads_of, eof_payload, end_payloads, ArePackings, CanSendPart}
use Rattle.replica.proofs.Bytes.{all_front, all_back, all_both, packed_bytes}
use Rattle.replica.proofs.OneEnd.{first_of, one_answer}
use Rattle.replica.proofs.ScriptEvents.{map_seen, seen}

-- ---- Events.

map_read : (names : Names) (t : TableValue) (bytes : List ℕ) (followed : Bool) → is_read names t.schema t.table ≡ followed → IsEvent set.empty (table_map t) bytes → IsEvent names (map_seen followed t) bytes
map_read names t bytes true is w = record { code = w.code; may_ignore = w.may_ignore; body = w.body; framed = w.framed; has_body = (w.has_body.0, w.has_body.1, is) }
map_read names t bytes false is w = record {
  code = w.code;
  may_ignore = w.may_ignore;
  body = w.body;
  framed = w.framed;
  has_body = (w.has_body.0, record { schema = t.schema; table = t.table; rest = w.has_body.1.rest; named = w.has_body.1.named; other = is });
}

-- what is written of an event is read back, whichever tables the reader follows
pub event_read : (names : Names) (e : EventValue) → IsWritable e → IsEvent names (seen names e) (event_bytes e)
event_read names format is = let w = written format is in record { code = w.code; may_ignore = w.may_ignore; body = w.body; framed = w.framed; has_body = w.has_body }
event_read names begin is = let w = written begin is in record { code = w.code; may_ignore = w.may_ignore; body = w.body; framed = w.framed; has_body = w.has_body }
event_read names commit is = let w = written commit is in record { code = w.code; may_ignore = w.may_ignore; body = w.body; framed = w.framed; has_body = w.has_body }
event_read names neutral is = let w = written neutral is in record { code = w.code; may_ignore = w.may_ignore; body = w.body; framed = w.framed; has_body = w.has_body }
event_read names stop is = let w = written stop is in record { code = w.code; may_ignore = w.may_ignore; body = w.body; framed = w.framed; has_body = w.has_body }
event_read names (rotate position name) is = let w = written (rotate position name) is in record { code = w.code; may_ignore = w.may_ignore; body = w.body; framed = w.framed; has_body = w.has_body }
event_read names (gtid source number) is = let w = written (gtid source number) is in record { code = w.code; may_ignore = w.may_ignore; body = w.body; framed = w.framed; has_body = w.has_body }
event_read names (table_map t) is = map_read names t (event_bytes (table_map t)) (is_read names t.schema t.table) refl (written (table_map t) is)
event_read names (other_map id) is = absurd (no_other_map id is)
event_read names (rows r) is = let w = written (rows r) is in record { code = w.code; may_ignore = w.may_ignore; body = w.body; framed = w.framed; has_body = w.has_body }
event_read names (xid number) is = let w = written (xid number) is in record { code = w.code; may_ignore = w.may_ignore; body = w.body; framed = w.framed; has_body = w.has_body }

-- ---- The events of scripts can be written.

parts_writable : (parts : List PartValue) → AllByRecursion CanSendPart parts → AllByRecursion IsWritable (flat_map part_events parts)
parts_writable [] can = tt
parts_writable (part ∷ parts) can = (can.0.events.0, (can.0.events.1.0, parts_writable parts can.1))

script_writable : (script : ScriptValue) → CanSend script → AllByRecursion IsWritable (script_events script)
script_writable script can = (can.gtid, (writes_begin, all_both IsWritable (flat_map part_events script.parts) (end_event script.ending script.number ∷ []) (parts_writable script.parts can.parts) (can.end, tt)))

scripts_writable : (scripts : List ScriptValue) → AllByRecursion CanSend scripts → AllByRecursion IsWritable (flat_map script_events scripts)
scripts_writable [] can = tt
scripts_writable (script ∷ scripts) can = all_both IsWritable (script_events script) (flat_map script_events scripts) (script_writable script can.0) (scripts_writable scripts can.1)

pub events_writable : (scripts : List ScriptValue) → AllByRecursion CanSend scripts → AllByRecursion IsWritable (events_of scripts)
events_writable scripts can = (writes_format, scripts_writable scripts can)

-- ---- Packings in two parts.

pub record Cut (id : ℕ) (ps qs : List Payload) (x : List ℕ) (last : ℕ) : Type 0 where
  pub front : List ℕ
  pub back : List ℕ
  pub mid : ℕ
  pub bytes_are : x ≡ front ++ back
  pub first : ArePackings id ps front mid
  pub second : ArePackings mid qs back last

pub are_cut : (id : ℕ) (ps qs : List Payload) (x : List ℕ) (last : ℕ) → ArePackings id (ps ++ qs) x last → Cut id ps qs x last
are_cut id [] qs x last a = record { front = []; back = x; mid = id; bytes_are = refl; first = (refl, refl); second = a }
are_cut id (p ∷ ps) qs x last a =
    let c = are_cut a.2 ps qs a.1 last a.5 in
    record {
      front = a.0 ++ c.front;
      back = c.back;
      mid = c.mid;
      bytes_are = a.3 ∙ ap (λ (l : List ℕ). a.0 ++ l) c.bytes_are ∙ sym (append_assoc a.0 c.front c.back);
      first = (a.0, c.front, a.2, refl, a.4, c.first);
      second = c.second;
    }

-- ---- The conversation.

pub talks_events : (limit : ℕ) (names : Names) (id : ℕ) (events : List EventValue) (x : List ℕ) (last : ℕ) → AllByRecursion IsWritable events → AllByRecursion (λ p. length p ≤ limit) (payloads_of events)
    → ArePackings id (payloads_of events) x last → Talks limit names (record { due = InDump; id = id }) (payloads_of events) x (map (seen names) events) last
talks_events limit names id [] x last writable short a = (a.0, refl, a.1)
talks_events limit names id (e ∷ events) x last writable short a = (
  a.0,
  a.1,
  seen names e ∷ [],
  map (seen names) events,
  a.2,
  a.3,
  refl,
  record { packing = a.4; within = short.0 },
  (seen names e, record { body = event_bytes e; payload_is = refl; is_event = event_read names e writable.0 }, refl),
  talks_events limit names a.2 events a.1 last writable.1 short.1 a.5,
)

no_switch : (p : Payload) → IsOkPacket p → begins_switch p ≡ false
no_switch p ok = ap begins_switch ok.payload_is

stays : (ps : List Payload) → due_from InDump ps ≡ InDump
stays [] = refl
stays (p ∷ ps) = stays ps

pub dump_due : (greeting login query : Payload) (ps : List Payload) → IsOkPacket login → due_after (greeting ∷ login ∷ query ∷ ps) ≡ InDump
dump_due greeting login query ps ok =
    subst (λ (b : Bool). due_from (next_due (if b then SecondReply else QueryReply) query) ps ≡ InDump) (sym (no_switch login ok)) (stays ps)

pub talks_all : (limit : ℕ) (names : Names) (greeting login query : Payload) (opening : List ℕ) (ps : List Payload) (x : List ℕ) (es : List EventValue) (last : ℕ) → (o : OpensWith greeting login query opening)
    → AllByRecursion (λ p. length p ≤ limit) (greeting ∷ login ∷ query ∷ []) → Talks limit names (record { due = InDump; id = 1 }) ps x es last → Talks limit names (record { due = Hello; id = 0 }) (greeting ∷ login ∷ query ∷ ps) (opening ++ x) es last
talks_all limit names greeting login query opening ps x es last o short t =
    let beyond : Talks limit names (record { due = QueryReply; id = 1 }) (query ∷ ps) (o.third ++ x) es last =
    (o.third, x, [], es, o.after_query, refl, refl, record { packing = o.packs_query; within = short.1.1.0 }, (o.confirms, refl), t) in
    let reply : Talks limit names (record { due = if begins_switch login then SecondReply else QueryReply; id = if begins_switch login then 4 else 1 }) (query ∷ ps) (o.third ++ x) es last =
    subst (λ (b : Bool). Talks limit names (record { due = if b then SecondReply else QueryReply; id = if b then 4 else 1 }) (query ∷ ps) (o.third ++ x) es last) (sym (no_switch login o.lets_in)) beyond in
    let same : opening ++ x ≡ o.first ++ (o.second ++ (o.third ++ x)) =
    ap (λ (l : List ℕ). l ++ x) o.bytes_are ∙ append_assoc o.first (o.second ++ o.third) x ∙ ap (λ (l : List ℕ). o.first ++ l) (append_assoc o.second o.third x) in (
      o.first,
      o.second ++ (o.third ++ x),
      [],
      es,
      o.after_greeting,
      same,
      refl,
      record { packing = o.packs_greeting; within = short.0 },
      (o.greets, refl),
      (o.second, o.third ++ x, [], es, o.after_login, refl, refl, record { packing = o.packs_login; within = short.1.0 }, (inl o.lets_in, refl), reply),
    )

-- ---- Another reading of the same bytes.

-- the events are the first of these
pub record Begins (fs es : List EventValue) : Type 0 where
  pub others : List EventValue
  pub events_are : es ≡ fs ++ others

-- the bytes do not begin with a payload that is expected
abbrev pub IsBlocked : ℕ → Names → Due → ℕ → List ℕ → Type 0
IsBlocked limit names due id r = (p : Payload) (packing left : List ℕ) (beyond : ℕ) (first : List EventValue) → r ≡ packing ++ left → IsWholePayload id limit packing p beyond → Answers names due p first → ⊥

joined : (es e1 e2 fs f1 f2 others : List EventValue) → es ≡ e1 ++ e2 → fs ≡ f1 ++ f2 → e1 ≡ f1 → e2 ≡ f2 ++ others → es ≡ fs ++ others
joined es e1 e2 fs f1 f2 others x y first beyond = x ∙ ap (λ l. l ++ e2) first ∙ ap (λ l. f1 ++ l) beyond ∙ sym (append_assoc f1 f2 others) ∙ ap (λ l. l ++ others) (sym y)

pub beginning : (limit : ℕ) (names : Names) (due : Due) (id : ℕ) (ps : List Payload) (x : List ℕ) (es : List EventValue) (m : ℕ) (r : List ℕ) (qs : List Payload) (y : List ℕ) (fs : List EventValue) (n : ℕ) (s : List ℕ)
    → Talks limit names (record { due = due; id = id }) ps x es m → Talks limit names (record { due = due; id = id }) qs y fs n → x ++ r ≡ y ++ s → IsBlocked limit names (due_from due ps) m r → Begins fs es
beginning limit names due id ps x es m r [] y fs n s a b h blocked = record { others = es; events_are = ap (λ l. l ++ es) (sym b.1) }
beginning limit names due id [] x es m r (q ∷ qs) y fs n s a b h blocked =
    absurd (blocked q b.0 (b.1 ++ s) b.4 b.2
    (ap (λ (l : List ℕ). l ++ r) (sym a.0) ∙ h ∙ ap (λ (l : List ℕ). l ++ s) b.5 ∙ append_assoc b.0 b.1 s)
    (subst (λ k. IsWholePayload k limit b.0 q b.4) (sym a.2) b.7) b.8)
beginning limit names due id (p ∷ ps) x es m r (q ∷ qs) y fs n s a b h blocked =
    let e : a.0 ++ (a.1 ++ r) ≡ b.0 ++ (b.1 ++ s) =
    sym (append_assoc a.0 a.1 r) ∙ ap (λ (l : List ℕ). l ++ r) (sym a.5) ∙ h ∙ ap (λ (l : List ℕ). l ++ s) b.5 ∙ append_assoc b.0 b.1 s in
    let w = none_begins (a.1 ++ r) (b.1 ++ s) a.7.packing b.7.packing e in
    let same : q ≡ p = sym w.0 in
    let firsts : a.2 ≡ b.2 = one_answer names due p a.2 b.2 a.8 (subst (λ v. Answers names due v b.2) same b.8) in
    let after : Talks limit names (record { due = next_due due p; id = next_id due p a.4 }) qs b.1 b.3 n =
    subst (λ k. Talks limit names (record { due = next_due due p; id = next_id due p k }) qs b.1 b.3 n) (sym w.3) (subst (λ v. Talks limit names (record { due = next_due due v; id = next_id due v b.4 }) qs b.1 b.3 n) same b.9) in
    let t = beginning limit names (next_due due p) (next_id due p a.4) ps a.1 a.3 m r qs b.1 b.3 n s a.9 after w.2 blocked in
    record {
      others = t.others;
      events_are = joined es a.2 a.3 fs b.2 b.3 t.others a.6 b.6 firsts t.events_are;
    }

-- ---- Nothing more after the events.

no_bytes : (id : ℕ) (p packing left : List ℕ) (beyond : ℕ) → [] ≡ packing ++ left → IsPacking id p packing beyond → ⊥
no_bytes id p packing left beyond is packs =
    let none : 0 ≡ length packing + length left = ap length is ∙ length-append packing left in
    let some : length packing ≡ packing_length (length p) = length_packing packs in
    absurd (omega (arith, none, some))

no_event : (names : Names) (p : Payload) (e : EventValue) → p ≡ eof_payload → Carries names p e → ⊥
no_event names p e is c = let first = first_of 0xFE 0x00 (0 ∷ 0 ∷ 2 ∷ 0 ∷ []) c.body (sym is ∙ c.payload_is) in absurd (omega (arith, first))

pub ends_there : (limit : ℕ) (names : Names) (once : Bool) (id : ℕ) (r : List ℕ) (last : ℕ) → ArePackings id (end_payloads once) r last → IsBlocked limit names InDump id r
ends_there limit names true id r last a p packing left beyond first is whole answers =
    let w = none_begins left a.1 whole.packing a.4 (sym is ∙ a.3) in
    no_event names p answers.0 w.0 answers.1
ends_there limit names false id r last a p packing left beyond first is whole answers = no_bytes id p packing left beyond (sym a.0 ∙ is) whole.packing

-- ---- Their bytes.

pub are_read : (names : Names) (id : ℕ) (events : List EventValue) (x : List ℕ) (last : ℕ) → AllByRecursion IsWritable events → AllByRecursion (λ b. b < 256) x → ArePackings id (payloads_of events) x last
    → AllByRecursion IsFromBytes (map (seen names) events)
are_read names id [] x last writable bytes a = tt
are_read names id (e ∷ events) x last writable bytes a =
    let both : AllByRecursion (λ b. b < 256) (a.0 ++ a.1) = subst (λ l. AllByRecursion (λ b. b < 256) l) a.3 bytes in
    let own : AllByRecursion (λ b. b < 256) (payload_of e) = packed_bytes id (payload_of e) a.0 a.2 a.4 (all_front (λ b. b < 256) a.0 a.1 both) in (
      record { names = names; bytes = event_bytes e; fits = own.1; is_event = event_read names e writable.0 },
      are_read names a.2 events a.1 last writable.1 (all_back (λ b. b < 256) a.0 a.1 both) a.5,
    )
