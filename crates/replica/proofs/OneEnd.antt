-- A connection's bytes have one end.
use Rattle.replica.proofs.Names.{◌≡◌, ◌≢◌, ℕ, ◌⊎◌, ◌≤◌, ◌<◌, ◌+◌, ◌^◌, false, List, [], ◌∷◌, ◌++◌, length, take, refl, sym, ap, ◌∙◌, inl, inr, Some, None, Option, subst, append_assoc, arith, length-append, AllByRecursion, true≢false, WireFault, IsWholePayload, IsUnfinished, Payload, Names, EventValue, IsEvent, DeliveryValue, AreDeliveries, Reason, EndOfInput, SourceEof, SourceError, Wire, Greet, Event, Gather, Due, Hello, Reply, SecondReply, QueryReply, InDump, IsInDump, Carries, Answers, Talks, Reading, next_due, next_id, due_from, refusal_of, begins_event, IsNoEvent, HasNext, StopsAt, EndsLog, StopsFor, IsWrong, Denies, End}
use Rattle.std.proofs.Common.{if◌then◌else◌, ◌==◌}
use Rattle.std.proofs.Math.Seq.{take-append_seam}
use Rattle.wire.specs.declared.fault.WireFault.TheVariants as wire
use Rattle.wire.specs.Payload.{IsOutOfSequence, IsTooLarge}
use Rattle.wire.proofs.OnePacking.{none_begins}
use Rattle.wire.proofs.OneReading.{wrong_or_whole, large_or_whole, one_wrong_id, wrong_or_large}
use Rattle.greet.specs.Message.{IsEofPacket}
use Rattle.greet.specs.Refusal.{Refusal, server_error}
use Rattle.greet.specs.View.{Refuses}
use Rattle.greet.specs.declared.fault.GreetFault.{GreetFault}
use Rattle.greet.specs.declared.fault.GreetFault.TheVariants as greet
use Rattle.greet.proofs.Replies.{switch_not_refused, ok_not_refused, ok_reply_not_refused, eof_not_refused}
use Rattle.greet.proofs.Greetings.{not_refused}
use Rattle.binlog.specs.Event.{event_fault}
use Rattle.binlog.specs.declared.fault.EventFault.{EventFault}
use Rattle.binlog.proofs.Events.{one_event, event_not_refused}
use Rattle.gather.specs.Transaction.{IsLawful}
use Rattle.gather.specs.Fault.{IsFault}
use Rattle.gather.specs.declared.fault.GatherFault.{GatherFault}
use Rattle.gather.proofs.NextEvents.{not_both, one as one_fault}
use Rattle.gather.proofs.ShorterLists.{beginning}
use Rattle.replica.specs.Message.{IsOfMessage}
use Rattle.replica.specs.Report.{Report, Verdict, report_of, reported_refusal}
use Rattle.replica.specs.Report as reported
use Rattle.replica.specs.End.{Rest, rest_of, PassesEnd, EndsWith}
use Rattle.replica.proofs.Bytes.{all_front, all_back, packed_bytes}

-- ---- What a payload carries.
pub carries_same : (names : Names) (p : Payload) (e f : EventValue) → Carries names p e → Carries names p f → e ≡ f
carries_same names p e f c d =
    let same : c.body ≡ d.body = (let x = c.payload_is in let y = d.payload_is in cc) in
    one_event names e f d.body (subst (λ l. IsEvent names e l) same c.is_event) d.is_event

pub one_answer : (names : Names) (due : Due) (p : Payload) (es fs : List EventValue) → Answers names due p es → Answers names due p fs → es ≡ fs
one_answer names InDump p es fs a b = a.2 ∙ ap (λ e. e ∷ []) (carries_same names p a.0 b.0 a.1 b.1) ∙ sym b.2
one_answer names _ p es fs a b = a.1 ∙ sym b.1

pub first_of : (x y : ℕ) (xs ys : List ℕ) → x ∷ xs ≡ y ∷ ys → x ≡ y
first_of x y xs ys h = cc

-- an event is not an end of the log
no_eof : (names : Names) (p body : List ℕ) → p ≡ 0x00 ∷ body → IsEofPacket p → ⊥
no_eof names p body is eof =
    let first = first_of 0x00 0xFE body (eof.counters ++ eof.ignored) (sym is ∙ eof.payload_is) in
    absurd (omega (arith, first))

begins : (p body : List ℕ) → p ≡ 0x00 ∷ body → IsNoEvent InDump p → ⊥
begins p body is none = absurd (true≢false (subst (λ l. IsNoEvent InDump l) is none))

-- the expected message is not refused
answered : (names : Names) (due : Due) (p : Payload) (es : List EventValue) → Answers names due p es → IsNoEvent due p → refusal_of due p ≡ None
answered names Hello p es a none = not_refused a.0.value p a.0.is
answered names Reply p es a none = elim a.0 [ inl ok ↦ ok_reply_not_refused p ok | inr s ↦ switch_not_refused s.scramble p s.is ]
answered names SecondReply p es a none = ok_not_refused p a.0
answered names QueryReply p es a none = ok_not_refused p a.0
answered names InDump p es a none = absurd (begins p a.1.body a.1.payload_is none)

nothing_refused : (fault : GreetFault) → IsOfMessage fault → Refuses None fault → ⊥
nothing_refused (greet.ServerError code state message) h r = h
nothing_refused greet.Memory h r = h
nothing_refused _ h r = cc

pub in_dump : (names : Names) (due : Due) (p : Payload) (es : List EventValue) → IsInDump due → Answers names due p es → (e : EventValue) × Carries names p e × (es ≡ e ∷ [])
in_dump names InDump p es h a = a
in_dump names _ p es h a = absurd h

-- ---- Two readings of the same bytes.

-- what was read of bytes: payloads, the bytes that pack them, their events; and what is left: the next sequence id, the bytes
pub record Part : Type 0 where
  pub payloads : List Payload
  pub front : List ℕ
  pub events : List EventValue
  pub id : ℕ
  pub rest : List ℕ

abbrev pub part_of : {limit : ℕ} {names : Names} {b : List ℕ} → Reading limit names b → Part
part_of r = record { payloads = r.payloads; front = r.front; events = r.events; id = r.id; rest = r.rest }

-- what is left after such a part, if it begins where this message is expected
abbrev pub after_part : ℕ → Names → Due → Part → Rest
after_part limit names due x = record { limit = limit; names = names; due = due_from due x.payloads; events = x.events; taken = length x.front; id = x.id; bytes = x.rest }

-- where these bytes are left, the other reading, of the bytes y with the events fs, goes on with a payload
pub record Further (rest : Rest) (y : List ℕ) (fs : List EventValue) : Type 0 where
  pub payload : Payload
  pub packing : List ℕ
  pub left : List ℕ
  pub after : ℕ
  pub first : List EventValue
  pub others : List EventValue
  pub whole : IsWholePayload rest.id rest.limit packing payload after
  pub rest_is : rest.bytes ≡ packing ++ left
  pub answers : Answers rest.names rest.due payload first
  pub within : rest.taken + length packing ≤ length y
  pub events : fs ≡ rest.events ++ (first ++ others)

-- the part y goes on after the part x
pub record Ahead (limit : ℕ) (names : Names) (due : Due) (x y : Part) : Type 0 where
  pub further : Further (after_part limit names due x) y.front y.events
  pub fewer : length x.payloads < length y.payloads
  pub next : Payload
  pub more : List Payload
  pub payloads : y.payloads ≡ x.payloads ++ (next ∷ more)

pub record Same (x y : Part) : Type 0 where
  pub payloads : x.payloads ≡ y.payloads
  pub front : x.front ≡ y.front
  pub events : x.events ≡ y.events
  pub id : x.id ≡ y.id
  pub rest : x.rest ≡ y.rest

abbrev pub Compared : ℕ → Names → Due → Part → Part → Type 0
Compared limit names due x y = Same x y ⊎ (Ahead limit names due x y ⊎ Ahead limit names due y x)

pub same_part : (x y : Part) → Same x y → x ≡ y
same_part x y e = λ i. record { payloads = e.payloads i; front = e.front i; events = e.events i; id = e.id i; rest = e.rest i }

longer : (x x1 x2 y y1 y2 z : List ℕ) → x ≡ x1 ++ x2 → y ≡ y1 ++ y2 → x1 ≡ y1 → length x2 + length z ≤ length y2 → length x + length z ≤ length y
longer x x1 x2 y y1 y2 z xs ys e h =
    let a : length x ≡ length x1 + length x2 = ap length xs ∙ length-append x1 x2 in
    let b : length y ≡ length y1 + length y2 = ap length ys ∙ length-append y1 y2 in
    let c : length x1 ≡ length y1 = ap length e in
    omega arith

grow : (rest : Rest) (x x1 x2 y y1 y2 : List ℕ) (e1 e2 fs f1 f2 : List EventValue) → rest.taken ≡ length x → x ≡ x1 ++ x2 → y ≡ y1 ++ y2 → x1 ≡ y1 → rest.events ≡ e1 ++ e2 → fs ≡ f1 ++ f2 → e1 ≡ f1
    → Further (record rest { taken = length x2; events = e2 }) y2 f2 → Further rest y fs
grow rest x x1 x2 y y1 y2 e1 e2 fs f1 f2 taken xs ys front esplit fsplit first f = record {
  payload = f.payload;
  packing = f.packing;
  left = f.left;
  after = f.after;
  first = f.first;
  others = f.others;
  whole = f.whole;
  rest_is = f.rest_is;
  answers = f.answers;
  within = subst (λ n. n + length f.packing ≤ length y) (sym taken) (longer x x1 x2 y y1 y2 f.packing xs ys front f.within);
  events = fsplit ∙ ap (λ l. f1 ++ l) f.events ∙ ap (λ l. l ++ (e2 ++ (f.first ++ f.others))) (sym first) ∙ sym (append_assoc e1 e2 (f.first ++ f.others)) ∙ ap (λ l. l ++ (f.first ++ f.others)) (sym esplit);
}

ahead : (limit : ℕ) (names : Names) (due : Due) (id m : ℕ) (x : List ℕ) (es : List EventValue) (r : List ℕ) (q : Payload) (qs : List Payload) (y : List ℕ) (fs : List EventValue) (n : ℕ) (s : List ℕ)
    → Talks limit names (record { due = due; id = id }) [] x es m → Talks limit names (record { due = due; id = id }) (q ∷ qs) y fs n → x ++ r ≡ y ++ s
    → Ahead limit names due (record { payloads = []; front = x; events = es; id = m; rest = r }) (record { payloads = q ∷ qs; front = y; events = fs; id = n; rest = s })
ahead limit names due id m x es r q qs y fs n s a b h = record {
  further = record {
    payload = q;
    packing = b.0;
    left = b.1 ++ s;
    after = b.4;
    first = b.2;
    others = b.3;
    whole = subst (λ k. IsWholePayload k limit b.0 q b.4) (sym a.2) b.7;
    rest_is = ap (λ l. l ++ r) (sym a.0) ∙ h ∙ ap (λ l. l ++ s) b.5 ∙ append_assoc b.0 b.1 s;
    answers = b.8;
    within = (
        let none : length x ≡ 0 = ap length a.0 in
        let cut : length y ≡ length b.0 + length b.1 = ap length b.5 ∙ length-append b.0 b.1 in
        omega arith
        );
    events = b.6 ∙ ap (λ l. l ++ (b.2 ++ b.3)) (sym a.1);
  };
  fewer = omega arith;
  next = q;
  more = qs;
  payloads = refl;
}

compare : (limit : ℕ) (names : Names) (due : Due) (id : ℕ) (ps : List Payload) (x : List ℕ) (es : List EventValue) (m : ℕ) (r : List ℕ) (qs : List Payload) (y : List ℕ) (fs : List EventValue) (n : ℕ) (s : List ℕ)
    → Talks limit names (record { due = due; id = id }) ps x es m → Talks limit names (record { due = due; id = id }) qs y fs n → x ++ r ≡ y ++ s
    → Compared limit names due (record { payloads = ps; front = x; events = es; id = m; rest = r }) (record { payloads = qs; front = y; events = fs; id = n; rest = s })
compare limit names due id [] x es m r [] y fs n s a b h = inl (record {
  payloads = refl;
  front = a.0 ∙ sym b.0;
  events = a.1 ∙ sym b.1;
  id = a.2 ∙ sym b.2;
  rest = ap (λ l. l ++ r) (sym a.0) ∙ h ∙ ap (λ l. l ++ s) b.0;
})
compare limit names due id [] x es m r (q ∷ qs) y fs n s a b h = inr (inl (ahead limit names due id m x es r q qs y fs n s a b h))
compare limit names due id (p ∷ ps) x es m r [] y fs n s a b h = inr (inr (ahead limit names due id n y fs s p ps x es m r b a (sym h)))
compare limit names due id (p ∷ ps) x es m r (q ∷ qs) y fs n s a b h =
    let e : a.0 ++ (a.1 ++ r) ≡ b.0 ++ (b.1 ++ s) = sym (append_assoc a.0 a.1 r) ∙ ap (λ l. l ++ r) (sym a.5) ∙ h ∙ ap (λ l. l ++ s) b.5 ∙ append_assoc b.0 b.1 s in
    let w = none_begins (a.1 ++ r) (b.1 ++ s) a.7.packing b.7.packing e in
    let same : q ≡ p = sym w.0 in
    let firsts : a.2 ≡ b.2 = one_answer names due p a.2 b.2 a.8 (subst (λ v. Answers names due v b.2) same b.8) in
    let after : Talks limit names (record { due = next_due due p; id = next_id due p a.4 }) qs b.1 b.3 n =
    subst (λ k. Talks limit names (record { due = next_due due p; id = next_id due p k }) qs b.1 b.3 n) (sym w.3) (subst (λ v. Talks limit names (record { due = next_due due v; id = next_id due v b.4 }) qs b.1 b.3 n) same b.9) in
    elim (compare limit names (next_due due p) (next_id due p a.4) ps a.1 a.3 m r qs b.1 b.3 n s a.9 after w.2) [
      | inl t ↦ inl (record {
        payloads = ap (λ v. v ∷ ps) w.0 ∙ ap (λ l. q ∷ l) t.payloads;
        front = a.5 ∙ ap (λ l. l ++ a.1) w.1 ∙ ap (λ l. b.0 ++ l) t.front ∙ sym b.5;
        events = a.6 ∙ ap (λ l. l ++ a.3) firsts ∙ ap (λ l. b.2 ++ l) t.events ∙ sym b.6;
        id = t.id;
        rest = t.rest;
      })
      | inr o ↦ elim o [
        | inl f ↦ inr (inl (record {
          further = grow (after_part limit names (next_due due p) (record { payloads = ps; front = x; events = es; id = m; rest = r })) x a.0 a.1 y b.0 b.1 a.2 a.3 fs b.2 b.3 refl a.5 b.5 w.1 a.6 b.6 firsts f.further;
          fewer = let less : length ps < length qs = f.fewer in omega arith;
          next = f.next;
          more = f.more;
          payloads = ap (λ v. v ∷ qs) same ∙ ap (λ l. p ∷ l) f.payloads;
        }))
        | inr f ↦ inr (inr (record {
          further = subst (λ v. Further (after_part limit names (next_due due v) (record { payloads = qs; front = y; events = fs; id = n; rest = s })) x es) w.0
              (grow (after_part limit names (next_due due p) (record { payloads = qs; front = y; events = fs; id = n; rest = s })) y b.0 b.1 x a.0 a.1 b.2 b.3 es a.2 a.3 refl b.5 a.5 (sym w.1) b.6 a.6 (sym firsts) f.further);
          fewer = let less : length qs < length ps = f.fewer in omega arith;
          next = f.next;
          more = f.more;
          payloads = ap (λ v. v ∷ ps) w.0 ∙ ap (λ l. q ∷ l) f.payloads;
        }))
      ]
    ]

-- ---- What stops a reading, and a payload that would go on.
-- bytes that begin with a whole payload are not unfinished, and none of their headers is wrong
not_unfinished : (id limit : ℕ) (r packing left : List ℕ) (p : Payload) (beyond : ℕ) → IsUnfinished id limit r → IsWholePayload id limit packing p beyond → r ≡ packing ++ left → ⊥
not_unfinished id limit r packing left p beyond u w e =
    u.not_whole (length packing) p beyond (subst (λ l. IsWholePayload id limit l p beyond) (sym (ap (λ l. take (length packing) l) e ∙ take-append_seam packing left)) w)

not_wrong : (id limit : ℕ) (r packing left : List ℕ) (p : Payload) (beyond : ℕ) (fault : WireFault) → IsWrong id limit r fault → IsWholePayload id limit packing p beyond → r ≡ packing ++ left → ⊥
not_wrong id limit r packing left p beyond (wire.Sequence want got) h w e = wrong_or_whole left (subst (λ l. IsOutOfSequence id limit l want got) e h) w
not_wrong id limit r packing left p beyond wire.TooLarge h w e = large_or_whole left (subst (λ l. IsTooLarge id limit l) e h) w
not_wrong id limit r packing left p beyond wire.Memory h w e = absurd h
not_wrong id limit r packing left p beyond wire.Ended h w e = absurd h

-- the next payload is one
pub same_next : (id limit : ℕ) (r packing left : List ℕ) (p q : Payload) (beyond : ℕ) (n : HasNext limit id r q) → IsWholePayload id limit packing p beyond → r ≡ packing ++ left → (q ≡ p) × (n.packing ≡ packing)
same_next id limit r packing left p q beyond n w e =
    let k = none_begins n.more left n.whole.packing w.packing (sym n.bytes ∙ e) in
    (k.0, k.1)

not_past : (rest : Rest) (packing left : List ℕ) (p : Payload) (beyond : ℕ) → PassesEnd rest
    → IsWholePayload rest.id rest.limit packing p beyond → rest.bytes ≡ packing ++ left → rest.taken + length packing < 2 ^ 64 → ⊥
not_past rest packing left p beyond past w e within =
    let k = same_next rest.id rest.limit rest.bytes packing left p past.payload beyond past.next w e in
    let long : 2 ^ 64 ≤ rest.taken + length packing = subst (λ l. 2 ^ 64 ≤ rest.taken + length l) k.1 past.beyond in
    absurd (omega arith)

lawful : (es first others fs : List EventValue) (ds : List DeliveryValue) (e : EventValue) → fs ≡ es ++ (first ++ others) → first ≡ e ∷ [] → AreDeliveries fs ds → IsLawful (es ++ e ∷ [])
lawful es first others fs ds e split one are =
    let cut : fs ≡ (es ++ e ∷ []) ++ others = split ∙ ap (λ l. es ++ (l ++ others)) one ∙ sym (append_assoc es (e ∷ []) others) in
    let h = beginning (es ++ e ∷ []) others ds (subst (λ l. AreDeliveries l ds) cut are) in
    record { deliveries = h.first; are = h.are }

apart : (A : Type 0) (o : Option A) (v : A) → o ≡ None → o ≡ Some v → ⊥
apart A o v none some = cc

eof_none : (due : Due) (p : Payload) → IsInDump due → IsEofPacket p → refusal_of due p ≡ None
eof_none InDump p h eof = eof_not_refused p eof
eof_none _ p h eof = absurd h

eof_denied : (names : Names) (due : Due) (es : List EventValue) (p : Payload) (reason : Reason) → IsInDump due → IsEofPacket p → Denies names due es p reason → ⊥
eof_denied names due es p (SourceError code state message) h eof d = apart Refusal (refusal_of due p) (server_error code state message.items) (eof_none due p h eof) d.1
eof_denied names due es p (Greet fault) h eof d = nothing_refused fault d.1 (subst (λ v. Refuses v fault) (eof_none due p h eof) d.2)
eof_denied names due es p (Event fault) h eof d = no_eof names p d.1 d.2 eof
eof_denied names due es p (Gather fault) h eof d = no_eof names p d.2.body d.2.payload_is eof
eof_denied names due es p _ h eof d = d

module _ (rest : Rest) where
  -- an end after which nothing goes on: what the payload reports
  denied : (reason : Reason) (p : Payload) (first others fs : List EventValue) (ds : List DeliveryValue) → AllByRecursion (λ b. b < 256) p → Answers rest.names rest.due p first → fs ≡ rest.events ++ (first ++ others) → AreDeliveries fs ds → Denies rest.names rest.due rest.events p reason → ⊥
  denied (SourceError code state message) p first others fs ds fits a split are d = apart Refusal (refusal_of rest.due p) (server_error code state message.items) (answered rest.names rest.due p first a d.0) d.1
  denied (Greet fault) p first others fs ds fits a split are d = nothing_refused fault d.1 (subst (λ v. Refuses v fault) (answered rest.names rest.due p first a d.0) d.2)
  denied (Event fault) p first others fs ds fits a split are d =
      let k = in_dump rest.names rest.due p first d.0 a in
      let none : event_fault rest.names k.1.body ≡ None = event_not_refused rest.names k.0 k.1.body k.1.is_event in
      let same : d.1 ≡ k.1.body = (let x = d.2 in let y = k.1.payload_is in cc) in
      let some : event_fault rest.names k.1.body ≡ Some fault = subst (λ l. event_fault rest.names l ≡ Some fault) same d.3 in
      apart EventFault (event_fault rest.names k.1.body) fault none some
  denied (Gather fault) p first others fs ds fits a split are d =
      let k = in_dump rest.names rest.due p first d.0 a in
      let one : first ≡ d.1 ∷ [] = k.2 ∙ ap (λ e. e ∷ []) (carries_same rest.names p k.0 d.1 k.1 d.2) in
      let body : AllByRecursion (λ b. b < 256) (0x00 ∷ d.2.body) = subst (λ l. AllByRecursion (λ b. b < 256) l) d.2.payload_is fits in
      not_both rest.events d.1 fault (record { names = rest.names; bytes = d.2.body; fits = body.1; is_event = d.2.is_event }) (lawful rest.events first others fs ds d.1 split one are) d.3
  denied _ p first others fs ds fits a split are d = d

  module _ (y : List ℕ) (fs : List EventValue) (ds : List DeliveryValue) (f : Further rest y fs) (bytes : AllByRecursion (λ b. b < 256) rest.bytes) (within : length y < 2 ^ 64) (are : AreDeliveries fs ds) where
    fits : rest.taken + length f.packing < 2 ^ 64
    fits = let h = f.within in omega arith

    with : (reason : Reason) → EndsWith rest reason → ⊥
    with reason s =
        let k = same_next rest.id rest.limit rest.bytes f.packing f.left f.payload s.payload f.after s.stops.next f.whole f.rest_is in
        let of : AllByRecursion (λ b. b < 256) f.payload = packed_bytes rest.id f.payload f.packing f.after f.whole.packing (all_front (λ b. b < 256) f.packing f.left (subst (λ l. AllByRecursion (λ b. b < 256) l) f.rest_is bytes)) in
        denied reason f.payload f.first f.others fs ds of f.answers f.events are (subst (λ v. Denies rest.names rest.due rest.events v reason) k.0 s.denied)

    pub blocked : (at : ℕ) (reason : Reason) → StopsFor rest at reason → ⊥
    blocked at EndOfInput s = not_unfinished rest.id rest.limit rest.bytes f.packing f.left f.payload f.after s.1 f.whole f.rest_is
    blocked at SourceEof s =
        let k = same_next rest.id rest.limit rest.bytes f.packing f.left f.payload s.payload f.after s.stops.next f.whole f.rest_is in
        let e = in_dump rest.names rest.due f.payload f.first s.in_dump f.answers in
        no_eof rest.names f.payload e.1.body e.1.payload_is (subst (λ v. IsEofPacket v) k.0 s.is_eof)
    blocked at (SourceError code state message) s = with (SourceError code state message) s.1
    blocked at (Wire fault) s = elim s.1 [
      | inl w ↦ not_wrong rest.id rest.limit rest.bytes f.packing f.left f.payload f.after fault w f.whole f.rest_is
      | inr w ↦ not_past rest f.packing f.left f.payload f.after w.1 f.whole f.rest_is fits
    ]
    blocked at (Greet fault) s = with (Greet fault) s.1
    blocked at (Event fault) s = with (Event fault) s.1
    blocked at (Gather fault) s = with (Gather fault) s.1
    blocked at _ s = s

  -- an end of the log is not an end of another kind
  ends_so : (reason : Reason) (other : ℕ) → EndsLog rest other → EndsWith rest reason → ⊥
  ends_so reason other l w =
      let k = same_next rest.id rest.limit rest.bytes l.stops.next.packing l.stops.next.more l.payload w.payload l.stops.next.after w.stops.next l.stops.next.whole l.stops.next.bytes in
      eof_denied rest.names rest.due rest.events l.payload reason l.in_dump l.is_eof (subst (λ v. Denies rest.names rest.due rest.events v reason) k.0 w.denied)

  no_log : (other : ℕ) (at : ℕ) (reason : Reason) → EndsLog rest other → StopsFor rest at reason → (at ≡ rest.taken) × (reason ≢ SourceEof) → ⊥
  no_log other at EndOfInput l s h = not_unfinished rest.id rest.limit rest.bytes l.stops.next.packing l.stops.next.more l.payload l.stops.next.after s.1 l.stops.next.whole l.stops.next.bytes
  no_log other at SourceEof l s h = h.1 refl
  no_log other at (SourceError code state message) l s h = ends_so (SourceError code state message) other l s.1
  no_log other at (Wire fault) l s h = elim s.1 [
    | inl w ↦ not_wrong rest.id rest.limit rest.bytes l.stops.next.packing l.stops.next.more l.payload l.stops.next.after fault w l.stops.next.whole l.stops.next.bytes
    | inr w ↦ not_past rest l.stops.next.packing l.stops.next.more l.payload l.stops.next.after w.1 l.stops.next.whole l.stops.next.bytes l.stops.within
  ]
  no_log other at (Greet fault) l s h = ends_so (Greet fault) other l s.1
  no_log other at (Event fault) l s h = ends_so (Event fault) other l s.1
  no_log other at (Gather fault) l s h = ends_so (Gather fault) other l s.1
  no_log other at _ l s h = s

  -- where it stops
  offset_of : (at : ℕ) (reason : Reason) → StopsFor rest at reason → ((at ≡ rest.taken) × (reason ≢ SourceEof)) ⊎ EndsLog rest at
  offset_of at EndOfInput s = inl (s.0, λ e. cc)
  offset_of at SourceEof s = inr s
  offset_of at (SourceError code state message) s = inl (s.0, λ e. cc)
  offset_of at (Wire fault) s = inl (s.0, λ e. cc)
  offset_of at (Greet fault) s = inl (s.0, λ e. cc)
  offset_of at (Event fault) s = inl (s.0, λ e. cc)
  offset_of at (Gather fault) s = inl (s.0, λ e. cc)
  offset_of at _ s = absurd s

  one_offset : (at other : ℕ) (reason also : Reason) → StopsFor rest at reason → StopsFor rest other also → at ≡ other
  one_offset at other reason also s t = elim (offset_of at reason s) [
    | inl h ↦ elim (offset_of other also t) [
      | inl k ↦ h.0 ∙ sym k.0
      | inr l ↦ absurd (no_log other at reason l s h)
    ]
    | inr l ↦ elim (offset_of other also t) [
      | inl k ↦ absurd (no_log at other also l t k)
      | inr m ↦ (
          let n = same_next rest.id rest.limit rest.bytes m.stops.next.packing m.stops.next.more m.payload l.payload m.stops.next.after l.stops.next m.stops.next.whole m.stops.next.bytes in
          l.at_is ∙ ap (λ p. rest.taken + length p) n.1 ∙ sym m.at_is
          )
    ]
  ]

-- ---- One end.
pub stops_same : (limit : ℕ) (names : Names) (x y : Part) (at : ℕ) (reason : Reason) → Same x y → StopsFor (after_part limit names Hello y) at reason → StopsFor (after_part limit names Hello x) at reason
stops_same limit names x y at reason e h = subst (λ (v : Part). StopsFor (after_part limit names Hello v) at reason) (sym (same_part x y e)) h

module _ (limit : ℕ) (names : Names) (b : List ℕ) (bytes : AllByRecursion (λ v. v < 256) b) where
  pub no_further : (x y : Reading limit names b) (at : ℕ) (reason : Reason) → StopsFor (rest_of x) at reason
      → Further (rest_of x) y.front y.events → ⊥
  no_further x y at reason s f =
      blocked (rest_of x) y.front y.events y.deliveries f (all_back (λ b. b < 256) x.front x.rest (subst (λ l. AllByRecursion (λ v. v < 256) l) x.bytes bytes)) y.talk.within y.talk.delivers at reason s

  pub both_read : (x y : Reading limit names b) → Compared limit names Hello (part_of x) (part_of y)
  both_read x y = compare limit names Hello 0 x.payloads x.front x.events x.id x.rest y.payloads y.front y.events y.id y.rest x.talk.talks y.talk.talks (sym x.bytes ∙ y.bytes)

  pub one_end : (r s : Reason) (at other : ℕ) → End limit names b r at → End limit names b s other → at ≡ other
  one_end r s at other e f =
      let x = e.reading in
      let y = f.reading in
      elim (both_read x y) [
        | inl same ↦ one_offset (rest_of x) at other r s e.stops (stops_same limit names (part_of x) (part_of y) other s same f.stops)
        | inr o ↦ elim o [ inl a ↦ absurd (no_further x y at r e.stops a.further) | inr a ↦ absurd (no_further y x other s f.stops a.further) ]
      ]

  -- no reading goes on after an end
  pub longest : (r : Reason) (at : ℕ) (e : End limit names b r at) (q : Reading limit names b) → length q.payloads ≤ length e.reading.payloads
  longest r at e q = elim (both_read e.reading q) [
    | inl same ↦ (let k : length e.reading.payloads ≡ length q.payloads = ap length same.payloads in omega arith)
    | inr o ↦ elim o [ inl a ↦ absurd (no_further e.reading q at r e.stops a.further) | inr a ↦ (let k : length q.payloads < length e.reading.payloads = a.fewer in omega arith) ]
  ]

-- ---- One reason.
data Heard : Type 0 where
  Final : Verdict → Heard
  Carrying : Heard

abbrev of_refusal : Option Refusal → Heard
of_refusal None = Final reported.EndsLog
of_refusal (Some refusal) = Final (reported.IsRefused refusal)

abbrev of_event : Option EventFault → Heard
of_event None = Carrying
of_event (Some fault) = Final (reported.HasFault fault)

abbrev in_dump_heard : Names → Payload → Heard
in_dump_heard names [] = of_refusal (refusal_of InDump [])
in_dump_heard names (byte ∷ body) = if byte == 0x00 then of_event (event_fault names body) else of_refusal (refusal_of InDump (byte ∷ body))

-- what a payload means by itself, where this message is expected
abbrev heard : Names → Due → Payload → Heard
heard names InDump p = in_dump_heard names p
heard names due p = of_refusal (refusal_of due p)

dump_refused : (names : Names) (p : Payload) (v : Option Refusal) → begins_event p ≡ false → refusal_of InDump p ≡ v → in_dump_heard names p ≡ of_refusal v
dump_refused names [] v none e = ap of_refusal e
dump_refused names (byte ∷ body) v none e =
    subst (λ t. (if t then of_event (event_fault names body) else of_refusal (refusal_of InDump (byte ∷ body))) ≡ of_refusal v) (sym none) (ap of_refusal e)

heard_refused : (names : Names) (due : Due) (p : Payload) (v : Option Refusal) → IsNoEvent due p → refusal_of due p ≡ v → heard names due p ≡ of_refusal v
heard_refused names InDump p v none e = dump_refused names p v none e
heard_refused names _ p v none e = ap of_refusal e

heard_event : (names : Names) (due : Due) (p body : List ℕ) (v : Option EventFault) → IsInDump due → p ≡ 0x00 ∷ body → event_fault names body ≡ v → heard names due p ≡ of_event v
heard_event names InDump p body v h is e = ap (λ l. in_dump_heard names l) is ∙ ap of_event e
heard_event names _ p body v h is e = absurd h

eof_no_event : (due : Due) (p : Payload) → IsEofPacket p → IsNoEvent due p
eof_no_event InDump p eof = ap (λ l. begins_event l) eof.payload_is
eof_no_event _ p eof = tt

refused_for : (refusal : Option Refusal) (fault : GreetFault) → IsOfMessage fault → Refuses refusal fault → refusal ≡ Some (reported_refusal fault)
refused_for refusal (greet.ServerError code state message) h r = absurd h
refused_for refusal greet.Memory h r = absurd h
refused_for refusal _ h r = r

unfinished_right : (id limit : ℕ) (r : List ℕ) (fault : WireFault) → IsUnfinished id limit r → IsWrong id limit r fault → ⊥
unfinished_right id limit r (wire.Sequence want got) u h = u.in_sequence want got h
unfinished_right id limit r wire.TooLarge u h = u.not_too_large h
unfinished_right id limit r wire.Memory u h = h
unfinished_right id limit r wire.Ended u h = h

-- a header is wrong in one way
one_wrong : (id limit : ℕ) (r : List ℕ) (f g : WireFault) → IsWrong id limit r f → IsWrong id limit r g → f ≡ g
one_wrong id limit r (wire.Sequence want got) (wire.Sequence want' got') h k = let e = one_wrong_id h k in subst (λ w. wire.Sequence want got ≡ wire.Sequence w got') e.0 (ap (λ n. wire.Sequence want n) e.1)
one_wrong id limit r (wire.Sequence want got) wire.TooLarge h k = absurd (wrong_or_large h k)
one_wrong id limit r (wire.Sequence want got) wire.Memory h k = absurd k
one_wrong id limit r (wire.Sequence want got) wire.Ended h k = absurd k
one_wrong id limit r wire.TooLarge (wire.Sequence want' got') h k = absurd (wrong_or_large k h)
one_wrong id limit r wire.TooLarge wire.TooLarge h k = refl
one_wrong id limit r wire.TooLarge wire.Memory h k = absurd k
one_wrong id limit r wire.TooLarge wire.Ended h k = absurd k
one_wrong id limit r wire.Memory g h k = absurd h
one_wrong id limit r wire.Ended g h k = absurd h

module _ (rest : Rest) where
  record Misplaces (p : Payload) (v : Verdict) : Type 0 where
    carrying : heard rest.names rest.due p ≡ Carrying
    event : EventValue
    carries : Carries rest.names p event
    fault : GatherFault
    is_fault : IsFault rest.events event fault
    verdict : v ≡ reported.IsOutOfOrder fault

  abbrev SaysSo : Payload → Verdict → Type 0
  SaysSo p v = (heard rest.names rest.due p ≡ Final v) ⊎ Misplaces p v

  record EndsBy (v : Verdict) : Type 0 where
    payload : Payload
    stops : StopsAt rest payload
    says : SaysSo payload v

  abbrev Tells : Report → Type 0
  Tells reported.Nothing = IsUnfinished rest.id rest.limit rest.bytes
  Tells (reported.IsWrongHeader fault) = IsWrong rest.id rest.limit rest.bytes fault ⊎ ((fault ≡ wire.TooLarge) × PassesEnd rest)
  Tells (reported.Says v) = EndsBy v

  tells : (at : ℕ) (reason : Reason) → StopsFor rest at reason → Tells (report_of reason)
  tells at EndOfInput s = s.1
  tells at SourceEof s = record { payload = s.payload; stops = s.stops; says = inl (heard_refused rest.names rest.due s.payload None (eof_no_event rest.due s.payload s.is_eof) (eof_none rest.due s.payload s.in_dump s.is_eof)) }
  tells at (SourceError code state message) s = record { payload = s.1.payload; stops = s.1.stops; says = inl (heard_refused rest.names rest.due s.1.payload (Some (server_error code state message.items)) s.1.denied.0 s.1.denied.1) }
  tells at (Wire fault) s = s.1
  tells at (Greet fault) s = record {
    payload = s.1.payload;
    stops = s.1.stops;
    says = inl (heard_refused rest.names rest.due s.1.payload (Some (reported_refusal fault)) s.1.denied.0 (refused_for (refusal_of rest.due s.1.payload) fault s.1.denied.1 s.1.denied.2));
  }
  tells at (Event fault) s = record { payload = s.1.payload; stops = s.1.stops; says = inl (heard_event rest.names rest.due s.1.payload s.1.denied.1 (Some fault) s.1.denied.0 s.1.denied.2 s.1.denied.3) }
  tells at (Gather fault) s =
      let d = s.1.denied in
      record {
        payload = s.1.payload;
        stops = s.1.stops;
        says = inr (record {
          carrying = heard_event rest.names rest.due s.1.payload d.2.body None d.0 d.2.payload_is (event_not_refused rest.names d.1 d.2.body d.2.is_event);
          event = d.1;
          carries = d.2;
          fault = fault;
          is_fault = d.3;
          verdict = refl;
        });
      }
  tells at _ s = absurd s

  same_verdict : (p : Payload) (a b : Verdict) → AllByRecursion (λ v. v < 256) p → SaysSo p a → SaysSo p b → a ≡ b
  same_verdict p a b fits x y = elim x [
    | inl h ↦ elim y [
      | inl k ↦ cc
      | inr k ↦ (let c = k.carrying in cc)
    ]
    | inr h ↦ elim y [
      | inl k ↦ (let c = h.carrying in cc)
      | inr k ↦ (
          let same : h.event ≡ k.event = carries_same rest.names p h.event k.event h.carries k.carries in
          let body : AllByRecursion (λ v. v < 256) (0x00 ∷ k.carries.body) = subst (λ l. AllByRecursion (λ v. v < 256) l) k.carries.payload_is fits in
          let f : h.fault ≡ k.fault = one_fault rest.events k.event h.fault k.fault (record { names = rest.names; bytes = k.carries.body; fits = body.1; is_event = k.carries.is_event }) (subst (λ e. IsFault rest.events e h.fault) same h.is_fault) k.is_fault in
          h.verdict ∙ ap (λ v. reported.IsOutOfOrder v) f ∙ sym k.verdict
          )
    ]
  ]

  no_wrong : (fault : WireFault) (v : Verdict) → IsWrong rest.id rest.limit rest.bytes fault ⊎ ((fault ≡ wire.TooLarge) × PassesEnd rest) → EndsBy v → ⊥
  no_wrong fault v w e =
      let n = e.stops.next in
      elim w [
        | inl h ↦ not_wrong rest.id rest.limit rest.bytes n.packing n.more e.payload n.after fault h n.whole n.bytes
        | inr h ↦ not_past rest n.packing n.more e.payload n.after h.1 n.whole n.bytes e.stops.within
      ]

  none_wrong : (fault : WireFault) → IsUnfinished rest.id rest.limit rest.bytes → IsWrong rest.id rest.limit rest.bytes fault ⊎ ((fault ≡ wire.TooLarge) × PassesEnd rest) → ⊥
  none_wrong fault u w = elim w [
    | inl h ↦ unfinished_right rest.id rest.limit rest.bytes fault u h
    | inr h ↦ (let n = h.1.next in not_unfinished rest.id rest.limit rest.bytes n.packing n.more h.1.payload n.after u n.whole n.bytes)
  ]

  none_whole : (v : Verdict) → IsUnfinished rest.id rest.limit rest.bytes → EndsBy v → ⊥
  none_whole v u e = let n = e.stops.next in not_unfinished rest.id rest.limit rest.bytes n.packing n.more e.payload n.after u n.whole n.bytes

  same_wrong : (f g : WireFault) → IsWrong rest.id rest.limit rest.bytes f ⊎ ((f ≡ wire.TooLarge) × PassesEnd rest) → IsWrong rest.id rest.limit rest.bytes g ⊎ ((g ≡ wire.TooLarge) × PassesEnd rest) → f ≡ g
  same_wrong f g x y = elim x [
    | inl h ↦ elim y [
      | inl k ↦ one_wrong rest.id rest.limit rest.bytes f g h k
      | inr k ↦ (let n = k.1.next in absurd (not_wrong rest.id rest.limit rest.bytes n.packing n.more k.1.payload n.after f h n.whole n.bytes))
    ]
    | inr h ↦ elim y [
      | inl k ↦ (let n = h.1.next in absurd (not_wrong rest.id rest.limit rest.bytes n.packing n.more h.1.payload n.after g k n.whole n.bytes))
      | inr k ↦ h.0 ∙ sym k.0
    ]
  ]

  same_reported : AllByRecursion (λ v. v < 256) rest.bytes → (a b : Report) → Tells a → Tells b → a ≡ b
  same_reported fits reported.Nothing reported.Nothing x y = refl
  same_reported fits reported.Nothing (reported.IsWrongHeader g) x y = absurd (none_wrong g x y)
  same_reported fits reported.Nothing (reported.Says w) x y = absurd (none_whole w x y)
  same_reported fits (reported.IsWrongHeader f) reported.Nothing x y = absurd (none_wrong f y x)
  same_reported fits (reported.IsWrongHeader f) (reported.IsWrongHeader g) x y = ap (λ v. reported.IsWrongHeader v) (same_wrong f g x y)
  same_reported fits (reported.IsWrongHeader f) (reported.Says w) x y = absurd (no_wrong f w x y)
  same_reported fits (reported.Says v) reported.Nothing x y = absurd (none_whole v y x)
  same_reported fits (reported.Says v) (reported.IsWrongHeader g) x y = absurd (no_wrong g v y x)
  same_reported fits (reported.Says v) (reported.Says w) x y =
      let n = y.stops.next in
      let k = same_next rest.id rest.limit rest.bytes n.packing n.more y.payload x.payload n.after x.stops.next n.whole n.bytes in
      let of : AllByRecursion (λ b. b < 256) y.payload = packed_bytes rest.id y.payload n.packing n.after n.whole.packing (all_front (λ b. b < 256) n.packing n.more (subst (λ l. AllByRecursion (λ b. b < 256) l) n.bytes fits)) in
      ap (λ u. reported.Says u) (same_verdict y.payload v w of (subst (λ p. SaysSo p v) k.0 x.says) y.says)

module _ (limit : ℕ) (names : Names) (b : List ℕ) (bytes : AllByRecursion (λ v. v < 256) b) where
  pub one_reason : (r s : Reason) (at other : ℕ) → End limit names b r at → End limit names b s other → report_of r ≡ report_of s
  one_reason r s at other e f =
      let x = e.reading in
      let y = f.reading in
      elim (both_read limit names b bytes x y) [
        | inl same ↦ same_reported (rest_of x) (all_back (λ b. b < 256) x.front x.rest (subst (λ l. AllByRecursion (λ v. v < 256) l) x.bytes bytes)) (report_of r) (report_of s)
            (tells (rest_of x) at r e.stops)
            (tells (rest_of x) other s (stops_same limit names (part_of x) (part_of y) other s same f.stops))
        | inr o ↦ elim o [ inl a ↦ absurd (no_further limit names b bytes x y at r e.stops a.further) | inr a ↦ absurd (no_further limit names b bytes y x other s f.stops a.further) ]
      ]
