-- What a connection comes to is determined by its bytes and the content before.
use Rattle.replica.proofs.Names.{◌≡◌, ◌≤◌, ◌<◌, ◌+◌, ℕ, zero, suc, ◌⊎◌, Bool, true, false, List, [], ◌∷◌, ◌++◌, length, Some, None, refl, sym, ap, ◌∙◌, inl, inr, subst, arith, append_assoc, append-nil, MatchBool, length-append, false≢true, AllByRecursion, Names, EventValue, ChangeValue, DeliveryValue, AreDeliveries, IsFromBytes, one_list_of_deliveries, row_of, Bag, Content, IsMade, IsRefused, IsRefusedAt, is_admitted, AreDone, is_executed, most, NoSuchRow, CountFull, Reason, Wire, Refused, Database, Memory, ReadFailed, WriteFailed, Halted, Until, Ended, Due, Hello, QueryReply, InDump, IsInDump, Carries, Answers, Talks, Reading, next_due, next_id, due_from, due_after, Payload, StopsFor, End, AppliesAll, IsRefusedBy, IsDumpTooLong, Why, Conn, IsInFull}
use Rattle.wire.specs.declared.fault.WireFault.TheVariants as wire
use Rattle.gather.specs.Transaction.{insert, delete, update}
use Rattle.gather.proofs.ShorterLists as shortening
use Rattle.store.specs.Changes.{IsDone}
use Rattle.store.specs.declared.row_change.Refusal.TheVariants as why
use Rattle.store.specs.declared.row_change.Refusal as row
use Rattle.replica.specs.declared.session.end.Refusal.{Refusal}
use Rattle.replica.specs.End.{Rest, rest_of}
use Rattle.replica.specs.Conn.{NextAnswers, IsRefusedNext, IsOfBytes}
use Rattle.replica.specs.Report.{report_of}
use Rattle.replica.specs.Outcome.{refused_by, IsSameEnd}
use Rattle.replica.proofs.Bytes.{all_front, all_back, all_both, packed_bytes}
use Rattle.replica.proofs.Transactions.{all_one, halves, one_by, taken_at, head_of, tail_of}
use Rattle.replica.proofs.Push.{stays_in_dump}
use Rattle.replica.proofs.OneEnd.{Part, part_of, after_part, same_part, Ahead, stops_same, Same, Further, both_read, no_further, one_end, one_reason, blocked, same_next, in_dump, carries_same}

-- ---- The events of a conversation are read from bytes.

answered_read : (names : Names) (due : Due) (p : Payload) (es : List EventValue) → AllByRecursion (λ b. b < 256) p → Answers names due p es → AllByRecursion IsFromBytes es
answered_read names InDump p es fits a =
    let body : AllByRecursion (λ b. b < 256) (0x00 ∷ a.1.body) = subst (λ l. AllByRecursion (λ b. b < 256) l) a.1.payload_is fits in
    subst (λ l. AllByRecursion IsFromBytes l) (sym a.2) (record { names = names; bytes = a.1.body; fits = body.1; is_event = a.1.is_event }, tt)
answered_read names _ p es fits a = subst (λ l. AllByRecursion IsFromBytes l) (sym a.1) tt

pub talked_read : (limit : ℕ) (names : Names) (due : Due) (id : ℕ) (ps : List Payload) (x : List ℕ) (es : List EventValue) (last : ℕ) → AllByRecursion (λ b. b < 256) x → Talks limit names (record { due = due; id = id }) ps x es last
    → AllByRecursion IsFromBytes es
talked_read limit names due id [] x es last fits t = subst (λ l. AllByRecursion IsFromBytes l) (sym t.1) tt
talked_read limit names due id (p ∷ ps) x es last fits t =
    let both : AllByRecursion (λ b. b < 256) (t.0 ++ t.1) = subst (λ l. AllByRecursion (λ b. b < 256) l) t.5 fits in
    let own : AllByRecursion (λ b. b < 256) p = packed_bytes id p t.0 t.4 t.7.packing (all_front (λ b. b < 256) t.0 t.1 both) in
    subst (λ l. AllByRecursion IsFromBytes l) (sym t.6)
    (all_both IsFromBytes t.2 t.3 (answered_read names due p t.2 own t.8) (talked_read limit names (next_due due p) (next_id due p t.4) ps t.1 t.3 last (all_back (λ b. b < 256) t.0 t.1 both) t.9))

-- ---- The kinds of ends.

module _ (rest : Rest) (ds : List DeliveryValue) (old new : Content) (at : ℕ) (reason : Reason) where
  -- the bytes stop the reading
  pub record ByBytes : Type 0 where
    pub of : IsOfBytes reason
    pub stops : StopsFor rest at reason

  -- a transaction is refused
  pub record ByRefusal : Type 0 where
    pub refusal : Refusal
    pub reason_is : reason ≡ Refused refusal
    pub at_is : at ≡ rest.taken
    pub next : IsRefusedNext rest ds new refusal

  -- the dump command is too long
  pub record ByLength : Type 0 where
    pub reason_is : reason ≡ Wire wire.TooLarge
    pub at_is : at ≡ rest.taken
    pub next : NextAnswers rest ds
    pub long : IsDumpTooLong old.executed

kind_of : (rest : Rest) (ds : List DeliveryValue) (was : Bool) (old new : Content) (at : ℕ) (reason : Reason) → IsInFull reason → Why rest ds was old new at reason
    → ByBytes rest ds old new at reason ⊎ (ByRefusal rest ds old new at reason ⊎ ByLength rest ds old new at reason)
kind_of rest ds was old new at (Wire f) h w = elim w [ inl s ↦ inl (record { of = tt; stops = s }) | inr t ↦ inr (inr (record { reason_is = ap (λ v. Wire v) t.0; at_is = t.1; next = t.2; long = t.3 })) ]
kind_of rest ds was old new at (Refused refusal) h w = inr (inl (record { refusal = refusal; reason_is = refl; at_is = w.0; next = w.1 }))
kind_of rest ds was old new at (Database cause) h w = absurd h
kind_of rest ds was old new at Memory h w = absurd h
kind_of rest ds was old new at ReadFailed h w = absurd h
kind_of rest ds was old new at WriteFailed h w = absurd h
kind_of rest ds was old new at Halted h w = absurd h
kind_of rest ds was old new at Until h w = absurd h
kind_of rest ds was old new at _ h w = inl (record { of = tt; stops = w })

none_refused : (reason : Reason) → IsOfBytes reason → refused_by reason ≡ None
none_refused (Refused refusal) h = absurd h
none_refused (Database cause) h = absurd h
none_refused Memory h = absurd h
none_refused ReadFailed h = absurd h
none_refused WriteFailed h = absurd h
none_refused Halted h = absurd h
none_refused Until h = absurd h
none_refused _ h = refl

-- ---- A refused transaction is not taken, and is refused for one reason.

over : (x m : ℕ) → x < m → m ≤ x → ⊥
over x m p q = absurd (omega arith)

none_left : (x y : ℕ) → x ≡ y + 1 → x ≡ 0 → ⊥
none_left x y p q = absurd (omega arith)

made_or_refused : (change : ChangeValue) (old new : Bag) (w : row.Refusal) → IsMade change old new → IsRefused change old w → ⊥
made_or_refused (insert schema table after) old new w m r = over (old (row_of schema table after)) most m.room r.0
made_or_refused (delete schema table before) old new w m r = none_left (old (row_of schema table before)) (new (row_of schema table before)) m.one_less r.0
made_or_refused (update schema table before after) old new w m (inl r) = none_left (old (row_of schema table before)) (m.0 (row_of schema table before)) m.1.one_less r.0
made_or_refused (update schema table before after) old new w m (inr r) =
    let e : m.0 (row_of schema table after) ≡ r.0 (row_of schema table after) = taken_at (row_of schema table before) old m.0 r.0 m.1 r.1 (row_of schema table after) in
    over (m.0 (row_of schema table after)) most m.2.room (subst (λ v. most ≤ v) (sym e) r.2.0)

same_why : (change : ChangeValue) (bag : Bag) (w v : row.Refusal) → IsRefused change bag w → IsRefused change bag v → w ≡ v
same_why (insert schema table after) bag w v r s = r.1 ∙ sym s.1
same_why (delete schema table before) bag w v r s = r.1 ∙ sym s.1
same_why (update schema table before after) bag w v (inl r) (inl s) = r.1 ∙ sym s.1
same_why (update schema table before after) bag w v (inl r) (inr s) = absurd (none_left (bag (row_of schema table before)) (s.0 (row_of schema table before)) s.1.one_less r.0)
same_why (update schema table before after) bag w v (inr r) (inl s) = absurd (none_left (bag (row_of schema table before)) (r.0 (row_of schema table before)) r.1.one_less s.0)
same_why (update schema table before after) bag w v (inr r) (inr s) = r.2.1 ∙ sym s.2.1

made_of : (admitted : Bool) (P Q : Type 0) → admitted ≡ true → MatchBool admitted P Q → P
made_of true P Q h m = m
made_of false P Q h m = absurd (false≢true h)

-- the change at the front is refused
record First (names : Names) (change : ChangeValue) (old : Bag) (w : row.Refusal) : Type 0 where
  admitted : is_admitted names change ≡ true
  refused : IsRefused change old w

first_refused : (names : Names) (c : ChangeValue) (cs : List ChangeValue) (old : Bag) (w : row.Refusal) → IsRefusedAt names (c ∷ cs) old zero w → First names c old w
first_refused names c cs old w r =
    let there : Some c ≡ Some r.change = r.there in
    let is : r.change ≡ c = cc in
    let mid : r.mid ≡ old = r.before in
    record {
      admitted = subst (λ v. is_admitted names v ≡ true) is r.admitted;
      refused = subst (λ m. IsRefused c m w) mid (subst (λ v. IsRefused v r.mid w) is r.refused);
    }

later_refused : (names : Names) (c : ChangeValue) (cs : List ChangeValue) (old : Bag) (at : ℕ) (w : row.Refusal) → IsRefusedAt names (c ∷ cs) old (suc at) w → (mid : Bag) × IsDone names c old mid × IsRefusedAt names cs mid at w
later_refused names c cs old at w r = (r.before.0, r.before.1, record { change = r.change; mid = r.mid; there = r.there; before = r.before.2; admitted = r.admitted; refused = r.refused })

not_first : (names : Names) (c : ChangeValue) (old mid : Bag) (w : row.Refusal) → First names c old w → IsDone names c old mid → ⊥
not_first names c old mid w f d = made_or_refused c old mid w (made_of (is_admitted names c) (IsMade c old mid) (mid ≡ old) f.admitted d) f.refused

not_done : (names : Names) (changes : List ChangeValue) (old new : Bag) (at : ℕ) (w : row.Refusal) → IsRefusedAt names changes old at w → AreDone names changes old new → ⊥
not_done names [] old new at w r d = let no : None ≡ Some r.change = r.there in cc
not_done names (c ∷ cs) old new zero w r d = not_first names c old d.0 w (first_refused names c cs old w r) d.1
not_done names (c ∷ cs) old new (suc at) w r d =
    let l = later_refused names c cs old at w r in
    let mid : l.0 ≡ d.0 = one_by (is_admitted names c) c old l.0 d.0 l.1 d.1 in
    not_done names cs d.0 new at w (subst (λ m. IsRefusedAt names cs m at w) mid l.2) d.2

one_refusal : (names : Names) (changes : List ChangeValue) (old : Bag) (i j : ℕ) (w v : row.Refusal) → IsRefusedAt names changes old i w → IsRefusedAt names changes old j v → (i ≡ j) × (w ≡ v)
one_refusal names [] old i j w v r s = let no : None ≡ Some r.change = r.there in absurd (let bad : ⊥ = cc in bad)
one_refusal names (c ∷ cs) old zero zero w v r s = (refl, same_why c old w v (first_refused names c cs old w r).refused (first_refused names c cs old v s).refused)
one_refusal names (c ∷ cs) old zero (suc j) w v r s = let l = later_refused names c cs old j v s in absurd (not_first names c old l.0 w (first_refused names c cs old w r) l.1)
one_refusal names (c ∷ cs) old (suc i) zero w v r s = let l = later_refused names c cs old i w r in absurd (not_first names c old l.0 v (first_refused names c cs old v s) l.1)
one_refusal names (c ∷ cs) old (suc i) (suc j) w v r s =
    let l = later_refused names c cs old i w r in
    let k = later_refused names c cs old j v s in
    let mid : l.0 ≡ k.0 = one_by (is_admitted names c) c old l.0 k.0 l.1 k.1 in
    let one = one_refusal names cs k.0 i j w v (subst (λ m. IsRefusedAt names cs m i w) mid l.2) k.2 in
    (ap (λ n. suc n) one.0, one.1)

refused_new : (names : Names) (content : Content) (d : DeliveryValue) (refusal : Refusal) → IsRefusedBy names content d refusal
    → (at : ℕ) × (w : row.Refusal) × (is_executed content d ≡ false) × IsRefusedAt names d.changes content.rows at w
refused_new names content d (NoSuchRow at) h = (at, why.NoSuchRow, h.0, h.1)
refused_new names content d (CountFull at) h = (at, why.CountFull, h.0, h.1)

not_taken : (names : Names) (content : Content) (d : DeliveryValue) (refusal : Refusal) (n : ℕ) (new : Content) → AppliesAll names content (d ∷ []) n new → IsRefusedBy names content d refusal → ⊥
not_taken names content d refusal n new (inl t) h =
    let r = refused_new names content d refusal h in
    not_done names d.changes content.rows t.0.rows r.0 r.1 r.3 t.2.1
not_taken names content d refusal n new (inr t) h =
    let r = refused_new names content d refusal h in
    false≢true (sym r.2 ∙ t.0)

one_refused : (names : Names) (content : Content) (d : DeliveryValue) (r s : Refusal) → IsRefusedBy names content d r → IsRefusedBy names content d s → r ≡ s
one_refused names content d (NoSuchRow i) (NoSuchRow j) h k = ap (λ v. NoSuchRow v) (one_refusal names d.changes content.rows i j why.NoSuchRow why.NoSuchRow h.1 k.1).0
one_refused names content d (NoSuchRow i) (CountFull j) h k = let no = (one_refusal names d.changes content.rows i j why.NoSuchRow why.CountFull h.1 k.1).1 in cc
one_refused names content d (CountFull i) (NoSuchRow j) h k = let no = (one_refusal names d.changes content.rows i j why.CountFull why.NoSuchRow h.1 k.1).1 in cc
one_refused names content d (CountFull i) (CountFull j) h k = ap (λ v. CountFull v) (one_refusal names d.changes content.rows i j why.CountFull why.CountFull h.1 k.1).0

last_same : (ds : List DeliveryValue) (x y : DeliveryValue) → ds ++ x ∷ [] ≡ ds ++ y ∷ [] → x ≡ y
last_same [] x y e = head_of x y [] [] e
last_same (d ∷ ds) x y e = last_same ds x y (tail_of d d (ds ++ x ∷ []) (ds ++ y ∷ []) e)

pub in_dump_answer : (names : Names) (due : Due) (p : Payload) (e : EventValue) → IsInDump due → Carries names p e → Answers names due p (e ∷ [])
in_dump_answer names InDump p e h c = (e, c, refl)
in_dump_answer names _ p e h c = absurd h

-- ---- The next payload ends a transaction that is refused.

module _ (limit : ℕ) (names : Names) (b : List ℕ) (bytes : AllByRecursion (λ v. v < 256) b) (old new : Content) (refusal : Refusal) (applied : ℕ) (x : Reading limit names b)
    (has_applied : AppliesAll names old x.deliveries applied new)
    (r : IsRefusedNext (rest_of x) x.deliveries new refusal) where
  rest_bytes : AllByRecursion (λ v. v < 256) x.rest
  rest_bytes = all_back (λ v. v < 256) x.front x.rest (subst (λ l. AllByRecursion (λ v. v < 256) l) x.bytes bytes)

  -- no other reading that takes its transactions goes on
  not_beyond : (y : Reading limit names b) (n : ℕ) (other : Content) → AppliesAll names old y.deliveries n other
      → Further (rest_of x) y.front y.events → ⊥
  not_beyond y n other took_y f =
      let ends = r.ends in
      let d = r.delivery in
      let k = same_next x.id limit x.rest f.packing f.left f.payload ends.payload f.after ends.stops.next f.whole f.rest_is in
      let e = in_dump names (due_after x.payloads) f.payload f.first ends.in_dump f.answers in
      let one : e.0 ≡ ends.event = carries_same names f.payload e.0 ends.event e.1 (subst (λ v. Carries names v ends.event) k.0 ends.carries) in
      let split : y.events ≡ (x.events ++ ends.event ∷ []) ++ f.others =
      f.events ∙ ap (λ l. x.events ++ (l ++ f.others)) (e.2 ∙ ap (λ v. v ∷ []) one) ∙ sym (append_assoc x.events (ends.event ∷ []) f.others) in
      let h = shortening.beginning (x.events ++ ends.event ∷ []) f.others y.deliveries (subst (λ l. AreDeliveries l y.deliveries) split y.talk.delivers) in
      let front : AllByRecursion (λ v. v < 256) y.front = all_front (λ v. v < 256) y.front y.rest (subst (λ l. AllByRecursion (λ v. v < 256) l) y.bytes bytes) in
      let all_read : AllByRecursion IsFromBytes y.events = talked_read limit names Hello 0 y.payloads y.front y.events y.id front y.talk.talks in
      let read : AllByRecursion IsFromBytes (x.events ++ ends.event ∷ []) = all_front IsFromBytes (x.events ++ ends.event ∷ []) f.others (subst (λ l. AllByRecursion IsFromBytes l) split all_read) in
      let same : h.first ≡ x.deliveries ++ d ∷ [] = one_list_of_deliveries (x.events ++ ends.event ∷ []) h.first (x.deliveries ++ d ∷ []) read h.are ends.delivers in
      let all : AppliesAll names old ((x.deliveries ++ d ∷ []) ++ h.others) n other = subst (λ l. AppliesAll names old l n other) (h.ds_are ∙ ap (λ l. l ++ h.others) same) took_y in
      let a = halves names old (x.deliveries ++ d ∷ []) h.others n other all in
      let g = halves names old x.deliveries (d ∷ []) a.first a.mid a.applies_first in
      let mid : new ≡ g.mid = (all_one names old x.deliveries applied g.first new g.mid has_applied g.applies_first).content in
      not_taken names new d refusal g.second a.mid (subst (λ v. AppliesAll names v (d ∷ []) g.second a.mid) (sym mid) g.applies_second) r.refused

  -- the bytes do not stop the reading there
  not_stopped : (at : ℕ) (reason : Reason) → StopsFor (rest_of x) at reason → ⊥
  not_stopped at reason s =
      let ends = r.ends in
      let next = ends.stops.next in
      let size : length (x.front ++ next.packing) ≡ length x.front + length next.packing = length-append x.front next.packing in
      let f : Further (rest_of x) (x.front ++ next.packing) (x.events ++ ends.event ∷ []) = record {
        payload = ends.payload;
        packing = next.packing;
        left = next.more;
        after = next.after;
        first = ends.event ∷ [];
        others = [];
        whole = next.whole;
        rest_is = next.bytes;
        answers = in_dump_answer names (due_after x.payloads) ends.payload ends.event ends.in_dump ends.carries;
        within = omega (arith, size);
        events = refl;
      } in
      blocked (rest_of x) (x.front ++ next.packing) (x.events ++ ends.event ∷ []) (x.deliveries ++ r.delivery ∷ []) f rest_bytes
      (omega (arith, size, ends.stops.within)) ends.delivers at reason s

  -- nor is it refused for another reason
  same_refusal : (also : Refusal) → IsRefusedNext (rest_of x) x.deliveries new also → refusal ≡ also
  same_refusal also m =
      let ends = r.ends in
      let other = m.ends in
      let next = other.stops.next in
      let k = same_next x.id limit x.rest next.packing next.more other.payload ends.payload next.after ends.stops.next next.whole next.bytes in
      let event : ends.event ≡ other.event = carries_same names other.payload ends.event other.event (subst (λ v. Carries names v ends.event) k.0 ends.carries) other.carries in
      let own : AllByRecursion (λ v. v < 256) other.payload = packed_bytes x.id other.payload next.packing next.after next.whole.packing (all_front (λ v. v < 256) next.packing next.more (subst (λ l. AllByRecursion (λ v. v < 256) l) next.bytes rest_bytes)) in
      let body : AllByRecursion (λ v. v < 256) (0x00 ∷ other.carries.body) = subst (λ l. AllByRecursion (λ v. v < 256) l) other.carries.payload_is own in
      let front : AllByRecursion (λ v. v < 256) x.front = all_front (λ v. v < 256) x.front x.rest (subst (λ l. AllByRecursion (λ v. v < 256) l) x.bytes bytes) in
      let all_read : AllByRecursion IsFromBytes x.events = talked_read limit names Hello 0 x.payloads x.front x.events x.id front x.talk.talks in
      let last : AllByRecursion IsFromBytes (other.event ∷ []) = (record { names = names; bytes = other.carries.body; fits = body.1; is_event = other.carries.is_event }, tt) in
      let read : AllByRecursion IsFromBytes (x.events ++ other.event ∷ []) = all_both IsFromBytes x.events (other.event ∷ []) all_read last in
      let lists : x.deliveries ++ r.delivery ∷ [] ≡ x.deliveries ++ m.delivery ∷ [] =
      one_list_of_deliveries (x.events ++ other.event ∷ []) (x.deliveries ++ r.delivery ∷ []) (x.deliveries ++ m.delivery ∷ []) read (subst (λ v. AreDeliveries (x.events ++ v ∷ []) (x.deliveries ++ r.delivery ∷ [])) event ends.delivers) other.delivers in
      let d : r.delivery ≡ m.delivery = last_same x.deliveries r.delivery m.delivery lists in
      one_refused names new m.delivery refusal also (subst (λ v. IsRefusedBy names new v refusal) d r.refused) m.refused

refused_there : (limit : ℕ) (names : Names) (x y : Part) (ds gs : List DeliveryValue) (new other : Content) (refusal : Refusal) → Same x y → ds ≡ gs → new ≡ other
    → IsRefusedNext (after_part limit names Hello y) gs other refusal → IsRefusedNext (after_part limit names Hello x) ds new refusal
refused_there limit names x y ds gs new other refusal e deliveries content h =
    subst (λ (v : Part). IsRefusedNext (after_part limit names Hello v) ds new refusal) (sym (same_part x y e))
    (subst (λ v. IsRefusedNext (after_part limit names Hello y) v new refusal) (sym deliveries)
    (subst (λ v. IsRefusedNext (after_part limit names Hello y) gs v refusal) (sym content) h))

-- ---- The next payload is the reply to the query, and the dump command is too long.

due_beyond : (d : Due) (ps : List Payload) (next : Payload) (more : List Payload) → due_from d ps ≡ QueryReply → IsInDump (due_from d (ps ++ (next ∷ more)))
due_beyond d [] next more e = subst (λ v. IsInDump (due_from v (next ∷ more))) (sym e) (stays_in_dump more)
due_beyond d (p ∷ ps) next more e = due_beyond (next_due d p) ps next more e

-- the bytes do not stop the reading there
answered_not_stopped : (limit : ℕ) (names : Names) (b : List ℕ) → AllByRecursion (λ v. v < 256) b → (x : Reading limit names b) → NextAnswers (rest_of x) x.deliveries
    → (at : ℕ) (reason : Reason) → StopsFor (rest_of x) at reason → ⊥
answered_not_stopped limit names b bytes x a at reason s =
    let next = a.stops.next in
    let size : length (x.front ++ next.packing) ≡ length x.front + length next.packing = length-append x.front next.packing in
    let rest : AllByRecursion (λ v. v < 256) x.rest = all_back (λ v. v < 256) x.front x.rest (subst (λ l. AllByRecursion (λ v. v < 256) l) x.bytes bytes) in
    let answers : Answers names (due_after x.payloads) a.payload [] = subst (λ v. Answers names v a.payload []) (sym a.due_is) (a.is_ok, refl) in
    let f : Further (rest_of x) (x.front ++ next.packing) x.events = record {
      payload = a.payload;
      packing = next.packing;
      left = next.more;
      after = next.after;
      first = [];
      others = [];
      whole = next.whole;
      rest_is = next.bytes;
      answers = answers;
      within = omega (arith, size);
      events = sym (append-nil x.events);
    } in
    blocked (rest_of x) (x.front ++ next.packing) x.events x.deliveries f rest
    (omega (arith, size, a.stops.within)) x.talk.delivers at reason s

-- ---- One outcome.

module _ (limit : ℕ) (names : Names) (b : List ℕ) (bytes : AllByRecursion (λ v. v < 256) b) (was is : Bool) (old new other : Content) (end last : Ended)
    (c : Conn limit names was old b new end) (d : Conn limit names is old b other last) where
  abbrev x : Reading limit names b
  x = c.reading

  abbrev y : Reading limit names b
  y = d.reading

  -- the other has not gone on
  not_behind : IsInFull end.reason → Ahead limit names Hello (part_of x) (part_of y) → ⊥
  not_behind h a = elim (kind_of (rest_of x) x.deliveries was old new end.at end.reason h c.why) [
    | inl s ↦ no_further limit names b bytes x y end.at end.reason s.stops a.further
    | inr o ↦ elim o [
      | inl r ↦ not_beyond limit names b bytes old new r.refusal end.applied x c.has_applied.applies r.next y last.applied other d.has_applied.applies a.further
      | inr t ↦ d.has_applied.asked (subst (λ l. IsInDump (due_from Hello l)) (sym a.payloads) (due_beyond Hello x.payloads a.next a.more t.next.due_is)) t.long
    ]
  ]

  module _ (same : Same (part_of x) (part_of y)) where
    one_list : x.deliveries ≡ y.deliveries
    one_list =
        let front : AllByRecursion (λ v. v < 256) x.front = all_front (λ v. v < 256) x.front x.rest (subst (λ l. AllByRecursion (λ v. v < 256) l) x.bytes bytes) in
        let read : AllByRecursion IsFromBytes x.events = talked_read limit names Hello 0 x.payloads x.front x.events x.id front x.talk.talks in
        one_list_of_deliveries x.events x.deliveries y.deliveries read x.talk.delivers (subst (λ l. AreDeliveries l y.deliveries) (sym same.events) y.talk.delivers)

    same_content : new ≡ other
    same_content = (all_one names old x.deliveries end.applied last.applied new other c.has_applied.applies (subst (λ l. AppliesAll names old l last.applied other) (sym one_list) d.has_applied.applies)).content

    same_count : end.applied ≡ last.applied
    same_count = (all_one names old x.deliveries end.applied last.applied new other c.has_applied.applies (subst (λ l. AppliesAll names old l last.applied other) (sym one_list) d.has_applied.applies)).count

module _ (limit : ℕ) (names : Names) (b : List ℕ) (bytes : AllByRecursion (λ v. v < 256) b) (was is : Bool) (old new other : Content) (end last : Ended) (h : IsInFull end.reason) (k : IsInFull last.reason)
    (c : Conn limit names was old b new end) (d : Conn limit names is old b other last) where
  abbrev x' : Reading limit names b
  x' = c.reading

  abbrev y' : Reading limit names b
  y' = d.reading

  both_same : Same (part_of x') (part_of y')
  both_same = elim (both_read limit names b bytes x' y') [
    | inl v ↦ v
    | inr o ↦ elim o [
      | inl a ↦ absurd (not_behind limit names b bytes was is old new other end last c d h a)
      | inr a ↦ absurd (not_behind limit names b bytes is was old other new last end d c k a)
    ]
  ]

  pub one_content : new ≡ other
  one_content = same_content limit names b bytes was is old new other end last c d both_same

  one_applied : end.applied ≡ last.applied
  one_applied = same_count limit names b bytes was is old new other end last c d both_same

  by_bytes : IsOfBytes end.reason → StopsFor (rest_of x') end.at end.reason
      → IsOfBytes last.reason → StopsFor (rest_of y') last.at last.reason → IsSameEnd end last
  by_bytes of s also t =
      let e : End limit names b end.reason end.at = record { reading = x'; stops = s } in
      let f : End limit names b last.reason last.at = record { reading = y'; stops = t } in
      record {
        reported = one_reason limit names b bytes end.reason last.reason end.at last.at e f;
        refused = none_refused end.reason of ∙ sym (none_refused last.reason also);
        at = one_end limit names b bytes end.reason last.reason end.at last.at e f;
        applied = one_applied;
      }

  -- what comes next for the other comes next for this one
  moved : (refusal : Refusal) → IsRefusedNext (rest_of y') y'.deliveries other refusal
      → IsRefusedNext (rest_of x') x'.deliveries new refusal
  moved refusal r =
      refused_there limit names (part_of x') (part_of y') x'.deliveries y'.deliveries new other refusal both_same
      (one_list limit names b bytes was is old new other end last c d both_same) one_content r

  stops_there : StopsFor (rest_of y') last.at last.reason → StopsFor (rest_of x') last.at last.reason
  stops_there t = stops_same limit names (part_of x') (part_of y') last.at last.reason both_same t

  not_mixed : StopsFor (rest_of x') end.at end.reason
      → (refusal : Refusal) → IsRefusedNext (rest_of y') y'.deliveries other refusal → ⊥
  not_mixed s refusal r = not_stopped limit names b bytes old new refusal end.applied x' c.has_applied.applies (moved refusal r) end.at end.reason s

  not_answered : NextAnswers (rest_of x') x'.deliveries
      → StopsFor (rest_of y') last.at last.reason → ⊥
  not_answered a t = answered_not_stopped limit names b bytes x' a last.at last.reason (stops_there t)

  not_in_dump : NextAnswers (rest_of x') x'.deliveries
      → (refusal : Refusal) → IsRefusedNext (rest_of y') y'.deliveries other refusal → ⊥
  not_in_dump a refusal r = subst (λ v. IsInDump v) a.due_is (moved refusal r).ends.in_dump

  -- both reasons are the same
  by_reason : end.reason ≡ last.reason → end.at ≡ length x'.front → last.at ≡ length y'.front → IsSameEnd end last
  by_reason same here there = record {
    reported = ap report_of same;
    refused = ap refused_by same;
    at = here ∙ ap (λ l. length l) both_same.front ∙ sym there;
    applied = one_applied;
  }

  by_refusal : (r s : Refusal) → end.reason ≡ Refused r → last.reason ≡ Refused s → end.at ≡ length x'.front → last.at ≡ length y'.front
      → IsRefusedNext (rest_of x') x'.deliveries new r
      → IsRefusedNext (rest_of y') y'.deliveries other s → IsSameEnd end last
  by_refusal r s e f here there n m =
      let one : r ≡ s = same_refusal limit names b bytes old new r end.applied x' c.has_applied.applies n s (moved s m) in
      by_reason (e ∙ ap (λ v. Refused v) one ∙ sym f) here there

pub one_ended : (limit : ℕ) (names : Names) (b : List ℕ) → AllByRecursion (λ v. v < 256) b → (was is : Bool) (old new other : Content) (end last : Ended) → IsInFull end.reason → IsInFull last.reason
    → Conn limit names was old b new end → Conn limit names is old b other last → IsSameEnd end last
one_ended limit names b bytes was is old new other end last h k c d =
    let x = c.reading in
    let y = d.reading in
    elim (kind_of (rest_of x) x.deliveries was old new end.at end.reason h c.why) [
      | inl s ↦ elim (kind_of (rest_of y) y.deliveries is old other last.at last.reason k d.why) [
        | inl t ↦ by_bytes limit names b bytes was is old new other end last h k c d s.of s.stops t.of t.stops
        | inr o ↦ elim o [
          | inl t ↦ absurd (not_mixed limit names b bytes was is old new other end last h k c d s.stops t.refusal t.next)
          | inr t ↦ absurd (not_answered limit names b bytes is was old other new last end k h d c t.next s.stops)
        ]
      ]
      | inr p ↦ elim p [
        | inl s ↦ elim (kind_of (rest_of y) y.deliveries is old other last.at last.reason k d.why) [
          | inl t ↦ absurd (not_mixed limit names b bytes is was old other new last end k h d c t.stops s.refusal s.next)
          | inr o ↦ elim o [
            | inl t ↦ by_refusal limit names b bytes was is old new other end last h k c d s.refusal t.refusal s.reason_is t.reason_is s.at_is t.at_is s.next t.next
            | inr t ↦ absurd (not_in_dump limit names b bytes is was old other new last end k h d c t.next s.refusal s.next)
          ]
        ]
        | inr s ↦ elim (kind_of (rest_of y) y.deliveries is old other last.at last.reason k d.why) [
          | inl t ↦ absurd (not_answered limit names b bytes was is old new other end last h k c d s.next t.stops)
          | inr o ↦ elim o [
            | inl t ↦ absurd (not_in_dump limit names b bytes was is old new other end last h k c d s.next t.refusal t.next)
            | inr t ↦ by_reason limit names b bytes was is old new other end last h k c d (s.reason_is ∙ sym t.reason_is) s.at_is t.at_is
          ]
        ]
      ]
    ]
