-- A replica that asks a scripted source again.
use Rattle.replica.proofs.Names.{◌≡◌, ℕ, ◌+◌, ◌^◌, ◌<◌, ◌≤◌, Bool, true, false, List, [], ◌∷◌, ◌++◌, length, take, map, refl, sym, ap, subst, ◌∙◌, append_assoc, append-nil, arith, length-append, map-append, take-append-drop, false≢true, AllByRecursion, nothing_yet, DumpValue, IsDump, IsUnfinished, Payload, Ids, IsEncoding, little_bytes, Names, EventValue, IsFromBytes, DeliveryValue, AreDeliveries, one_list_of_deliveries, Content, Ended, Hello, InDump, IsInDump, Talks, Reading, due_after, AppliesAll, IsDumpTooLong, Why, Conn, AppliesFirst, ScriptValue, CanSend, events_of, transaction, transactions}
use Rattle.std.proofs.Common.{drop}
use Rattle.std.proofs.Math.Seq.{take-length}
use Rattle.std.proofs.lemmas.List.{length-map, length-take, length-take-le}
use Rattle.greet.specs.Message.{dump_bytes}
use Rattle.gtid.proofs.GroupSets.{one_front}
use Rattle.binlog.specs.Writing.{IsWritable}
use Rattle.gather.proofs.ShorterLists as shortening
use Rattle.store.specs.Open.{nothing}
use Rattle.replica.proofs.Push.{applies_push}
use Rattle.scripted_source.specs.Source.{ArePackings, due, payloads_of, end_payloads, eof_payload, sent_payloads, is_once}
use Rattle.replica.specs.End.{Rest, rest_of}
use Rattle.replica.specs.Resume.{Reaches, Dialogue, Resumes, end_reason, Leads}
use Rattle.replica.proofs.ScriptEvents.{seen, delivers}
use Rattle.replica.proofs.Bytes.{all_front, all_back}
use Rattle.replica.proofs.ScriptPayloads.{Cut, are_cut, events_writable, talks_events, talks_all, dump_due, IsBlocked, beginning, ends_there, are_read}
use Rattle.replica.proofs.Transactions.{all_one, halves, at_most, each_new, due_past, take_both, first_of_map}
use Rattle.replica.proofs.SentBytes.{one_encoding}

-- ---- What the replica holds, and what is left of the history.

-- the remaining transactions lead to the last content, each of them new, and their scripts are those that are not in
-- the set
pub record Left (names : Names) (history : List ScriptValue) (j : ℕ) (held last : Content) : Type 0 where
  pub applies : AppliesAll names held (transactions names (drop j history)) (length (transactions names (drop j history))) last
  pub due_are : due held.executed history ≡ drop j history

count_of : (names : Names) (j : ℕ) (history : List ScriptValue) → j ≤ length history → length (transactions names (take j history)) ≡ j
count_of names j history within = omega (arith, length-map (take j history) (transaction names), length-take-le j history within)

no_more : (names : Names) (history : List ScriptValue) (j : ℕ) (held : Content) → Reaches names history j held → j ≤ length history
no_more names history j held reached =
    let most = at_most names nothing (transactions names (take j history)) j held reached in
    omega (arith, most, length-map (take j history) (transaction names), length-take j history)

pub left_of : (names : Names) (history : List ScriptValue) (j : ℕ) (held last : Content) → j ≤ length history → Reaches names history j held → Reaches names history (length history) last → Left names history j held last
left_of names history j held last within reached all =
    let xs = transactions names (take j history) in
    let ys = transactions names (drop j history) in
    let n = length history in
    let parts : transactions names (take n history) ≡ xs ++ ys =
    ap (transactions names) (take-length history ∙ sym (take-append-drop j history)) ∙ map-append (transaction names) (take j history) (drop j history) in
    let h = halves names nothing xs ys n last (subst (λ l. AppliesAll names nothing l n last) parts all) in
    let s = all_one names nothing xs h.first j h.mid held h.applies_first reached in
    let size : length xs ≡ j = count_of names j history within in
    let both : length xs + length ys ≡ n = sym (length-append xs ys) ∙ ap length (sym parts) ∙ length-map (take n history) (transaction names) ∙ ap length (take-length history) in
    let second : h.second ≡ length ys = omega (arith, h.sum, s.count, size, both) in
    let applies : AppliesAll names held ys (length ys) last = subst (λ c. AppliesAll names c ys (length ys) last) s.content (subst (λ k. AppliesAll names h.mid ys k last) second h.applies_second) in
    let first = each_new names nothing xs j held size reached in
    let later = each_new names held ys (length ys) last refl applies in
    record {
      applies = applies;
      due_are = ap (due held.executed) (sym (take-append-drop j history)) ∙ due_past names held (take j history) (drop j history) first.after later.not_before;
    }

-- some of the remaining transactions, without a gap
pub reaches_on : (names : Names) (history : List ScriptValue) (j : ℕ) (held last : Content) (ds others : List DeliveryValue) (applied : ℕ) (new : Content) → Reaches names history j held → Left names history j held last
    → transactions names (drop j history) ≡ ds ++ others → AppliesAll names held ds applied new → Reaches names history (j + length ds) new
reaches_on names history j held last ds others applied new reached left parts applies =
    let ys = transactions names (drop j history) in
    let h = halves names held ds others (length ys) last (subst (λ l. AppliesAll names held l (length ys) last) parts left.applies) in
    let s = all_one names held ds h.first applied h.mid new h.applies_first applies in
    let sizes : length ys ≡ length ds + length others = ap length parts ∙ length-append ds others in
    let most = at_most names held ds h.first h.mid h.applies_first in
    let rest = at_most names h.mid others h.second last h.applies_second in
    let count : applied ≡ length ds = omega (arith, s.count, sizes, most, rest, h.sum) in
    let xs = transactions names (take j history) in
    let all : AppliesAll names nothing (xs ++ ds) (j + length ds) new =
    applies_push names nothing xs j held ds (length ds) new reached (subst (λ k. AppliesAll names held ds k new) count applies) in
    let list : transactions names (take (j + length ds) history) ≡ xs ++ ds =
    ap (transactions names) (take_both j (length ds) history) ∙ map-append (transaction names) (take j history) (take (length ds) (drop j history))
    ∙ ap (λ l. xs ++ l) (first_of_map (transaction names) (drop j history) ds others parts) in
    subst (λ l. AppliesAll names nothing l (j + length ds) new) (sym list) all

-- ---- What the source sends.

-- the answer is that for the content's set: the scripts that are left of the history
pub record Sends (limit : ℕ) (scripts : List ScriptValue) (once : Bool) (greeting login query : Payload) (answer : List ℕ) : Type 0 where
  pub can : AllByRecursion CanSend scripts
  pub last : ℕ
  pub packings : ArePackings 1 (sent_payloads once scripts) answer last
  pub short : AllByRecursion (λ p. length p ≤ limit) (greeting ∷ login ∷ query ∷ sent_payloads once scripts)

one_set : (a b : Ids) (bytes : List ℕ) → IsEncoding a bytes → IsEncoding b bytes → a ≡ b
one_set a b bytes x y = (one_front a b bytes bytes [] [] x y refl).0

dump_length : (d : DumpValue) (name position : List ℕ) → length position ≡ 8 → length (dump_bytes d name position) ≡ 23 + length name + length d.set
dump_length d name position eight =
    let f = 0x1E ∷ little_bytes 2 d.flags ++ little_bytes 4 d.server_id ++ little_bytes 4 (length name) in
    let size = little_bytes 4 (length d.set) in
    omega (arith, length-append (f ++ name ++ position ++ size) d.set, length-append (f ++ name ++ position) size, length-append (f ++ name) position, length-append f name, eight)

-- ---- The end.

ends_so : (rest : Rest) (ds : List DeliveryValue) (once : Bool) (front all : List ℕ) (last : ℕ) (old new : Content) → rest.due ≡ InDump → rest.taken ≡ length front → all ≡ front ++ rest.bytes
    → length all < 2 ^ 64 → ArePackings rest.id (end_payloads once) rest.bytes last → AllByRecursion (λ p. length p ≤ rest.limit) (end_payloads once)
    → Why rest ds false old new (length all) (end_reason once)
ends_so rest ds true front all last old new in_dump taken is small a short =
    let whole : rest.bytes ≡ a.0 = a.3 ∙ ap (λ (l : List ℕ). a.0 ++ l) a.5.0 ∙ append-nil a.0 in
    let sizes : length all ≡ rest.taken + length a.0 = ap length is ∙ length-append front rest.bytes ∙ ap (λ n. n + length rest.bytes) (sym taken) ∙ ap (λ (l : List ℕ). rest.taken + length l) whole in
    record {
      payload = eof_payload;
      stops = record { next = record { packing = a.0; more = a.1; after = a.2; whole = record { packing = a.4; within = short.0 }; bytes = a.3 }; within = omega (arith, sizes, small) };
      in_dump = subst IsInDump (sym in_dump) tt;
      is_eof = record { counters = 0 ∷ 0 ∷ 2 ∷ 0 ∷ []; ignored = []; payload_is = refl; size = refl; short = omega arith };
      at_is = sizes;
    }
ends_so rest ds false front all last old new in_dump taken is small a short = (
  ap length is ∙ length-append front rest.bytes ∙ (let none : length rest.bytes ≡ 0 = ap length a.0 in omega (arith, none, taken)),
  subst (λ l. IsUnfinished rest.id rest.limit l) (sym a.0) (nothing_yet rest.id rest.limit),
)

begun_by : (all first others mine : List DeliveryValue) → all ≡ first ++ others → first ≡ mine → all ≡ mine ++ others
begun_by all first others mine is same = is ∙ ap (λ l. l ++ others) same

module _ (one_dump : (a b : DumpValue) (payload : List ℕ) → IsDump a payload → IsDump b payload → a ≡ b) (limit : ℕ) (names : Names) (history : List ScriptValue) (j : ℕ) (held last : Content) (dialogue : Dialogue)
    (r : Resumes limit names history j held last dialogue) where
  open dialogue use {request, opening, answer}

  left : Left names history j held last
  left = left_of names history j held last (no_more names history j held r.reached) r.reached r.all_applied

  same_dump : r.answers.dump ≡ r.dump
  same_dump = one_dump r.answers.dump r.dump request r.answers.asks.is_dump r.asks.is_dump

  same_set : r.answers.executed ≡ held.executed
  same_set = one_set r.answers.executed held.executed r.dump.set (subst (λ (d : DumpValue). IsEncoding r.answers.executed d.set) same_dump r.answers.asks.encodes) r.asks.encodes

  due_is : due r.answers.executed history ≡ drop j history
  due_is = ap (λ ids. due ids history) same_set ∙ left.due_are

  once_is : is_once r.answers.dump.flags ≡ is_once r.dump.flags
  once_is = ap (λ (d : DumpValue). is_once d.flags) same_dump

  sends : Sends limit (drop j history) (is_once r.dump.flags) r.greeting r.login r.query answer
  sends = record {
    can = subst (λ l. AllByRecursion CanSend l) due_is r.answers.can;
    last = r.answers.last;
    packings = subst (λ l. ArePackings 1 (sent_payloads (is_once r.dump.flags) l) answer r.answers.last) due_is
        (subst (λ o. ArePackings 1 (sent_payloads o (due r.answers.executed history)) answer r.answers.last) once_is r.answers.packings);
    short = subst (λ l. AllByRecursion (λ p. length p ≤ limit) (r.greeting ∷ r.login ∷ r.query ∷ sent_payloads (is_once r.dump.flags) l)) left.due_are r.admits;
  }

  not_long : IsDumpTooLong held.executed → ⊥
  not_long long =
      let same : long.set ≡ r.dump.set = one_encoding held.executed long.set r.dump.set long.encodes r.asks.encodes in
      let is = r.asks.is_dump in
      let size : length request ≡ 23 + length is.name + length r.dump.set = ap length is.payload_is ∙ dump_length r.dump is.name is.position is.sizes.1 in
      let over = long.long in
      absurd (omega (arith, size, over, ap length same, r.short))

  module _ (small : length (opening ++ answer) < 2 ^ 64) where
    c : Cut 1 (payloads_of (events_of (drop j history))) (end_payloads (is_once r.dump.flags)) answer sends.last
    c = are_cut 1 (payloads_of (events_of (drop j history))) (end_payloads (is_once r.dump.flags)) answer sends.last sends.packings

    writable : AllByRecursion IsWritable (events_of (drop j history))
    writable = events_writable (drop j history) sends.can

    abbrev payloads : List Payload
    payloads = r.greeting ∷ r.login ∷ r.query ∷ payloads_of (events_of (drop j history))

    abbrev events : List EventValue
    events = map (seen names) (events_of (drop j history))

    talks : Talks limit names (record { due = Hello; id = 0 }) payloads (opening ++ c.front) events c.mid
    talks = talks_all limit names r.greeting r.login r.query opening (payloads_of (events_of (drop j history))) c.front events c.mid r.opens (sends.short.0, (sends.short.1.0, (sends.short.1.1.0, tt)))
        (talks_events limit names 1 (events_of (drop j history)) c.front c.mid writable
        (all_front (λ p. length p ≤ limit) (payloads_of (events_of (drop j history))) (end_payloads (is_once r.dump.flags)) sends.short.1.1.1) c.first)

    bytes_are : opening ++ answer ≡ (opening ++ c.front) ++ c.back
    bytes_are = ap (λ (l : List ℕ). opening ++ l) c.bytes_are ∙ sym (append_assoc opening c.front c.back)

    abbrev reading : Reading limit names (opening ++ answer)
    reading = record {
      payloads = payloads;
      front = opening ++ c.front;
      events = events;
      deliveries = transactions names (drop j history);
      id = c.mid;
      rest = c.back;
      bytes = bytes_are;
      talk = record {
        talks = talks;
        within = (let sizes = ap length bytes_are ∙ length-append (opening ++ c.front) c.back in omega (arith, sizes, small));
        delivers = delivers names (drop j history) sends.can;
      };
    }

    dump_is_due : due_after payloads ≡ InDump
    dump_is_due = dump_due r.greeting r.login r.query (payloads_of (events_of (drop j history))) r.opens.lets_in

    abbrev end : Ended
    end = record { reason = end_reason (is_once r.dump.flags); at = length (opening ++ answer); applied = length (transactions names (drop j history)) }

    conn : Conn limit names false held (opening ++ answer) last end
    conn = record {
      reading = reading;
      has_applied = record { applies = left.applies; asked = λ _ long. not_long long };
      why = ends_so (rest_of reading) (transactions names (drop j history)) (is_once r.dump.flags) (opening ++ c.front) (opening ++ answer) sends.last held last dump_is_due refl bytes_are small c.second
          (all_back (λ p. length p ≤ limit) (payloads_of (events_of (drop j history))) (end_payloads (is_once r.dump.flags)) sends.short.1.1.1);
      kept = λ broken. absurd (false≢true broken);
    }

    pub leads : Leads limit names held last (opening ++ answer) (transactions names (drop j history)) (end_reason (is_once r.dump.flags))
    unfolding conn
    leads = record { end = end; conn = conn; delivers = refl; applied = refl; at = refl; reason_is = refl }

    pub cut : AllByRecursion (λ b. b < 256) answer → (part more : List ℕ) (count applied : ℕ) (new : Content) → opening ++ answer ≡ part ++ more → AppliesFirst limit names held part count applied new → Reaches names history (j + count) new
    cut plain part more count applied new is b =
        let q = b.reading in
        let both : (opening ++ c.front) ++ c.back ≡ q.front ++ (q.rest ++ more) = sym bytes_are ∙ is ∙ ap (λ (l : List ℕ). l ++ more) q.bytes ∙ append_assoc q.front q.rest more in
        let blocked = subst (λ d. IsBlocked limit names d c.mid c.back) (sym dump_is_due) (ends_there limit names (is_once r.dump.flags) c.mid c.back sends.last c.second) in
        let g = beginning limit names Hello 0 payloads (opening ++ c.front) events c.mid c.back q.payloads q.front q.events q.id (q.rest ++ more) talks q.talk.talks both blocked in
        let f = shortening.beginning q.events g.others (transactions names (drop j history)) (subst (λ l. AreDeliveries l (transactions names (drop j history))) g.events_are (delivers names (drop j history) sends.can)) in
        let front : AllByRecursion (λ b. b < 256) c.front = all_front (λ b. b < 256) c.front c.back (subst (λ l. AllByRecursion (λ b. b < 256) l) c.bytes_are plain) in
        let read : AllByRecursion IsFromBytes q.events = all_front IsFromBytes q.events g.others (subst (λ l. AllByRecursion IsFromBytes l) g.events_are (are_read names 1 (events_of (drop j history)) c.front c.mid writable front c.first)) in
        let same : f.first ≡ q.deliveries = one_list_of_deliveries q.events f.first q.deliveries read f.are q.talk.delivers in
        let parts : transactions names (drop j history) ≡ q.deliveries ++ f.others = begun_by (transactions names (drop j history)) f.first f.others q.deliveries f.ds_are same in
        subst (λ k. Reaches names history (j + k) new) b.counted (reaches_on names history j held last q.deliveries f.others applied new r.reached left parts b.has_applied.applies)
