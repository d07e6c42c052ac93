-- How following a stream ends.
use Rattle.replica.proofs.Names.{◌≤◌, ◌≡◌, ◌≢◌, ℕ, ◌+◌, arith, take, unwrap_or, MatchOption, Bool, true, false, List, [], ◌++◌, length, Option, refl, sym, ap, ◌∙◌, inl, inr, subst, IsTrue, append_assoc, append-nil, Some, None, is_some, Appends, Consumes, Keeps, Consumes-nil, Ghosts, Trees, Held, Schema, Names, DeliveryValue, Content, Store, HoldsAs, database, Reason, EndOfInput, SourceEof, Wire, Database, Memory, ReadFailed, WriteFailed, Halted, Until, Ended, Session, Settings, Reading, Why, Conn, BreaksStore, IsNoStreamFailure, reported_as, IsLeftOfOne, SentFor, GoesOn, HasEnded, end_of, room_of, StandsOver, LeavesOnly, IsInFull}
use Rattle.std.proofs.Common.{drop, option_map, Bor}
use Rattle.std.specs.Io.KnownBytes.{IsAtEnd}
use Rattle.std.proofs.Math.Seq.{take-append_seam}
use Rattle.std.proofs.KnownBytes.{Appends-trans, Appends-kept, Consumes-trans, Consumes-kept, Appends-nil}
use Rattle.sqlite.specs.Held.{state}
use Rattle.replica.specs.End.{Rest, rest_of}
use Rattle.replica.specs.Conn.{EndsInLast, StoreState}
use Rattle.replica.specs.Standing.{Position, parts_of, from_start, sends_on, Stands}
use Rattle.replica.specs.Over.{HasRead}
use Rattle.replica.specs.Follow.{Exchange, IsOfStream, MaySendLess, Follows, IsFollowing, HandsOut, piece_length, sends_no_more_after, turns_left, while_going}
use Rattle.replica.proofs.Positions.{conn_of, sent_of}
use Rattle.replica.proofs.Runs.{begins, read_all}

may_owe : (reason : Reason) → sends_no_more_after reason ≡ true → MaySendLess reason
may_owe (Database cause) h = tt
may_owe Memory h = tt
may_owe Halted h = tt
may_owe Until h = tt
may_owe _ h = cc

is_in_full : (reason : Reason) → sends_no_more_after reason ≡ false → IsNoStreamFailure reason → IsInFull reason
is_in_full (Database cause) h n = cc
is_in_full Memory h n = cc
is_in_full ReadFailed h n = absurd n
is_in_full WriteFailed h n = absurd n
is_in_full Halted h n = cc
is_in_full Until h n = cc
is_in_full _ h n = tt

not_of_stream : (reason : Reason) → IsNoStreamFailure reason → IsOfStream reason → ⊥
not_of_stream ReadFailed n h = n
not_of_stream WriteFailed n h = n
not_of_stream _ n h = h

-- such an end leaves the store failed or not, as it was
as_it_was : (reason : Reason) (was is : Bool) → IsInFull reason → BreaksStore reason was is → is ≡ was
as_it_was (Database cause) was is full h = absurd full
as_it_was Memory was is full h = absurd full
as_it_was Halted was is full h = absurd full
as_it_was Until was is full h = absurd full
as_it_was _ was is full h = h

-- running out of memory, an observer that waits for nothing, or a failure of the stream
abbrev pub IsLate : Reason → Type 0
IsLate Memory = Unit {0}
IsLate Until = Unit {0}
IsLate reason = IsOfStream reason

reported_late : (reason : Reason) (was is : Bool) → IsLate reason → is ≡ was → BreaksStore reason was is
reported_late Memory was is s h = λ w. h ∙ w
reported_late ReadFailed was is s h = h
reported_late WriteFailed was is s h = h
reported_late Until was is s h = h
reported_late _ was is s h = absurd s

module _ (rest : Rest) (ds : List DeliveryValue) (was : Bool) (old new : Content) (at : ℕ) where
  abbrev pub why : Reason → Type 0
  why reason = Why rest ds was old new at reason

  -- the reason of an ended connection may be replaced by a failed write
  pub why_write_failed : (reason : Reason) → IsInFull reason → why reason → why WriteFailed
  why_write_failed SourceEof h w = inr w
  why_write_failed (Wire fault) h w = elim w [ inl s ↦ inl s.0 | inr s ↦ inl s.1 ]
  why_write_failed (Database cause) h w = absurd h
  why_write_failed Memory h w = absurd h
  why_write_failed ReadFailed h w = absurd h
  why_write_failed WriteFailed h w = absurd h
  why_write_failed Halted h w = absurd h
  why_write_failed Until h w = absurd h
  why_write_failed _ h w = inl w.0

  -- and an end of the input by a failed read
  pub why_read_failed : (reason : Reason) → reason ≡ EndOfInput → why reason → why ReadFailed
  why_read_failed reason h w = (subst (λ (v : Reason). why v) h w).0

  why_memory : (reason : Reason) → reason ≡ EndOfInput → why reason → why Memory
  why_memory reason h w = (subst (λ (v : Reason). why v) h w).0

  why_until : (reason : Reason) → reason ≡ EndOfInput → why reason → why Until
  why_until reason h w = (subst (λ (v : Reason). why v) h w).0

-- for each reading of the bytes, the reason of the end implies another one
abbrev pub Retells : ℕ → Names → StoreState → List ℕ → Content → Ended → Reason → Type 0
Retells limit names before b new end other =
    (r : Reading limit names b) → why (rest_of r) r.deliveries before.broken before.content new end.at end.reason → why (rest_of r) r.deliveries before.broken before.content new end.at other

conn-ended_with : (limit : ℕ) (names : Names) (was : Bool) (old : Content) (b : List ℕ) (new : Content) (end : Ended) (reason : Reason) → Retells limit names (record { broken = was; content = old }) b new end reason
    → Conn limit names was old b new end → Conn limit names was old b new (reported_as reason end)
conn-ended_with limit names was old b new end reason f c = record {
  reading = c.reading;
  has_applied = c.has_applied;
  why = f c.reading c.why;
  kept = c.kept;
}

module _ {S : Type 0} (g : Ghosts S) where
  ended_with : (limit : ℕ) (before store : Store S g) (was : Bool) (old : Content) (b : List ℕ) (end : Ended) (reason : Reason) → IsInFull end.reason → IsLate reason
      → ((new : Content) → Retells limit before.following (record { broken = was; content = old }) b new end reason) → HasRead g limit before store was old b end → HasRead g limit before store was old b (reported_as reason end)
  ended_with limit before store was old b end reason full late f r = record {
    is = r.is;
    new = r.new;
    holds = r.holds;
    following = r.following;
    conn = conn-ended_with limit before.following was old b r.new end reason (f r.new) r.conn;
    breaks = reported_late reason was r.is late (as_it_was end.reason was r.is full r.breaks);
    schema_is = r.schema_is;
    leaves = λ w. record {
      each = λ trees may.
          let l = (r.leaves w).each trees may in
          (l.0, l.1, elim l.2 [ inl e ↦ inl e | inr m ↦ absurd (subst (λ (v : Reason). IsInFull v) m.failed full) ]);
    };
  }

  -- the pending output was handed out
  pub over-out : (session after : Session) (store : Store S g) (schema : Schema) (pos : Position) (out : List ℕ) → HandsOut session after out
      → StandsOver g session store schema pos → StandsOver g after store schema (sends_on pos out)
  over-out session after store schema pos out h s = record {
    is = s.is;
    now = s.now;
    holds = s.holds;
    stands = h.stands store.following pos s.is s.now s.stands;
    schema_is = s.schema_is;
    leaves = λ w.
        subst (λ (c : Settings). LeavesOnly g schema store (IsLeftOfOne c.limit store.following pos.old pos.read s.now (end_of after))) (sym h.config)
        (subst (λ (e : Ended). LeavesOnly g schema store (IsLeftOfOne session.config.limit store.following pos.old pos.read s.now e)) (sym h.end) (s.leaves w));
  }

  module _ (session : Session) (before store : Store S g) (was : Bool) (old : Content) (stream : Exchange) (names : store.following ≡ before.following) (f : IsFollowing g session before store was old stream) where
    abbrev pub end : Ended
    end = end_of session

    -- where the session stands
    abbrev here : Position
    here = record { was = was; old = old; read = f.read; sent = f.sent }

    has_read : HasRead g session.config.limit before store was old f.read end
    has_read = read_all g session before store session.config.limit here end refl names refl f.stands

    is_due : SentFor session.config before.following old.executed f.read end.at (f.sent ++ session.out.items)
    is_due = subst (λ n. SentFor session.config n old.executed f.read end.at (f.sent ++ session.out.items)) names (sent_of session store.following here f.stands.is f.stands.now f.stands.stands)

    -- nothing can be read, since memory ran out
    pub follows-memory : end.reason ≡ EndOfInput → Follows g session.config before store was old stream (reported_as Memory end)
    unfolding ended_with has_read
    follows-memory e =
        let full : IsInFull end.reason = subst (λ (v : Reason). IsInFull v) (sym e) tt in
        record {
          read = f.read;
          sent = f.sent;
          pending = session.out.items;
          reads = f.reads;
          writes = f.writes;
          last = f.last;
          unended = λ h. let no : Memory ≡ ReadFailed = h in cc;
          has_read = ended_with session.config.limit before store was old f.read end Memory full tt
              (λ new r w. why_memory (rest_of r) r.deliveries was old new end.at end.reason e w) has_read;
          in_full = λ h. absurd h;
          all_read = λ bad. let no : Memory ≡ EndOfInput = bad in cc;
          is_due = is_due;
          all_sent = inl tt;
        }

    -- nothing is read, since the observer waits for nothing
    pub follows-until : end.reason ≡ EndOfInput → Follows g session.config before store was old stream (reported_as Until end)
    unfolding ended_with has_read
    follows-until e =
        let full : IsInFull end.reason = subst (λ (v : Reason). IsInFull v) (sym e) tt in
        record {
          read = f.read;
          sent = f.sent;
          pending = session.out.items;
          reads = f.reads;
          writes = f.writes;
          last = f.last;
          unended = λ h. let no : Until ≡ ReadFailed = h in cc;
          has_read = ended_with session.config.limit before store was old f.read end Until full tt
              (λ new r w. why_until (rest_of r) r.deliveries was old new end.at end.reason e w) has_read;
          in_full = λ h. absurd h;
          all_read = λ bad. let no : Until ≡ EndOfInput = bad in cc;
          is_due = is_due;
          all_sent = inl tt;
        }

    -- memory or the database ended it: nothing more is sent
    pub follows-sends_no_more : sends_no_more_after end.reason ≡ true → IsNoStreamFailure end.reason → Follows g session.config before store was old stream end
    follows-sends_no_more gave n = record {
      read = f.read;
      sent = f.sent;
      pending = session.out.items;
      reads = f.reads;
      writes = f.writes;
      has_read = has_read;
      last = f.last;
      unended = λ h. absurd (subst (λ (v : Reason). IsNoStreamFailure v) h n);
      in_full = λ h. absurd (not_of_stream end.reason n h);
      all_read = λ e. let bad : false ≡ true = sym (ap sends_no_more_after e) ∙ gave in cc;
      is_due = is_due;
      all_sent = inl (may_owe end.reason gave);
    }

    module _ (after : Session) (left' written' : Option (List ℕ)) (y z : List ℕ) (keeps : Keeps stream.left_after left') (appends : Appends stream.written_after written' y) (hands : HandsOut session after (y ++ z)) where
      -- the stream afterwards
      abbrev stream' : Exchange
      stream' = record stream { left_after = left'; written_after = written' }

      writes' : Appends stream.written written' (f.sent ++ y)
      writes' = Appends-trans stream.written stream.written_after written' f.sent y f.writes appends

      reads' : Consumes stream.left left' f.read
      reads' = Consumes-kept stream.left stream.left_after left' f.read f.reads keeps

      is_due' : SentFor session.config before.following old.executed f.read end.at ((f.sent ++ y) ++ z)
      is_due' =
          subst (λ (l : List ℕ). SentFor session.config before.following old.executed f.read end.at l) (sym (append_assoc f.sent y z))
          (subst (λ n. SentFor session.config n old.executed f.read end.at (f.sent ++ (y ++ z))) names (hands.sent store.following here f.stands.is f.stands.now f.stands.stands))

      -- a write failed
      pub follows-write_failed : sends_no_more_after end.reason ≡ false → IsNoStreamFailure end.reason → Follows g session.config before store was old stream' (reported_as WriteFailed end)
      unfolding ended_with has_read
      follows-write_failed gave n =
          let full = is_in_full end.reason gave n in
          record {
            read = f.read;
            sent = f.sent ++ y;
            pending = z;
            reads = reads';
            writes = writes';
            last = f.last;
            unended = λ h. let no : WriteFailed ≡ ReadFailed = h in cc;
            has_read = ended_with session.config.limit before store was old f.read end WriteFailed full tt
                (λ new r w. why_write_failed (rest_of r) r.deliveries was old new end.at end.reason full w) has_read;
            in_full = λ h. (end.reason, full, has_read.conn);
            all_read = λ e. let bad : WriteFailed ≡ EndOfInput = e in cc;
            is_due = is_due';
            all_sent = inl tt;
          }

      module _ (all : z ≡ []) where
        sent' : SentFor session.config before.following old.executed f.read end.at ((f.sent ++ y) ++ [])
        sent' = subst (λ (l : List ℕ). SentFor session.config before.following old.executed f.read end.at ((f.sent ++ y) ++ l)) all is_due'

        -- everything has been sent, and the session has ended or everything has been read
        pub follows-ended : IsNoStreamFailure end.reason → (end.reason ≡ EndOfInput → IsAtEnd left') → Follows g session.config before store was old stream' end
        follows-ended n read = record {
          read = f.read;
          sent = f.sent ++ y;
          pending = [];
          reads = reads';
          writes = writes';
          has_read = has_read;
          last = f.last;
          unended = λ h. absurd (subst (λ (v : Reason). IsNoStreamFailure v) h n);
          in_full = λ h. absurd (not_of_stream end.reason n h);
          all_read = read;
          is_due = sent';
          all_sent = inr refl;
        }

        -- a read failed
        pub follows-read_failed : end.reason ≡ EndOfInput → Follows g session.config before store was old stream' (reported_as ReadFailed end)
        unfolding ended_with has_read
        follows-read_failed e =
            let full : IsInFull end.reason = subst (λ (v : Reason). IsInFull v) (sym e) tt in
            record {
              read = f.read;
              sent = f.sent ++ y;
              pending = [];
              reads = reads';
              writes = writes';
              last = f.last;
              unended = λ h. conn-ended_with session.config.limit before.following was old f.read has_read.new end EndOfInput
                  (λ r w. subst (λ (v : Reason). why (rest_of r) r.deliveries was old has_read.new end.at v) e w) has_read.conn;
              has_read = ended_with session.config.limit before store was old f.read end ReadFailed full tt
                  (λ new r w. why_read_failed (rest_of r) r.deliveries was old new end.at end.reason e w) has_read;
              in_full = λ h. (end.reason, full, has_read.conn);
              all_read = λ bad. let no : ReadFailed ≡ EndOfInput = bad in cc;
              is_due = sent';
              all_sent = inr refl;
            }

        -- everything has been sent
        pub following-sent : IsFollowing g after before store was old stream'
        following-sent = record {
          read = f.read;
          sent = f.sent ++ (y ++ z);
          reads = reads';
          writes = subst (λ (l : List ℕ). Appends stream.written written' (f.sent ++ l)) (sym (ap (λ (l : List ℕ). y ++ l) all ∙ append-nil y)) writes';
          stands = over-out session after store (database g before).now.schema here (y ++ z) hands f.stands;
          last = subst (λ (c : Settings). EndsInLast c.limit piece_length before.following was old [] f.read) (sym hands.config) f.last;
        }

  -- a session that goes on has read bytes that do not end the connection
  pub unended : (session : Session) (before store : Store S g) (schema : Schema) (pos : Position) → store.following ≡ before.following → session.ended ≡ None
      → (s : StandsOver g session store schema pos) → Conn session.config.limit before.following pos.was pos.old pos.read s.now (reported_as EndOfInput (end_of session))
  unended session before store schema pos names going s =
      let conn : Conn session.config.limit before.following pos.was pos.old pos.read s.now (end_of session) =
      subst (λ n. Conn session.config.limit n pos.was pos.old pos.read s.now (end_of session)) names (conn_of session store.following pos s.is s.now s.stands) in
      let not_yet : Ended = record { reason = EndOfInput; at = session.at; applied = session.applied } in
      let reported : end_of session ≡ reported_as EndOfInput (end_of session) =
      ap (λ (v : Option Ended). unwrap_or v not_yet) going ∙ sym (ap (λ (v : Option Ended). reported_as EndOfInput (unwrap_or v not_yet)) going) in
      subst (λ (e : Ended). Conn session.config.limit before.following pos.was pos.old pos.read s.now e) reported conn

  -- nothing has been read or sent
  pub following-begins : ((h : Held S) (db : Trees) → IsTrue (state g h).is_open → (state g h).may_leave db → db ≡ (state g h).committed.trees)
      → (session : Session) (store : Store S g) (was : Bool) (content : Content) (left written : Option (List ℕ)) → session.ended ≡ None → HoldsAs g was content store → Stands session store.following (from_start was content) was content
      → IsFollowing g session store store was content (record { left = left; left_after = left; written = written; written_after = written })
  following-begins settled session store was content left written going holds stands =
      let s = begins g settled session store was content holds stands in
      record {
        read = [];
        sent = [];
        reads = Consumes-nil left;
        writes = Appends-nil written;
        stands = s;
        last = record {
          front = [];
          last = [];
          read_is = refl;
          piece = omega arith;
          now = s.now;
          end = end_of session;
          unended = unended session store store (database g store).now.schema (from_start was content) refl going s;
        };
      }

  -- some bytes were read
  pub following-read : (session after : Session) (before store new : Store S g) (was : Bool) (old : Content) (stream : Exchange) (left' written' : Option (List ℕ)) (x : List ℕ)
      → (f : IsFollowing g session before store was old stream) → store.following ≡ before.following → session.ended ≡ None → after.config ≡ session.config → length x ≤ piece_length
      → Consumes stream.left_after left' x → Keeps stream.written_after written'
      → StandsOver g after new (database g before).now.schema (record { was = was; old = old; read = f.read ++ x; sent = f.sent }) → IsFollowing g after before new was old (record stream { left_after = left'; written_after = written' })
  following-read session after before store new was old stream left' written' x f names going config piece consumes keeps stands = record {
    read = f.read ++ x;
    sent = f.sent;
    reads = Consumes-trans stream.left stream.left_after left' f.read x f.reads consumes;
    writes = Appends-kept stream.written stream.written_after written' f.sent f.writes keeps;
    stands = stands;
    last = subst (λ (c : Settings). EndsInLast c.limit piece_length before.following was old [] (f.read ++ x)) (sym config) (record {
      front = f.read;
      last = x;
      read_is = refl;
      piece = piece;
      now = f.stands.now;
      end = end_of session;
      unended = unended session before store (database g before).now.schema (record { was = was; old = old; read = f.read; sent = f.sent }) names going f.stands;
    });
  }

  -- as above, for settings and an end that are equal
  pub follows-same : (settings settings' : Settings) (before store : Store S g) (was : Bool) (old : Content) (stream : Exchange) (end end' : Ended) → settings ≡ settings' → end ≡ end'
      → Follows g settings before store was old stream end → Follows g settings' before store was old stream end'
  follows-same settings settings' before store was old stream end end' s e f =
      subst (λ (v : Ended). Follows g settings' before store was old stream v) e
      (subst (λ (v : Settings). Follows g v before store was old stream end) s f)

pub some_after : (o : Option (Bor Ended)) (e : Option Ended) → option_map (λ (r : Bor Ended). r.now) o ≡ e → is_some e ≡ is_some o
some_after None e h = sym (ap (λ (v : Option Ended). is_some v) h)
some_after (Some r) e h = sym (ap (λ (v : Option Ended). is_some v) h)

pub same_turns : (before after : Session) → after.ended ≡ before.ended → room_of after ≡ room_of before → turns_left after ≡ turns_left before
same_turns before after e r = ap (λ (v : Option Ended). while_going v (room_of after + 1)) e ∙ ap (λ (n : ℕ). while_going before.ended (n + 1)) r

-- a session that has ended was not ended by the end of the input
pub ended_early : (session : Session) (names : Names) (pos : Position) (is : Bool) (now : Content) → is_some session.ended ≡ true → Stands session names pos is now → (end_of session).reason ≢ EndOfInput
unfolding Stands
ended_early session names pos is now h s = elim session.ended as (λ v. is_some v ≡ true
    → MatchOption v
    (GoesOn (parts_of session) names (sends_on pos session.out.items) is now)
    (λ last. HasEnded session.config names (sends_on pos session.out.items) is now last)
    → (unwrap_or v (record { reason = EndOfInput; at = session.at; applied = session.applied })).reason ≢ EndOfInput) [
      | None ↦ λ e g. let bad : false ≡ true = e in cc
      | Some last ↦ λ e h. h.more
    ] h s

-- what is written back into a vector keeps its length
pub length_kept : (n : ℕ) (xs ys : List ℕ) → n ≡ length ys → length xs ≡ length ys → length (take n (xs ++ drop (length xs) ys)) ≡ length ys
length_kept n xs ys at same =
    ap (λ (l : List ℕ). length l) (ap (λ k. take k (xs ++ drop (length xs) ys)) (at ∙ sym same) ∙ take-append_seam xs (drop (length xs) ys)) ∙ same
