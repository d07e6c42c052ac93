-- The outcome of following a stream.
use Rattle.std.specs.Prelude.{◌≡◌, ℕ, ◌+◌, ◌≤◌, ◌<◌, ◌↔◌, ◌⊎◌, Bool, true, false, List, [], ◌++◌, Option, Some, None}
use Rattle.std.specs.Io.KnownBytes.{Appends, Consumes, IsAtEnd}
use Rattle.sqlite_trees.specs.declared.store.Store.{Ghosts}
use Rattle.binlog.specs.Filter.{Names}
use Rattle.store.specs.State.{Content}
use Rattle.store.specs.declared.store.Store.{Store}
use Rattle.store.specs.Store.{database, names_of}
use Rattle.replica.specs.declared.source.counted.Counted.{Counted}
use Rattle.replica.specs.declared.session.end.Reason.{Reason}
use Rattle.replica.specs.declared.session.end.Reason.TheVariants.{EndOfInput, Refused, Database, Memory, ReadFailed, WriteFailed, Halted, Until}
use Rattle.replica.specs.declared.session.end.Ended.{Ended}
use Rattle.replica.specs.declared.session.Session.{Session}
use Rattle.replica.specs.declared.source.following.Turn.{Turn}
use Rattle.replica.specs.declared.source.following.Turn.TheVariants as turn
use Rattle.replica.specs.Settings.{Settings}
use Rattle.replica.specs.Failing.{HaveFailed}
use Rattle.replica.specs.Conn.{Conn, IsOfBytes, EndsInLast, reported_as}
use Rattle.replica.specs.Sent.{SentFor}
use Rattle.replica.specs.Standing.{Position, Stands, sends_on, end_of, room_of}
use Rattle.replica.specs.Over.{StandsOver, HasRead}

-- the end is caused by the bytes of the connection, or by a refused transaction
abbrev pub IsInFull : Reason → Type 0
IsInFull (Refused refusal) = Unit {0}
IsInFull reason = IsOfBytes reason

-- the connection was ended by running out of memory, by the database or by the observer
abbrev pub sends_no_more_after : Reason → Bool
sends_no_more_after Memory = true
sends_no_more_after (Database cause) = true
sends_no_more_after Halted = true
sends_no_more_after Until = true
sends_no_more_after _ = false

-- some pending output may stay unsent
abbrev pub MaySendLess : Reason → Type 0
MaySendLess Memory = Unit {0}
MaySendLess (Database cause) = Unit {0}
MaySendLess WriteFailed = Unit {0}
MaySendLess Halted = Unit {0}
MaySendLess Until = Unit {0}
MaySendLess _ = ⊥

-- a failure of the stream
abbrev pub IsOfStream : Reason → Type 0
IsOfStream ReadFailed = Unit {0}
IsOfStream WriteFailed = Unit {0}
IsOfStream _ = ⊥

-- The content, the offset and the count are exactly those of the bytes.
abbrev pub EndsInFull : ℕ → Names → Bool → Content → List ℕ → Content → Ended → Type 0
EndsInFull limit names was old b new end = (reason : Reason) × IsInFull reason × Conn limit names was old b new (reported_as reason end)

-- how many bytes a read asks for, at most: 64 KiB
abbrev pub piece_length : ℕ
piece_length = 65536

-- What a stream has left to read, and what was written to it, before and after.
pub record Exchange : Type 0 where
  pub left : Option (List ℕ)
  pub left_after : Option (List ℕ)
  pub written : Option (List ℕ)
  pub written_after : Option (List ℕ)

-- of a stream, by what it says that it has left to read and that was written to it
abbrev pub exchange : {T : Type 0} → (T → Option (List ℕ)) → (T → Option (List ℕ)) → T → T → Exchange
exchange left written before after = record { left = left before; left_after = left after; written = written before; written_after = written after }

module _ {S : Type 0} (g : Ghosts S) where
  -- A store that held this content, and had failed or not, has followed a stream to this end.
  pub record Follows (settings : Settings) (before after : Store S g) (was : Bool) (old : Content) (stream : Exchange) (end : Ended) : Type 0 where
    -- the bytes read, the bytes sent, and the pending output that was not sent
    pub read : List ℕ
    pub sent : List ℕ
    pub pending : List ℕ
    pub reads : Consumes stream.left stream.left_after read
    pub writes : Appends stream.written stream.written_after sent
    pub has_read : HasRead g settings.limit before after was old read end
    pub last : EndsInLast settings.limit piece_length (names_of g before) was old [] read
    pub in_full : IsOfStream end.reason → EndsInFull settings.limit (names_of g before) was old read has_read.new end
    -- a read fails only if the bytes read do not end the connection
    pub unended : end.reason ≡ ReadFailed → Conn settings.limit (names_of g before) was old read has_read.new (reported_as EndOfInput end)
    pub all_read : end.reason ≡ EndOfInput → IsAtEnd stream.left_after
    pub is_due : SentFor settings (names_of g before) old.executed read end.at (sent ++ pending)
    pub all_sent : MaySendLess end.reason ⊎ (pending ≡ [])

  -- While a stream is followed these bytes have been read and these sent, and this is the position of the session and
  -- its store.
  pub record IsFollowing (session : Session) (before store : Store S g) (was : Bool) (old : Content) (stream : Exchange) : Type 0 where
    pub read : List ℕ
    pub sent : List ℕ
    pub reads : Consumes stream.left stream.left_after read
    pub writes : Appends stream.written stream.written_after sent
    pub stands : StandsOver g session store (database g before).now.schema (record { was = was; old = old; read = read; sent = sent })
    pub last : EndsInLast session.config.limit piece_length (names_of g before) was old [] read

-- none after the end
abbrev pub while_going : Option Ended → ℕ → ℕ
while_going None n = n
while_going (Some end) n = 0

-- how many more turns of reading there can be
abbrev pub turns_left : Session → ℕ
turns_left session = while_going session.ended (room_of session + 1)

-- The session hands out these bytes: its position is the same with them sent, and everything due in reply to the
-- payloads taken has been sent.
pub record HandsOut (before after : Session) (out : List ℕ) : Type 0 where
  pub stands : (names : Names) (pos : Position) (is : Bool) (now : Content) → Stands before names pos is now → Stands after names (sends_on pos out) is now
  pub sent : (names : Names) (pos : Position) (is : Bool) (now : Content) → Stands before names pos is now → SentFor before.config names pos.old.executed pos.read (end_of before).at (pos.sent ++ out)
  pub config : after.config ≡ before.config
  pub ended : after.ended ≡ before.ended
  pub end : end_of after ≡ end_of before
  pub turns : turns_left after ≡ turns_left before

-- how many reads have failed in a turn
abbrev pub reads_failed : Turn → ℕ
reads_failed turn.Read = 0
reads_failed turn.AtEnd = 0
reads_failed turn.Failed = 1

-- how many reads have failed where this is the reason of the end
abbrev pub failed_reads_of : Reason → ℕ
failed_reads_of ReadFailed = 1
failed_reads_of _ = 0

-- how many writes have failed where this is the reason of the end
abbrev pub failed_writes_of : Reason → ℕ
failed_writes_of WriteFailed = 1
failed_writes_of _ = 0

-- The reason of an end says which call of the stream has failed between two moments. `failures` is what the stream reports of its own.
pub record ReportsFailures {T : Type 0} (failures : T → Option (ℕ × ℕ)) (before after : Counted T) (reason : Reason) : Type 0 where
  -- A failure is reported exactly if there was one, and at most one call has failed.
  pub read_failed : (reason ≡ ReadFailed) ↔ (before.failed_reads < after.failed_reads)
  pub write_failed : (reason ≡ WriteFailed) ↔ (before.failed_writes < after.failed_writes)
  pub once : (after.failed_reads ≤ before.failed_reads + 1) × (after.failed_writes ≤ before.failed_writes + 1)
  pub counted : (after.failed_reads ≡ before.failed_reads + failed_reads_of reason) × (after.failed_writes ≡ before.failed_writes + failed_writes_of reason)
  -- If the stream reports its own failures, it has failed exactly so.
  pub reported : HaveFailed (failures before.stream) (failures after.stream) (failed_reads_of reason) (failed_writes_of reason)
