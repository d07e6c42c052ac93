-- The position of a session in a connection.
use Rattle.std.specs.Prelude.{◌≡◌, ◌≢◌, ℕ, ◌+◌, ◌-◌, ◌^◌, Bool, true, false, List, [], ◌++◌, length, Option, Some, None, MatchOption, unwrap_or, take}
use Rattle.wire.specs.Payload.{ReaderState, IsUnfinished, IsWholePayload, Payload}
use Rattle.binlog.specs.Filter.{Names}
use Rattle.gather.specs.Standing.{HasGathered as Gathers}
use Rattle.gather.specs.declared.gatherer.Gatherer.{Gatherer}
use Rattle.store.specs.State.{Content}
use Rattle.replica.specs.declared.session.end.Reason.{Reason}
use Rattle.replica.specs.declared.session.end.Reason.TheVariants.{EndOfInput, SourceEof}
use Rattle.replica.specs.declared.session.end.Ended.{Ended}
use Rattle.replica.specs.declared.session.phase.Login.{Login}
use Rattle.replica.specs.declared.session.phase.Login.TheVariants as login
use Rattle.replica.specs.declared.session.phase.Phase.{Phase}
use Rattle.replica.specs.declared.session.phase.Phase.TheVariants as phase
use Rattle.replica.specs.declared.session.Session.{Session}
use Rattle.replica.specs.Settings.{Settings}
use Rattle.replica.specs.Stream.{Due, Hello, Reply, SecondReply, QueryReply, InDump, Reading, due_after}
use Rattle.replica.specs.Conn.{HasApplied, Conn, BreaksStore}
use Rattle.replica.specs.Sent.{Sent, SentFor}

-- the message that a session expects before the dump
abbrev pub due_at : Login → Due
due_at login.Greeting = Hello
due_at login.Reply = Reply
due_at login.SecondReply = SecondReply
due_at login.QueryReply = QueryReply

-- the message that a session expects
abbrev pub due_of : Phase → Due
due_of (phase.Login at) = due_at at
due_of phase.Dump = InDump

-- how a session ends if no more comes
abbrev pub end_of : Session → Ended
end_of session = unwrap_or session.ended (record { reason = EndOfInput; at = session.at; applied = session.applied })

-- The parts of a session that say how far it has come: what is held of a payload, the transaction that is gathered, the phase, the
-- offset after the payloads taken, and how many transactions were applied.
pub record Parts : Type 0 where
  pub settings : Settings
  pub assembly : ReaderState
  pub gatherer : Gatherer
  pub phase : Phase
  pub at : ℕ
  pub applied : ℕ

abbrev pub parts_of : Session → Parts
parts_of session = record {
  settings = session.config;
  assembly = session.assembler;
  gatherer = session.gatherer;
  phase = session.phase;
  at = session.at;
  applied = session.applied;
}

-- Where a session stands: whether the store had failed, and what it held, when the session was begun; and the bytes that were read
-- and sent since.
pub record Position : Type 0 where
  pub was : Bool
  pub old : Content
  pub read : List ℕ
  pub sent : List ℕ

-- these bytes were read, and nothing was sent
abbrev pub having_read : Bool → Content → List ℕ → Position
having_read was old bytes = record { was = was; old = old; read = bytes; sent = [] }

-- nothing was read or sent
abbrev pub from_start : Bool → Content → Position
from_start was old = having_read was old []

-- with more bytes read
abbrev pub reads_on : Position → List ℕ → Position
reads_on pos more = record { was = pos.was; old = pos.old; read = pos.read ++ more; sent = pos.sent }

-- with more bytes sent
abbrev pub sends_on : Position → List ℕ → Position
sends_on pos more = record { was = pos.was; old = pos.old; read = pos.read; sent = pos.sent ++ more }

-- The connection goes on. What is sent of the position includes the pending output. `is` says whether the store has failed now, which
-- holds `now`. (It is a relation on the parts of a session, so that it stays true if another part changes.)
pub record GoesOn (parts : Parts) (names : Names) (pos : Position) (is : Bool) (now : Content) : Type 0 where
  pub reading : Reading parts.settings.limit names pos.read
  pub held : reading.rest ≡ parts.assembly.held
  pub at_is : parts.at ≡ length reading.front
  pub limit : parts.assembly.limit ≡ parts.settings.limit
  pub id : parts.assembly.due ≡ reading.id
  pub reads : parts.assembly.ended ≡ false
  pub unfinished : IsUnfinished reading.id parts.settings.limit parts.assembly.held
  pub awaits : due_of parts.phase ≡ due_after reading.payloads
  pub gathers : Gathers reading.events reading.deliveries parts.gatherer
  pub has_applied : HasApplied names pos.old reading.deliveries (due_after reading.payloads) parts.applied now
  pub sent : Sent parts.settings pos.old.executed reading.payloads pos.sent
  pub store : is ≡ pos.was
  pub kept : pos.was ≡ true → now ≡ pos.old

-- The connection has ended.
pub record HasEnded (settings : Settings) (names : Names) (pos : Position) (is : Bool) (now : Content) (end : Ended) : Type 0 where
  pub conn : Conn settings.limit names pos.was pos.old pos.read now end
  pub more : end.reason ≢ EndOfInput
  pub sent : SentFor settings names pos.old.executed pos.read end.at pos.sent
  pub store : BreaksStore end.reason pos.was is

-- The session is at this position, over a store that has failed or not, and holds `now`.
unfoldable pub Stands : Session → Names → Position → Bool → Content → Type 0
Stands session names pos is now =
    MatchOption session.ended
    (GoesOn (record { settings = session.config; assembly = session.assembler; gatherer = session.gatherer; phase = session.phase; at = session.at; applied = session.applied })
    names (sends_on pos session.out.items) is now)
    (λ end. HasEnded session.config names (sends_on pos session.out.items) is now end)

-- A payload has come after those taken, and is still to be taken.
pub record HasPayload (parts : Parts) (names : Names) (pos : Position) (is : Bool) (now : Content) (p : Payload) : Type 0 where
  pub reading : Reading parts.settings.limit names pos.read
  pub whole : IsWholePayload reading.id parts.settings.limit reading.rest p parts.assembly.due
  pub at_is : parts.at ≡ length reading.front
  pub limit : parts.assembly.limit ≡ parts.settings.limit
  pub held : parts.assembly.held ≡ []
  pub reads : parts.assembly.ended ≡ false
  pub awaits : due_of parts.phase ≡ due_after reading.payloads
  pub gathers : Gathers reading.events reading.deliveries parts.gatherer
  pub has_applied : HasApplied names pos.old reading.deliveries (due_after reading.payloads) parts.applied now
  pub sent : Sent parts.settings pos.old.executed reading.payloads pos.sent
  pub store : is ≡ pos.was
  pub kept : pos.was ≡ true → now ≡ pos.old

abbrev pub Meets : Session → Names → Position → Bool → Content → Payload → Type 0
Meets session names pos is now p =
    HasPayload (record { settings = session.config; assembly = session.assembler; gatherer = session.gatherer; phase = session.phase; at = session.at; applied = session.applied })
    names (sends_on pos session.out.items) is now p

-- the sequence id of the first packet of the expected message, before any payload of the dump has come
abbrev pub first_id_of : Phase → ℕ
first_id_of (phase.Login login.Greeting) = 0
first_id_of (phase.Login login.Reply) = 2
first_id_of (phase.Login login.SecondReply) = 4
first_id_of (phase.Login login.QueryReply) = 1
first_id_of phase.Dump = 1

-- how many more bytes a session may take in before it ends: a connection ends within 2 ^ 64 - 1 bytes and the packing
-- of one payload after them
abbrev pub room_of : Session → ℕ
room_of session = (2 ^ 64 - session.at) + (2 ^ 31 - length session.assembler.held)

-- what was taken of the bytes: this many of them, or all
abbrev pub taken_of : Option ℕ → List ℕ → List ℕ
taken_of None bytes = bytes
taken_of (Some n) bytes = take n bytes

-- where a connection ends: after the payloads taken, of which an EOF at the end of the log is one
abbrev pub offset_of : Reason → ℕ → ℕ → ℕ
offset_of SourceEof at end = end
offset_of _ at end = at

-- The session has gone on to this offset, with this many transactions applied.
pub record MovesOn (old new : Session) (at applied : ℕ) : Type 0 where
  pub config : new.config ≡ old.config
  pub assembler : new.assembler ≡ old.assembler
  pub gatherer : new.gatherer ≡ old.gatherer
  pub phase : new.phase ≡ old.phase
  pub out : new.out ≡ old.out
  pub at_is : new.at ≡ at
  pub applied_is : new.applied ≡ applied
  pub ended : new.ended ≡ old.ended
