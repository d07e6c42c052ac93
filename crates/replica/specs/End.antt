-- Where the reading of a connection stops, and for which reason.
use Rattle.std.specs.Prelude.{◌≡◌, ℕ, ◌+◌, ◌^◌, ◌<◌, ◌≤◌, ◌⊎◌, List, ◌∷◌, ◌++◌, length, Some}
use Rattle.wire.specs.Payload.{IsWholePayload, IsUnfinished, IsOutOfSequence, IsTooLarge, Payload}
use Rattle.wire.specs.declared.fault.WireFault.{WireFault}
use Rattle.wire.specs.declared.fault.WireFault.TheVariants as wire
use Rattle.greet.specs.PacketHeader as packet_header
use Rattle.greet.specs.Message.{IsEofPacket}
use Rattle.greet.specs.Refusal.{server_error}
use Rattle.greet.specs.View.{Refuses}
use Rattle.binlog.specs.Filter.{Names}
use Rattle.binlog.specs.Event.{EventValue, event_fault}
use Rattle.gather.specs.Fault.{IsFault}
use Rattle.replica.specs.declared.session.end.Reason.{Reason}
use Rattle.replica.specs.declared.session.end.Reason.TheVariants.{EndOfInput, SourceEof, SourceError, Wire, Greet, Event, Gather}
use Rattle.replica.specs.Stream.{Due, IsInDump, Carries, Reading, due_after}
use Rattle.replica.specs.Message.{refusal_of, IsNoEvent, IsOfMessage}

-- The bytes begin with the packing of a payload within the limit, from this sequence id.
pub record HasNext (limit id : ℕ) (rest : List ℕ) (p : Payload) : Type 0 where
  pub packing : List ℕ
  pub more : List ℕ
  pub after : ℕ
  pub whole : IsWholePayload id limit packing p after
  pub bytes : rest ≡ packing ++ more

-- The reason for which a payload that is not the expected message ends the connection. It is a fault of the payload's
-- bytes, or of its event after those before it.
abbrev pub Denies : Names → Due → List EventValue → Payload → Reason → Type 0
Denies names due es p (SourceError code state message) = IsNoEvent due p × (refusal_of due p ≡ Some (server_error code state message.items))
Denies names due es p (Greet fault) = IsNoEvent due p × IsOfMessage fault × Refuses (refusal_of due p) fault
Denies names due es p (Event fault) = IsInDump due × (body : List ℕ) × (p ≡ packet_header.ok ∷ body) × (event_fault names body ≡ Some fault)
Denies names due es p (Gather fault) = IsInDump due × (e : EventValue) × Carries names p e × IsFault es e fault
Denies names due es p _ = ⊥

-- the fault of a wrong header of a packet
abbrev pub IsWrong : ℕ → ℕ → List ℕ → WireFault → Type 0
IsWrong id limit rest (wire.Sequence want got) = IsOutOfSequence id limit rest want got
IsWrong id limit rest wire.TooLarge = IsTooLarge id limit rest
IsWrong id limit rest wire.Memory = ⊥
IsWrong id limit rest wire.Ended = ⊥

-- What is left of a connection after `taken` bytes with these events: the message that is expected, its sequence id, the bytes.
pub record Rest : Type 0 where
  pub limit : ℕ
  pub names : Names
  pub due : Due
  pub events : List EventValue
  pub taken : ℕ
  pub id : ℕ
  pub bytes : List ℕ

-- what follows the bytes that were read
abbrev pub rest_of : {limit : ℕ} {names : Names} {b : List ℕ} → Reading limit names b → Rest
rest_of {limit} {names} r = record { limit = limit; names = names; due = due_after r.payloads; events = r.events; taken = length r.front; id = r.id; bytes = r.rest }

module _ (rest : Rest) where
  -- The next payload is whole, and ends within 2 ^ 64 - 1 bytes.
  pub record StopsAt (p : Payload) : Type 0 where
    pub next : HasNext rest.limit rest.id rest.bytes p
    pub within : rest.taken + length next.packing < 2 ^ 64

  -- The next payload is whole, and ends after that many bytes.
  pub record PassesEnd : Type 0 where
    pub payload : Payload
    pub next : HasNext rest.limit rest.id rest.bytes payload
    pub beyond : 2 ^ 64 ≤ rest.taken + length next.packing

  -- The next payload is an EOF at the end of the log, and its packing is taken.
  pub record EndsLog (at : ℕ) : Type 0 where
    pub payload : Payload
    pub stops : StopsAt payload
    pub in_dump : IsInDump rest.due
    pub is_eof : IsEofPacket payload
    pub at_is : at ≡ rest.taken + length stops.next.packing

  -- The next payload is not the expected message.
  pub record EndsWith (reason : Reason) : Type 0 where
    pub payload : Payload
    pub stops : StopsAt payload
    pub denied : Denies rest.names rest.due rest.events payload reason

  -- The reading stops at this offset, for this reason: no payload is whole; the log ends; a payload is not the expected
  -- message; a header is wrong, or the payload ends after 2 ^ 64 - 1 bytes. The other reasons are not caused by the
  -- bytes.
  abbrev pub StopsFor : ℕ → Reason → Type 0
  StopsFor at EndOfInput = (at ≡ rest.taken) × IsUnfinished rest.id rest.limit rest.bytes
  StopsFor at SourceEof = EndsLog at
  StopsFor at (SourceError code state message) = (at ≡ rest.taken) × EndsWith (SourceError code state message)
  StopsFor at (Wire fault) = (at ≡ rest.taken) × (IsWrong rest.id rest.limit rest.bytes fault ⊎ ((fault ≡ wire.TooLarge) × PassesEnd))
  StopsFor at (Greet fault) = (at ≡ rest.taken) × EndsWith (Greet fault)
  StopsFor at (Event fault) = (at ≡ rest.taken) × EndsWith (Event fault)
  StopsFor at (Gather fault) = (at ≡ rest.taken) × EndsWith (Gather fault)
  StopsFor at _ = ⊥

-- the reading of these bytes stops at this offset, for this reason
abbrev pub Stops : (limit : ℕ) (names : Names) (b : List ℕ) → Reading limit names b → ℕ → Reason → Type 0
Stops limit names b r at reason = StopsFor (rest_of r) at reason

-- The end of a connection that its bytes cause.
pub record End (limit : ℕ) (names : Names) (b : List ℕ) (reason : Reason) (at : ℕ) : Type 0 where
  pub reading : Reading limit names b
  pub stops : Stops limit names b reading at reason
