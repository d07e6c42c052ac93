-- Private: what a session does with one payload.
use Rattle.std.specs.Prelude.{◌≡◌, ℕ, Bool, true, false, List, [], ◌∷◌, ◌++◌, Option, Some, Result, Ok, Err}
use Rattle.greet.specs.Refusal.{Refusal, server_error}
use Rattle.greet.specs.View.{Refuses}
use Rattle.replica.specs.Message.{IsOfMessage}
use Rattle.wire.specs.declared.fault.WireFault.{WireFault}
use Rattle.wire.specs.declared.fault.WireFault.TheVariants as wire
use Rattle.byteorder.specs.Endian.{little_bytes}
use Rattle.greet.specs.Message.{IsOkPacket, IsEofPacket, dump_bytes}
use Rattle.gtid.specs.Identifier.{Ids}
use Rattle.gtid.specs.Encoding.{IsEncoding}
use Rattle.binlog.specs.Filter.{Names}
use Rattle.binlog.specs.Event.{EventValue}
use Rattle.replica.specs.declared.session.end.Reason.{Reason}
use Rattle.replica.specs.declared.session.end.Reason.TheVariants.{SourceEof, SourceError, Wire, Greet, Event, Gather, Refused, Database, Memory}
use Rattle.gather.specs.Transaction.{DeliveryValue}
use Rattle.gather.specs.Standing.{HasGathered as Gathers}
use Rattle.gather.specs.declared.gatherer.Gatherer.{Gatherer}
use Rattle.gather.specs.declared.fault.GatherFault.{GatherFault}
use Rattle.gather.specs.declared.fault.GatherFault.TheVariants as gather
use Rattle.store.specs.declared.fault.Applied.{Applied}
use Rattle.store.specs.declared.fault.Applied.TheVariants as applied
use Rattle.store.specs.declared.fault.StoreFault.{StoreFault}
use Rattle.store.specs.declared.fault.StoreFault.TheVariants as fault
use Rattle.replica.specs.declared.session.end.Refusal.TheVariants.{NoSuchRow, CountFull}
use Rattle.replica.specs.Settings.{Settings}
use Rattle.replica.specs.Stream.{Due, QueryReply, InDump, Answers, Carries}
use Rattle.wire.specs.Payload.{Payload}
use Rattle.replica.specs.End.{Denies}
use Rattle.replica.specs.Conn.{IsDumpTooLong}
use Rattle.replica.specs.Sent.{Responds, IsPacked, flags_of}

-- The packing of the payload from the sequence id was appended.
pub record Sends (id : ℕ) (p : Payload) (old new : List ℕ) : Type 0 where
  pub bytes : List ℕ
  pub packed : IsPacked id p bytes
  pub appended : new ≡ old ++ bytes

-- The bytes due in reply to the message were appended.
pub record Replies (settings : Settings) (executed : Ids) (due : Due) (p : Payload) (old new : List ℕ) : Type 0 where
  pub bytes : List ℕ
  pub is_due : Responds settings executed due p bytes
  pub appended : new ≡ old ++ bytes

-- The message before the dump is the expected one, and the bytes due in reply to it were appended.
pub record IsAnswered (settings : Settings) (names : Names) (executed : Ids) (due : Due) (p : Payload) (old new : List ℕ) : Type 0 where
  pub answers : Answers names due p []
  pub replies : Replies settings executed due p old new
  -- the dump was asked for, so its command was short enough
  pub short : due ≡ QueryReply → IsDumpTooLong executed → ⊥

-- Why the connection ends at a payload before the dump: memory ran out, the payload is not the expected message, or the
-- command due in reply would be too long.
abbrev pub EndsAt : Names → Ids → Due → Payload → Reason → Type 0
EndsAt names executed due p Memory = Unit {0}
EndsAt names executed due p (Wire f) = (f ≡ wire.TooLarge) × (due ≡ QueryReply) × IsOkPacket p × IsDumpTooLong executed
EndsAt names executed due p (SourceError code state message) = Denies names due [] p (SourceError code state message)
EndsAt names executed due p (Greet f) = Denies names due [] p (Greet f)
EndsAt names executed due p _ = ⊥

-- The dump command with the set was appended.
pub record SendsDump (settings : Settings) (executed : Ids) (old new : List ℕ) : Type 0 where
  pub set : List ℕ
  pub encodes : IsEncoding executed set
  pub sends : Sends 0 (dump_bytes (record { flags = flags_of settings.once; server_id = settings.server_id; set = set }) [] (little_bytes 8 4)) old new

-- The reason for a refusal of a message, or that memory ran out.
abbrev pub IsReportOf : Option Refusal → Reason → Type 0
IsReportOf refusal Memory = Unit {0}
IsReportOf refusal (SourceError code state message) = refusal ≡ Some (server_error code state message.items)
IsReportOf refusal (Greet f) = IsOfMessage f × Refuses refusal f
IsReportOf refusal _ = ⊥

-- Why the connection ends at a payload of the dump that does not end a transaction: memory ran out, the log ends, or
-- what is wrong with the payload.
abbrev pub EndsDump : Names → List EventValue → Payload → Reason → Type 0
EndsDump names es p Memory = Unit {0}
EndsDump names es p SourceEof = IsEofPacket p
EndsDump names es p (SourceError code state message) = Denies names InDump es p (SourceError code state message)
EndsDump names es p (Greet f) = Denies names InDump es p (Greet f)
EndsDump names es p (Event f) = Denies names InDump es p (Event f)
EndsDump names es p (Gather f) = Denies names InDump es p (Gather f)
EndsDump names es p _ = ⊥

-- The payload has an event that ends these transactions, one or none, and the gatherer was given it.
pub record GathersMore (names : Names) (es : List EventValue) (ds : List DeliveryValue) (p : Payload) (more : List DeliveryValue) (gatherer : Gatherer) : Type 0 where
  pub event : EventValue
  pub carries : Carries names p event
  pub gathers : Gathers (es ++ event ∷ []) (ds ++ more) gatherer

-- maps the store's answer: whether the transaction was applied, or why the connection ends
abbrev pub outcome_of : Result Applied StoreFault → Result Bool Reason
outcome_of (Ok applied.Done) = Ok true
outcome_of (Ok applied.Repeat) = Ok false
outcome_of (Err (fault.NoSuchRow at)) = Err (Refused (NoSuchRow at))
outcome_of (Err (fault.CountFull at)) = Err (Refused (CountFull at))
outcome_of (Err fault.Memory) = Err Memory
outcome_of (Err cause) = Err (Database cause)

-- the reason for a fault of the packets
abbrev pub reason_of : WireFault → Reason
reason_of wire.Memory = Memory
reason_of fault = Wire fault

-- the reason for a fault of the events
abbrev pub reason_of_events : GatherFault → Reason
reason_of_events gather.Memory = Memory
reason_of_events f = Gather f
