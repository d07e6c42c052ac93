-- What a scripted source sends, and what it accepts. MySQL Source Documentation, Client/Server Protocol: "MySQL
-- Packets", Protocol::HandshakeV10, OK_Packet and EOF_Packet; Replication Protocol: COM_BINLOG_DUMP_GTID.
use Rattle.std.specs.Prelude.{◌≡◌, ℕ, suc, ◌%◌, ◌≤◌, ◌⊎◌, Bool, not, ◌==◌, List, [], ◌∷◌, ◌++◌, length, codes, map, filter, flat_map, if◌then◌else◌, MatchBool}
use Rattle.std.specs.List.{AllByRecursion}
use Rattle.std.specs.FinSet as set
use Rattle.wire.specs.Packet.{IsPacking, largest_payload}
use Rattle.wire.specs.Payload.{IsWholePayload, Payload}
use Rattle.greet.specs.PacketHeader as packet_header
use Rattle.greet.specs.Message.{greeting_bytes, replica_capabilities, utf8mb3, checksum_query, IsOkPacket, DumpValue, IsDump}
use Rattle.greet.specs.Complete.{HasGreeting, HasResponse}
use Rattle.gtid.specs.Identifier.{Ids}
use Rattle.gtid.specs.Encoding.{IsEncoding}
use Rattle.gtid.specs.declared.fault.GtidFault.{GtidFault}
use Rattle.gtid.specs.declared.fault.GtidFault.TheVariants as gtid_fault
use Rattle.wire.specs.declared.fault.WireFault.{WireFault}
use Rattle.wire.specs.declared.fault.WireFault.TheVariants as wire_fault
use Rattle.binlog.specs.RowsWritten.{HaveRows}
use Rattle.binlog.specs.Event.{EventValue, format, gtid, table_map}
use Rattle.binlog.specs.Writing.{IsWritable, event_bytes}
use Rattle.scripted_source.specs.declared.fault.ForgeFault.{ForgeFault}
use Rattle.scripted_source.specs.declared.fault.ForgeFault.TheVariants.{Request, Unfit, TooLarge, Memory}
use Rattle.scripted_source.specs.Script.{PartValue, ScriptValue, part_events, script_events, end_event}

-- ---- Payloads.

-- an event in a dump: the byte of an OK and the event
abbrev pub payload_of : EventValue → Payload
payload_of e = packet_header.ok ∷ event_bytes e

abbrev pub payloads_of : List EventValue → List Payload
payloads_of events = map payload_of events

-- SERVER_STATUS_AUTOCOMMIT
abbrev pub autocommit : ℕ
autocommit = 2

-- an OK without rows, insert id and warnings, in autocommit
abbrev pub ok_payload : Payload
ok_payload = packet_header.ok ∷ 0 ∷ 0 ∷ autocommit ∷ 0 ∷ 0 ∷ 0 ∷ []

-- an EOF without warnings, in autocommit
abbrev pub eof_payload : Payload
eof_payload = packet_header.eof ∷ 0 ∷ 0 ∷ autocommit ∷ 0 ∷ []

-- the greeting of a server 8.0.36 with this scramble: thread 8, the character set utf8mb3, in autocommit
abbrev pub greeting_payload : List ℕ → Payload
greeting_payload scramble = greeting_bytes (record { version = codes "8.0.36"; thread = 8; scramble = scramble; capabilities = replica_capabilities; charset = utf8mb3; status = autocommit })

-- The bytes are the packings of the payloads, one after the other, the first from this sequence id and each later one
-- from the id after the one before it; `last` is the id after all of them.
abbrev pub ArePackings : ℕ → List Payload → List ℕ → ℕ → Type 0
ArePackings id [] bytes last = (bytes ≡ []) × (last ≡ id)
ArePackings id (p ∷ ps) bytes last = (first : List ℕ) × (others : List ℕ) × (next : ℕ) × (bytes ≡ first ++ others) × IsPacking id p first next × ArePackings next ps others last

-- new is old with the packings of the payloads at its end
pub record AppendsPackings (id : ℕ) (ps : List Payload) (old new : List ℕ) (last : ℕ) : Type 0 where
  pub bytes : List ℕ
  pub packings : ArePackings id ps bytes last
  pub appended : new ≡ old ++ bytes

-- new is old with the packing of the payload at its end
pub record AppendsPayload (id : ℕ) (p : Payload) (old new : List ℕ) : Type 0 where
  pub bytes : List ℕ
  pub next : ℕ
  pub packing : IsPacking id p bytes next
  pub appended : new ≡ old ++ bytes

-- ---- The opening.

-- The bytes are a greeting with this scramble, packed from 0, the OK to the login, packed from 2, and the OK to the
-- query, packed from 1.
pub record IsOpening (scramble : List ℕ) (bytes : List ℕ) : Type 0 where
  pub greeting : List ℕ
  pub login : List ℕ
  pub query : List ℕ
  pub after_greeting : ℕ
  pub after_login : ℕ
  pub after_query : ℕ
  pub packs_greeting : IsPacking 0 (greeting_payload scramble) greeting after_greeting
  pub packs_login : IsPacking 2 ok_payload login after_login
  pub packs_query : IsPacking 1 ok_payload query after_query
  pub bytes_are : bytes ≡ greeting ++ (login ++ query)

-- The bytes are a greeting with the needed capabilities, packed from 0, an OK to the login, packed from 2, and an OK to
-- the query, packed from 1.
pub record OpensWith (greeting login query : Payload) (bytes : List ℕ) : Type 0 where
  pub first : List ℕ
  pub second : List ℕ
  pub third : List ℕ
  pub after_greeting : ℕ
  pub after_login : ℕ
  pub after_query : ℕ
  pub greets : HasGreeting greeting
  pub lets_in : IsOkPacket login
  pub confirms : IsOkPacket query
  pub packs_greeting : IsPacking 0 greeting first after_greeting
  pub packs_login : IsPacking 2 login second after_login
  pub packs_query : IsPacking 1 query third after_query
  pub bytes_are : bytes ≡ first ++ (second ++ third)

-- ---- The request.

-- The payload is a dump command, and its set has these GTIDs.
pub record Asks (request : Payload) (dump : DumpValue) (executed : Ids) : Type 0 where
  pub is_dump : IsDump dump request
  pub encodes : IsEncoding executed dump.set

-- The payload is a dump command for some set.
pub record HasRequest (request : Payload) : Type 0 where
  pub dump : DumpValue
  pub executed : Ids
  pub asks : Asks request dump executed

-- whether the flags ask for an EOF at the end of the log: BINLOG_DUMP_NON_BLOCK, the lowest bit
abbrev pub is_once : ℕ → Bool
is_once flags = flags % 2 == 1

-- The payload is a dump command with these GTIDs, with an EOF at the end of the log or without.
pub record AsksFor (request : Payload) (once : Bool) (executed : Ids) : Type 0 where
  pub dump : DumpValue
  pub asks : Asks request dump executed
  pub once_is : once ≡ is_once dump.flags

-- ---- The history.

-- whether the transaction is in the set
abbrev pub is_known : Ids → ScriptValue → Bool
is_known executed script = set.contains executed (script.source, script.number)

-- the scripts that are not in the set
abbrev pub due : Ids → List ScriptValue → List ScriptValue
due executed history = filter (λ script. not (is_known executed script)) history

-- the events of scripts, after a format description
abbrev pub events_of : List ScriptValue → List EventValue
events_of scripts = format ∷ flat_map script_events scripts

abbrev pub end_payloads : Bool → List Payload
end_payloads once = if once then eof_payload ∷ [] else []

-- the payloads of a dump: the events of the scripts, and an EOF if one is asked for
abbrev pub sent_payloads : Bool → List ScriptValue → List Payload
sent_payloads once scripts = payloads_of (events_of scripts) ++ end_payloads once

-- The payload is not too long to be sent.
abbrev pub IsShort : Payload → Type 0
IsShort p = length p ≤ largest_payload

-- The part's table map and the rows of its pairs can be written.
pub record FitsPart (part : PartValue) : Type 0 where
  pub map : IsWritable (table_map part.table)
  pub rows : HaveRows part.kind part.table.columns part.pairs

-- The part can be sent: each of its two events can be written, and is short enough for a payload.
pub record CanSendPart (part : PartValue) : Type 0 where
  pub fits : FitsPart part
  pub events : AllByRecursion IsWritable (part_events part)
  pub short : AllByRecursion IsShort (payloads_of (part_events part))

-- The script can be sent.
pub record CanSend (script : ScriptValue) : Type 0 where
  pub gtid : IsWritable (gtid script.source script.number)
  pub parts : AllByRecursion CanSendPart script.parts
  pub end : IsWritable (end_event script.ending script.number)

-- The bytes answer the request: each script that is not in its set can be sent, and the bytes are the packings, from
-- the id 1, of the payloads of the dump in the order of the history.
pub record IsAnswer (history : List ScriptValue) (request : Payload) (bytes : List ℕ) : Type 0 where
  pub dump : DumpValue
  pub executed : Ids
  pub asks : Asks request dump executed
  pub can : AllByRecursion CanSend (due executed history)
  pub last : ℕ
  pub packings : ArePackings 1 (sent_payloads (is_once dump.flags) (due executed history)) bytes last

-- ---- What cannot be sent.

-- Why a part of the script with this index cannot be sent: it does not fit, or an event of it is too long.
abbrev pub IsPartFault : ℕ → PartValue → ForgeFault → Type 0
IsPartFault at part Request = ⊥
IsPartFault at part (Unfit script) = (script ≡ at) × (FitsPart part → ⊥)
IsPartFault at part TooLarge = FitsPart part × (AllByRecursion IsShort (payloads_of (part_events part)) → ⊥)
IsPartFault at part Memory = ⊥

-- The fault of the first part that cannot be sent.
abbrev pub IsPartsFault : ℕ → List PartValue → ForgeFault → Type 0
IsPartsFault at [] fault = ⊥
IsPartsFault at (part ∷ parts) fault = IsPartFault at part fault ⊎ (CanSendPart part × IsPartsFault at parts fault)

-- The fault of the first script that is not in the set and cannot be sent, in the history from this index on.
abbrev pub IsScriptsFault : Ids → ℕ → List ScriptValue → ForgeFault → Type 0
IsScriptsFault executed at [] fault = ⊥
IsScriptsFault executed at (script ∷ scripts) fault =
    MatchBool (is_known executed script)
    (IsScriptsFault executed (suc at) scripts fault)
    (IsPartsFault at script.parts fault ⊎ (CanSend script × IsScriptsFault executed (suc at) scripts fault))

-- A script that is not in the request's set cannot be sent.
pub record IsUnsendable (history : List ScriptValue) (request : Payload) (fault : ForgeFault) : Type 0 where
  pub dump : DumpValue
  pub executed : Ids
  pub asks : Asks request dump executed
  pub is_fault : IsScriptsFault executed 0 history fault

-- Why a request is not answered: it is not a dump command with a set, or otherwise a script cannot be sent.
abbrev pub IsAnswerFault : List ScriptValue → Payload → ForgeFault → Type 0
IsAnswerFault history request Request = HasRequest request → ⊥
IsAnswerFault history request (Unfit at) = IsUnsendable history request (Unfit at)
IsAnswerFault history request TooLarge = IsUnsendable history request TooLarge
IsAnswerFault history request Memory = Unit {0}

-- the fault for a set that cannot be read, or that memory ran out
abbrev pub set_fault : GtidFault → ForgeFault
set_fault gtid_fault.Memory = Memory
set_fault _ = Request

-- the fault for bytes that are not packets, or that memory ran out
abbrev pub packets_fault : WireFault → ForgeFault
packets_fault wire_fault.Memory = Memory
packets_fault _ = Request

-- ---- What a replica sends.

-- The bytes begin with the packets of this payload, from this sequence id, and the rest follows them.
pub record TakesPayload (id : ℕ) (bytes : List ℕ) (payload rest : List ℕ) : Type 0 where
  pub packing : List ℕ
  pub next : ℕ
  pub whole : IsWholePayload id largest_payload packing payload next
  pub bytes_are : bytes ≡ packing ++ rest

-- The bytes are the packets of the dump command with these GTIDs, and nothing else.
pub record IsLastSent (bytes : List ℕ) (executed : Ids) : Type 0 where
  pub command : Payload
  pub taken : TakesPayload 0 bytes command []
  pub dump : DumpValue
  pub asks : Asks command dump executed

-- The bytes are the packets of the query and of the dump command with these GTIDs, and nothing else.
pub record AreLastSent (bytes : List ℕ) (executed : Ids) : Type 0 where
  pub rest : List ℕ
  pub taken : TakesPayload 0 bytes checksum_query rest
  pub others : IsLastSent rest executed

-- The bytes are the packets of a response, of the query and of the dump command with these GTIDs, and nothing else.
pub record AreSent (bytes : List ℕ) (executed : Ids) : Type 0 where
  pub login : Payload
  pub rest : List ℕ
  pub taken : TakesPayload 1 bytes login rest
  pub is_login : HasResponse login
  pub others : AreLastSent rest executed
