-- A conversation with a source: its payloads in order, and the bytes that pack them. MySQL Source Documentation,
-- Client/Server Protocol, "Connection Phase" and "Command Phase"; Replication Protocol: COM_BINLOG_DUMP_GTID.
use Rattle.std.specs.Prelude.{◌≡◌, ℕ, ◌^◌, ◌<◌, ◌==◌, ◌⊎◌, Bool, false, if◌then◌else◌, List, [], ◌∷◌, ◌++◌, length, ⊤}
use Rattle.wire.specs.Payload.{IsWholePayload, Payload}
use Rattle.greet.specs.PacketHeader as packet_header
use Rattle.greet.specs.Message.{IsOkPacket}
use Rattle.greet.specs.Complete.{HasGreeting, HasSwitch}
use Rattle.binlog.specs.Filter.{Names}
use Rattle.binlog.specs.Event.{EventValue, IsEvent}
use Rattle.gather.specs.Transaction.{DeliveryValue, AreDeliveries}

-- The message that is expected: the greeting, the reply to the login, the reply to the login after a switch, the reply
-- to the query, or a payload of the dump.
pub data Due : Type 0 where
  Hello : Due
  Reply : Due
  SecondReply : Due
  QueryReply : Due
  InDump : Due

-- a switch begins with this byte, an OK with 0
abbrev pub begins_switch : Payload → Bool
begins_switch [] = false
begins_switch (byte ∷ bytes) = byte == packet_header.auth_switch

-- the message that is expected after this one
abbrev pub next_due : Due → Payload → Due
next_due Hello p = Reply
next_due Reply p = if begins_switch p then SecondReply else QueryReply
next_due SecondReply p = QueryReply
next_due QueryReply p = InDump
next_due InDump p = InDump

-- The sequence id of the first packet of the message expected after this one, whose packets end before `id`: 2 for the
-- reply to the login and 4 for that after a switch, since each response has one packet; 1 after a command; and in the
-- dump without a break.
abbrev pub next_id : Due → Payload → ℕ → ℕ
next_id Hello p id = 2
next_id Reply p id = if begins_switch p then 4 else 1
next_id SecondReply p id = 1
next_id QueryReply p id = 1
next_id InDump p id = id

abbrev pub due_from : Due → List Payload → Due
due_from due [] = due
due_from due (p ∷ ps) = due_from (next_due due p) ps

-- the message that is expected after these payloads
abbrev pub due_after : List Payload → Due
due_after ps = due_from Hello ps

abbrev pub IsInDump : Due → Type 0
IsInDump InDump = ⊤
IsInDump _ = ⊥

-- The payload is 0 and the event.
pub record Carries (names : Names) (p : Payload) (e : EventValue) : Type 0 where
  pub body : List ℕ
  pub payload_is : p ≡ packet_header.ok ∷ body
  pub is_event : IsEvent names e body

-- The payload is the expected message, and has these events: one in the dump, otherwise none. A greeting has the needed
-- capability flags, and a switch names the authentication method of the replica.
abbrev pub Answers : Names → Due → Payload → List EventValue → Type 0
Answers names Hello p es = HasGreeting p × (es ≡ [])
Answers names Reply p es = (IsOkPacket p ⊎ HasSwitch p) × (es ≡ [])
Answers names SecondReply p es = IsOkPacket p × (es ≡ [])
Answers names QueryReply p es = IsOkPacket p × (es ≡ [])
Answers names InDump p es = (e : EventValue) × Carries names p e × (es ≡ e ∷ [])

-- What comes next in a conversation: the message that is expected, and the sequence id of its packing.
pub record Expected : Type 0 where
  pub due : Due
  pub id : ℕ

-- From the expected message on, whose packing has its sequence id: x is the packings of the payloads, one after the
-- other, each of at most `limit` bytes and the expected message; they have these events, and the next payload's packing
-- has the last id.
abbrev pub Talks : ℕ → Names → Expected → List Payload → List ℕ → List EventValue → ℕ → Type 0
Talks limit names expected [] x es last = (x ≡ []) × (es ≡ []) × (last ≡ expected.id)
Talks limit names expected (p ∷ ps) x es last =
    (y : List ℕ) × (z : List ℕ) × (first : List EventValue) × (others : List EventValue) × (after : ℕ)
    × (x ≡ y ++ z) × (es ≡ first ++ others) × IsWholePayload expected.id limit y p after × Answers names expected.due p first
    × Talks limit names (record { due = next_due expected.due p; id = next_id expected.due p after }) ps z others last

-- x is a prefix of a conversation, of fewer than 2 ^ 64 bytes, with these payloads. They have these events, which are
-- lawful and have these transactions.
pub record Conversation (limit : ℕ) (names : Names) (ps : List Payload) (x : List ℕ) (es : List EventValue) (ds : List DeliveryValue) (id : ℕ) : Type 0 where
  pub talks : Talks limit names (record { due = Hello; id = 0 }) ps x es id
  pub within : length x < 2 ^ 64
  pub delivers : AreDeliveries es ds

-- The bytes begin with a prefix of a conversation, and the rest follows it.
pub record Reading (limit : ℕ) (names : Names) (b : List ℕ) : Type 0 where
  pub payloads : List Payload
  pub front : List ℕ
  pub events : List EventValue
  pub deliveries : List DeliveryValue
  pub id : ℕ
  pub rest : List ℕ
  pub bytes : b ≡ front ++ rest
  pub talk : Conversation limit names payloads front events deliveries id
