-- The bytes due in reply to the payloads that a replica has taken. MySQL Source Documentation, Client/Server Protocol,
-- "Connection Phase", "Native Authentication" and COM_QUERY; Replication Protocol: COM_BINLOG_DUMP_GTID.
use Rattle.std.specs.Prelude.{◌≡◌, ℕ, ◌+◌, ◌⊎◌, Bool, if◌then◌else◌, List, [], ◌∷◌, ◌++◌, length}
use Rattle.byteorder.specs.Endian.{little_bytes}
use Rattle.wire.specs.Packet.{IsPacking}
use Rattle.greet.specs.Native.{native_answer}
use Rattle.greet.specs.Message.{GreetingValue, IsGreeting, response, IsSwitch, IsOkPacket, checksum_query, dump_bytes}
use Rattle.gtid.specs.Identifier.{Ids}
use Rattle.gtid.specs.Encoding.{IsEncoding}
use Rattle.binlog.specs.Filter.{Names}
use Rattle.replica.specs.Settings.{Settings}
use Rattle.replica.specs.Stream.{Due, Hello, Reply, SecondReply, QueryReply, InDump, next_due, Reading}
use Rattle.wire.specs.Payload.{Payload}
use Rattle.replica.specs.End.{EndsLog, rest_of}

-- the response to a scramble: empty for the empty password
abbrev pub auth_bytes : List ℕ → List ℕ → List ℕ
auth_bytes [] scramble = []
auth_bytes (byte ∷ bytes) scramble = native_answer (byte ∷ bytes) scramble

-- Flags of the dump command.
abbrev pub binlog_dump_non_block : ℕ
binlog_dump_non_block = 0x0001

abbrev pub binlog_through_gtid : ℕ
binlog_through_gtid = 0x0004

-- the flags: it has a set of GTIDs, and with `once` the source sends an EOF at the end of its log
abbrev pub flags_of : Bool → ℕ
flags_of once = if once then binlog_through_gtid + binlog_dump_non_block else binlog_through_gtid

-- The packing of a payload, the first packet with this sequence id.
abbrev pub IsPacked : ℕ → Payload → List ℕ → Type 0
IsPacked id p y = (next : ℕ) × IsPacking id p y next

module _ (settings : Settings) (executed : Ids) where
  -- The response to a greeting.
  pub record LogsIn (hello : Payload) (y : List ℕ) : Type 0 where
    pub greeting : GreetingValue
    pub greets : IsGreeting greeting hello
    pub packs : IsPacked 1 (response (record { user = settings.user; auth = auth_bytes settings.password greeting.scramble })) y

  -- The response to the scramble of a switch.
  pub record LogsInAgain (reply : Payload) (y : List ℕ) : Type 0 where
    pub scramble : List ℕ
    pub switch : IsSwitch scramble reply
    pub packs : IsPacked 3 (auth_bytes settings.password scramble) y

  -- The query, once the replica is logged in.
  pub record Queries (reply : Payload) (y : List ℕ) : Type 0 where
    pub ok : IsOkPacket reply
    pub packs : IsPacked 0 checksum_query y

  -- The dump command with the executed set.
  pub record AsksForDump (reply : Payload) (y : List ℕ) : Type 0 where
    pub ok : IsOkPacket reply
    pub set : List ℕ
    pub encodes : IsEncoding executed set
    pub packs : IsPacked 0 (dump_bytes (record { flags = flags_of settings.once; server_id = settings.server_id; set = set }) [] (little_bytes 8 4)) y

  -- The bytes due in reply to a payload that was expected.
  abbrev pub Responds : Due → Payload → List ℕ → Type 0
  Responds Hello p y = LogsIn p y
  Responds Reply p y = LogsInAgain p y ⊎ Queries p y
  Responds SecondReply p y = Queries p y
  Responds QueryReply p y = AsksForDump p y
  Responds InDump p y = y ≡ []

  -- The bytes due in reply to these payloads, one after the other.
  abbrev pub RespondsFrom : Due → List Payload → List ℕ → Type 0
  RespondsFrom due [] o = o ≡ []
  RespondsFrom due (p ∷ ps) o = (y : List ℕ) × (z : List ℕ) × (o ≡ y ++ z) × Responds due p y × RespondsFrom (next_due due p) ps z

  -- The bytes due in reply to the payloads of a conversation.
  abbrev pub Sent : List Payload → List ℕ → Type 0
  Sent ps o = RespondsFrom Hello ps o

-- The payloads that have been taken from a connection that is read up to this offset.
pub record Taken (limit : ℕ) (names : Names) (b : List ℕ) (at : ℕ) (payloads : List Payload) : Type 0 where
  pub reading : Reading limit names b
  pub payloads_are : payloads ≡ reading.payloads
  pub at_is : (at ≡ length reading.front) ⊎ EndsLog (rest_of reading) at

-- The bytes are those that a replica with these settings must send in reply to the payloads that the connection has
-- taken.
pub record SentFor (settings : Settings) (names : Names) (executed : Ids) (b : List ℕ) (at : ℕ) (o : List ℕ) : Type 0 where
  pub payloads : List Payload
  pub taken : Taken settings.limit names b at payloads
  pub sent : Sent settings executed payloads o
