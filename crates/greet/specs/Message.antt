-- The messages of the connection phase and the commands of a replica. MySQL Source Documentation, Client/Server
-- Protocol: Protocol::HandshakeV10, Protocol::HandshakeResponse41, Protocol::AuthSwitchRequest, OK_Packet, ERR_Packet,
-- EOF_Packet, COM_QUERY; Replication Protocol: COM_BINLOG_DUMP_GTID.
use Rattle.std.specs.Prelude.{◌≡◌, ◌≢◌, ℕ, ◌+◌, ◌-◌, ◌*◌, ◌/◌, ◌<◌, ◌^◌, ◌⊎◌, max, List, [], ◌∷◌, ◌++◌, length, take, drop, replicate, codes, Option, Some, None, bit_and}
use Rattle.std.specs.List.{AllByRecursion}
use Rattle.byteorder.specs.Endian.{little_bytes}
use Rattle.wire.specs.Integer.{IsLengthEncoded}
use Rattle.greet.specs.PacketHeader as packet_header

-- the authentication plugin
abbrev pub plugin_name : List ℕ
plugin_name = codes "mysql_native_password"

-- a text without a zero byte, such as one that a zero byte ends
abbrev pub IsText : List ℕ → Type 0
IsText text = AllByRecursion (λ c. c ≢ 0) text

-- ---- The greeting.

-- Capability flags. MySQL Source Documentation, Client/Server Protocol, "Capabilities Flags".
abbrev pub client_long_password : ℕ
client_long_password = 0x1

abbrev pub client_long_flag : ℕ
client_long_flag = 0x4

abbrev pub client_protocol_41 : ℕ
client_protocol_41 = 0x200

abbrev pub client_transactions : ℕ
client_transactions = 0x2000

abbrev pub client_secure_connection : ℕ
client_secure_connection = 0x8000

abbrev pub client_plugin_auth : ℕ
client_plugin_auth = 0x80000

-- the capability flags that a source must have
abbrev pub needed : ℕ
needed = client_protocol_41 + client_secure_connection + client_plugin_auth

pub record GreetingValue : Type 0 where
  pub version : List ℕ
  pub thread : ℕ
  pub scramble : List ℕ
  pub capabilities : ℕ
  pub charset : ℕ
  pub status : ℕ

-- A greeting with the needed capability flags. The filler, the reserved bytes and everything after the second part of
-- the scramble are left free.
pub record IsGreeting (g : GreetingValue) (payload : List ℕ) : Type 0 where
  pub first : List ℕ
  pub filler : ℕ
  pub low : ℕ
  pub high : ℕ
  pub size : ℕ
  pub reserved : List ℕ
  pub second : List ℕ
  pub ignored : List ℕ
  pub payload_is : payload ≡ packet_header.handshake_v10 ∷ g.version ++ 0 ∷ little_bytes 4 g.thread ++ first ++ filler ∷ little_bytes 2 low ++ g.charset ∷ little_bytes 2 g.status
      ++ little_bytes 2 high ++ size ∷ reserved ++ second ++ ignored
  pub sizes : (length first ≡ 8) × (length reserved ≡ 10) × (length second ≡ max 13 (size - 8))
  pub ranges : (g.thread < 2 ^ 32) × (low < 2 ^ 16) × (high < 2 ^ 16) × (g.status < 2 ^ 16)
  pub a_version : IsText g.version
  pub scramble : g.scramble ≡ first ++ take 12 second
  pub capabilities : g.capabilities ≡ low + 2 ^ 16 * high
  pub has_needed : bit_and g.capabilities needed ≡ needed

-- The greeting as it is written: the filler and the reserved bytes are zero, the second part of the scramble ends in a
-- zero byte, and the plugin's name and its zero byte follow.
abbrev pub greeting_bytes : GreetingValue → List ℕ
greeting_bytes g = packet_header.handshake_v10 ∷ g.version ++ 0 ∷ little_bytes 4 g.thread ++ take 8 g.scramble ++ 0 ∷ little_bytes 2 g.capabilities ++ g.charset ∷ little_bytes 2 g.status
    ++ little_bytes 2 (g.capabilities / 2 ^ 16) ++ 21 ∷ replicate 10 0 ++ drop 8 g.scramble ++ 0 ∷ plugin_name ++ 0 ∷ []

-- What can be written: the version has no zero byte, and the needed capability flags are set.
abbrev pub FitsGreeting : GreetingValue → Type 0
FitsGreeting g = IsText g.version × (bit_and g.capabilities needed ≡ needed)

-- ---- The response.

-- the capability flags of a replica
abbrev pub replica_capabilities : ℕ
replica_capabilities = client_long_password + client_long_flag + client_transactions + needed

-- the number of a character set
abbrev pub utf8mb3 : ℕ
utf8mb3 = 33

-- the leading bytes of a response: capability flags, the largest packet, the character set and 23 zero bytes
abbrev pub response_lead : List ℕ
response_lead = little_bytes 4 replica_capabilities ++ little_bytes 4 (2 ^ 24) ++ utf8mb3 ∷ replicate 23 0

pub record ResponseValue : Type 0 where
  pub user : List ℕ
  pub auth : List ℕ

abbrev pub response : ResponseValue → List ℕ
response r = response_lead ++ r.user ++ 0 ∷ length r.auth ∷ r.auth ++ plugin_name ++ 0 ∷ []

-- What can be written: the user name has no zero byte, and the length of the answer fits one byte.
abbrev pub FitsResponse : ResponseValue → Type 0
FitsResponse r = IsText r.user × (length r.auth < 256)

pub record IsResponse (r : ResponseValue) (payload : List ℕ) : Type 0 where
  pub payload_is : payload ≡ response r
  pub fits : FitsResponse r

-- ---- The source's replies.

-- A request to switch to native authentication with this scramble: the first 20 bytes of the data.
pub record IsSwitch (scramble payload : List ℕ) : Type 0 where
  pub ignored : List ℕ
  pub payload_is : payload ≡ packet_header.auth_switch ∷ plugin_name ++ 0 ∷ scramble ++ ignored
  pub size : length scramble ≡ 20

-- An OK: the affected rows, the last insert id, status and warnings. The rest is ignored.
pub record IsOkPacket (payload : List ℕ) : Type 0 where
  pub affected_rows : ℕ
  pub insert_id : ℕ
  pub affected_bytes : List ℕ
  pub insert_bytes : List ℕ
  pub counters : List ℕ
  pub ignored : List ℕ
  pub payload_is : payload ≡ packet_header.ok ∷ affected_bytes ++ insert_bytes ++ counters ++ ignored
  pub affected : IsLengthEncoded affected_rows affected_bytes
  pub inserted : IsLengthEncoded insert_id insert_bytes
  pub size : length counters ≡ 4

-- An EOF: warnings and status, in fewer than nine bytes. The rest is ignored.
pub record IsEofPacket (payload : List ℕ) : Type 0 where
  pub counters : List ℕ
  pub ignored : List ℕ
  pub payload_is : payload ≡ packet_header.eof ∷ counters ++ ignored
  pub size : length counters ≡ 4
  pub short : length payload < 9

-- `#`, five bytes of state and the message; or the message alone, if there is no `#` or there are fewer than six bytes
abbrev pub IsErrorText : Option (List ℕ) → List ℕ → List ℕ → Type 0
IsErrorText (Some state) message text = (length state ≡ 5) × (text ≡ 0x23 ∷ state ++ message)
IsErrorText None message text = (text ≡ message) × ((length text < 6) ⊎ (take 1 text ≢ 0x23 ∷ []))

-- An ERR with its code, the SQL state, if it has one, and its whole message.
pub record IsErrPacket (code : ℕ) (state : Option (List ℕ)) (message payload : List ℕ) : Type 0 where
  pub text : List ℕ
  pub payload_is : payload ≡ packet_header.err ∷ little_bytes 2 code ++ text
  pub a_code : code < 2 ^ 16
  pub text_is : IsErrorText state message text

-- ---- The commands.

-- COM_QUERY with this text
abbrev pub query_bytes : List ℕ → List ℕ
query_bytes text = packet_header.com_query ∷ text

-- the query after which a source sends events without checksums
abbrev pub checksum_query : List ℕ
checksum_query = query_bytes (codes "SET @master_binlog_checksum='NONE'")

pub record DumpValue : Type 0 where
  pub flags : ℕ
  pub server_id : ℕ
  pub set : List ℕ

-- COM_BINLOG_DUMP_GTID with a file name and a position
abbrev pub dump_bytes : DumpValue → List ℕ → List ℕ → List ℕ
dump_bytes d name position = packet_header.com_binlog_dump_gtid ∷ little_bytes 2 d.flags ++ little_bytes 4 d.server_id ++ little_bytes 4 (length name) ++ name ++ position
    ++ little_bytes 4 (length d.set) ++ d.set

-- What can be written: the length of the set's bytes fits four bytes.
abbrev pub FitsDump : DumpValue → Type 0
FitsDump d = length d.set < 2 ^ 32

-- The dump command of these flags, server id and set, whatever its name and position.
pub record IsDump (d : DumpValue) (payload : List ℕ) : Type 0 where
  pub name : List ℕ
  pub position : List ℕ
  pub payload_is : payload ≡ dump_bytes d name position
  pub sizes : (length name < 2 ^ 32) × (length position ≡ 8)
  pub ranges : (d.flags < 2 ^ 16) × (d.server_id < 2 ^ 32)
  pub fits : FitsDump d
