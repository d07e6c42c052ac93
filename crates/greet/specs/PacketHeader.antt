-- The first bytes of payloads, by which a message is known. MySQL Source Documentation, Client/Server Protocol:
-- Protocol::HandshakeV10, OK_Packet, EOF_Packet, ERR_Packet, Protocol::AuthSwitchRequest, COM_QUERY; Replication Protocol:
-- COM_BINLOG_DUMP_GTID, and the binary log's network stream, where an event stands after the byte of an OK.
use Rattle.std.specs.Prelude.{ℕ}

-- the version of the protocol, with which a greeting begins
abbrev pub handshake_v10 : ℕ
handshake_v10 = 10

abbrev pub ok : ℕ
ok = 0x00

abbrev pub eof : ℕ
eof = 0xFE

abbrev pub auth_switch : ℕ
auth_switch = 0xFE

abbrev pub err : ℕ
err = 0xFF

abbrev pub com_query : ℕ
com_query = 0x03

abbrev pub com_binlog_dump_gtid : ℕ
com_binlog_dump_gtid = 0x1E
