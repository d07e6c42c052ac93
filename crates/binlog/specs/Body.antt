-- The bodies of events other than table maps and rows. MySQL Source Documentation, Binlog Event: the classes
-- Format_description_event, Rotate_event, Xid_event, Gtid_event and Query_event.
use Rattle.std.specs.Prelude.{◌≡◌, ℕ, ◌+◌, ◌-◌, ◌<◌, ◌≤◌, ◌^◌, Bool, ◌&&◌, ◌||◌, not, List, [], ◌∷◌, ◌++◌, length, drop, map, slice_index, codes, ◌==◌, nat_lt, nat_le, Option}
use Rattle.std.specs.Str.{bytes_eq}
use Rattle.byteorder.specs.Endian.{little_bytes}
use Rattle.binlog.specs.Header.{header_length}
use Rattle.binlog.specs.EventType as event_type
use Rattle.binlog.specs.Fault.{refuse, needs, first_of, number_at}
use Rattle.binlog.specs.declared.body.query.Query.{Query}
use Rattle.binlog.specs.declared.body.query.Query.TheVariants.{Begin, Commit}
use Rattle.binlog.specs.declared.fault.EventFault.{EventFault}
use Rattle.binlog.specs.declared.fault.EventFaultKind.TheVariants.{FormatVersion, Checksum, HeaderLengths, Statement, Number, Trailing}

-- ---- The layouts.

-- A format description: version 4, headers of 19 bytes, a post-header length for each type from 1 on, the expected ones
-- for the supported types, and no checksums. The server's version, the time and the last 4 bytes are left free.
pub record IsFormat (body : List ℕ) : Type 0 where
  pub server_version : List ℕ
  pub time : List ℕ
  pub lengths : List ℕ
  pub unread : List ℕ
  pub body_is : body ≡ little_bytes 2 4 ++ server_version ++ time ++ header_length ∷ lengths ++ 0 ∷ unread
  pub sizes : (length server_version ≡ 50) × (length time ≡ 4) × (length unread ≡ 4) × (35 ≤ length lengths)
  pub query : slice_index lengths (event_type.query - 1) ≡ 13
  pub rotate : slice_index lengths (event_type.rotate - 1) ≡ 8
  pub table_map : slice_index lengths (event_type.table_map - 1) ≡ 8
  pub rows : (slice_index lengths (event_type.write_rows - 1) ≡ 10) × (slice_index lengths (event_type.update_rows - 1) ≡ 10) × (slice_index lengths (event_type.delete_rows - 1) ≡ 10)

-- A rotation: the position in the next file, and the file's name.
abbrev pub IsRotate : ℕ → List ℕ → List ℕ → Type 0
IsRotate position name body = (position < 2 ^ 64) × (body ≡ little_bytes 8 position ++ name)

-- The end of a transaction.
abbrev pub IsXid : ℕ → List ℕ → Type 0
IsXid number body = (number < 2 ^ 64) × (body ≡ little_bytes 8 number)

-- The GTID of a transaction: flags, 16 bytes of source and a number in range. What follows is ignored.
pub record IsGtidBody (source : List ℕ) (number : ℕ) (body : List ℕ) : Type 0 where
  pub flags : ℕ
  pub ignored : List ℕ
  pub body_is : body ≡ flags ∷ source ++ little_bytes 8 number ++ ignored
  pub source_length : length source ≡ 16
  pub in_range : (1 ≤ number) × (number ≤ 2 ^ 63 - 2)

-- A query with this text, and any thread, time, error, status, schema and terminator.
pub record IsQuery (text body : List ℕ) : Type 0 where
  pub thread : List ℕ
  pub time : List ℕ
  pub error : List ℕ
  pub status : List ℕ
  pub schema : List ℕ
  pub terminator : ℕ
  pub body_is : body ≡ thread ++ time ++ length schema ∷ error ++ little_bytes 2 (length status) ++ status ++ schema ++ terminator ∷ text
  pub sizes : (length thread ≡ 4) × (length time ≡ 4) × (length error ≡ 2) × (length status < 2 ^ 16) × (length schema < 256)

-- the supported texts
abbrev pub statement : Query → List ℕ
statement Begin = codes "BEGIN"
statement Commit = codes "COMMIT"

-- ---- The faults, in order, of the whole event, whose body begins at 19.

-- the supported types, with the lengths of their post-headers
abbrev pub read_lengths : List (ℕ × ℕ)
read_lengths =
    (event_type.query, 13) ∷ (event_type.rotate, 8) ∷ (event_type.table_map, 8) ∷ (event_type.write_rows, 10)
    ∷ (event_type.update_rows, 10) ∷ (event_type.delete_rows, 10) ∷ []

-- a type's length, at 75 + type
abbrev pub length_refusal : List ℕ → ℕ × ℕ → Option EventFault
length_refusal bytes line = refuse (not (slice_index bytes (75 + line.0) == line.1)) HeaderLengths (75 + line.0)

abbrev pub length_refusals : List ℕ → List (ℕ × ℕ) → List (Option EventFault)
length_refusals bytes lines = map (length_refusal bytes) lines

unfoldable pub format_fault : List ℕ → Option EventFault
format_fault bytes =
    let algorithm = length bytes - 5 in
    first_of (
    needs bytes 19 2 ∷ needs bytes 21 50 ∷ needs bytes 71 4 ∷ needs bytes 75 1 ∷ needs bytes 76 1 ∷ needs bytes 77 4
    ∷ refuse (not (number_at 2 bytes 19 == 4)) FormatVersion 19
    ∷ refuse (not (slice_index bytes 75 == header_length)) HeaderLengths 75
    ∷ refuse (nat_lt (length bytes) (81 + 35)) HeaderLengths 76
    ∷ length_refusals bytes read_lengths
    ++ refuse (not (slice_index bytes algorithm == 0)) (Checksum (slice_index bytes algorithm)) algorithm
    ∷ [])

unfoldable pub rotate_fault : List ℕ → Option EventFault
rotate_fault bytes = needs bytes 19 8

unfoldable pub xid_fault : List ℕ → Option EventFault
xid_fault bytes = first_of (needs bytes 19 8 ∷ refuse (nat_lt 27 (length bytes)) Trailing 27 ∷ [])

unfoldable pub gtid_fault : List ℕ → Option EventFault
gtid_fault bytes =
    let number = number_at 8 bytes 36 in
    first_of (
    needs bytes 19 1 ∷ needs bytes 20 16 ∷ needs bytes 36 8
    ∷ refuse (not (nat_le 1 number && nat_le number (2 ^ 63 - 2))) Number 36
    ∷ [])

abbrev pub is_statement : List ℕ → Bool
is_statement text = bytes_eq text (codes "BEGIN") || bytes_eq text (codes "COMMIT")

-- where the text begins: after the status, the schema and the terminator
abbrev pub text_place : List ℕ → ℕ
text_place bytes = 32 + number_at 2 bytes 30 + slice_index bytes 27 + 1

unfoldable pub query_fault : List ℕ → Option EventFault
query_fault bytes =
    let status_size = number_at 2 bytes 30 in
    let schema_size = slice_index bytes 27 in
    let schema = 32 + status_size in
    let terminator = schema + schema_size in
    first_of (
    needs bytes 19 4 ∷ needs bytes 23 4 ∷ needs bytes 27 1 ∷ needs bytes 28 2 ∷ needs bytes 30 2
    ∷ needs bytes 32 status_size ∷ needs bytes schema schema_size ∷ needs bytes terminator 1
    ∷ refuse (not (is_statement (drop (text_place bytes) bytes))) Statement (text_place bytes)
    ∷ [])
