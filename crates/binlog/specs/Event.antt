-- Events, and the faults of bytes that are not events. MySQL Source Documentation, Binlog Event:
-- binary_log::Log_event_type and the classes of the supported events.
use Rattle.std.specs.Prelude.{◌≡◌, ℕ, ◌+◌, Bool, true, false, ◌&&◌, not, List, [], ◌∷◌, ◌==◌, slice_index, nat_le, if◌then◌else◌, Option, None, ◌⊎◌}
use Rattle.std.specs.List.{list_any}
use Rattle.binlog.specs.EventType as event_type
use Rattle.binlog.specs.Fault.{refuse, first_of}
use Rattle.binlog.specs.Header.{ignorable_flag, IsFramed, header_fault}
use Rattle.binlog.specs.Body.{IsFormat, IsRotate, IsXid, IsGtidBody, IsQuery, statement, format_fault, rotate_fault, xid_fault, gtid_fault, query_fault}
use Rattle.binlog.specs.Table.{TableValue, IsNamed, IsTableMap, names_fault, columns_fault, named_schema, named_table, terminator_place}
use Rattle.binlog.specs.Rows.{RowsValue, IsRows, rows_code, rows_fault}
use Rattle.binlog.specs.Filter.{Names, is_read}
use Rattle.binlog.specs.declared.body.query.Query.TheVariants.{Begin, Commit}
use Rattle.binlog.specs.declared.body.rows_event.RowsKind.TheVariants.{Write, Update, Delete}
use Rattle.binlog.specs.declared.fault.EventFault.{EventFault}
use Rattle.binlog.specs.declared.fault.EventFaultKind.TheVariants.{TypeCode, Anonymous}

-- what an event says
pub data EventValue : Type 0 where
  format : EventValue
  begin : EventValue
  commit : EventValue
  neutral : EventValue
  stop : EventValue
  rotate : ℕ → List ℕ → EventValue
  gtid : List ℕ → ℕ → EventValue
  table_map : TableValue → EventValue
  other_map : ℕ → EventValue
  rows : RowsValue → EventValue
  xid : ℕ → EventValue

-- ---- Types.

abbrev pub is_one_of : List ℕ → ℕ → Bool
is_one_of codes code = list_any (λ c. code == c) codes

-- those that are ignored: HEARTBEAT, IGNORABLE, ROWS_QUERY, PREVIOUS_GTIDS
abbrev pub neutral_codes : List ℕ
neutral_codes = event_type.heartbeat ∷ event_type.ignorable ∷ event_type.rows_query ∷ event_type.previous_gtids ∷ []

-- those that are refused, whatever their flags: XA_PREPARE, PARTIAL_UPDATE_ROWS, TRANSACTION_PAYLOAD
abbrev pub refused_codes : List ℕ
refused_codes = event_type.xa_prepare ∷ event_type.partial_update_rows ∷ event_type.transaction_payload ∷ []

-- those that are read, ignored or refused, whatever their flags
abbrev pub known_codes : List ℕ
known_codes =
    event_type.query ∷ event_type.stop ∷ event_type.rotate ∷ event_type.format_description ∷ event_type.xid
    ∷ event_type.table_map ∷ event_type.heartbeat ∷ event_type.ignorable ∷ event_type.rows_query ∷ event_type.write_rows
    ∷ event_type.update_rows ∷ event_type.delete_rows ∷ event_type.gtid ∷ event_type.anonymous_gtid
    ∷ event_type.previous_gtids ∷ event_type.xa_prepare ∷ event_type.partial_update_rows
    ∷ event_type.transaction_payload ∷ []

-- An event that is ignored is of such a type, or of an unknown type and has the flag LOG_EVENT_IGNORABLE_F.
abbrev pub IsNeutral : ℕ → Bool → Type 0
IsNeutral code may_ignore = (is_one_of neutral_codes code ≡ true) ⊎ ((is_one_of known_codes code ≡ false) × (may_ignore ≡ true))

-- ---- Events, for a reader that follows these tables.

-- A table map of another table, of which only its number and its names are read.
pub record IsOtherMap (names : Names) (id : ℕ) (body : List ℕ) : Type 0 where
  pub schema : List ℕ
  pub table : List ℕ
  pub rest : List ℕ
  pub named : IsNamed id schema table rest body
  pub other : is_read names schema table ≡ false

-- The type and the body are those of the event.
abbrev pub HasBody : Names → EventValue → ℕ → Bool → List ℕ → Type 0
HasBody names format code may_ignore body = (code ≡ event_type.format_description) × IsFormat body
HasBody names begin code may_ignore body = (code ≡ event_type.query) × IsQuery (statement Begin) body
HasBody names commit code may_ignore body = (code ≡ event_type.query) × IsQuery (statement Commit) body
HasBody names neutral code may_ignore body = IsNeutral code may_ignore
HasBody names stop code may_ignore body = code ≡ event_type.stop
HasBody names (rotate position name) code may_ignore body = (code ≡ event_type.rotate) × IsRotate position name body
HasBody names (gtid source number) code may_ignore body = (code ≡ event_type.gtid) × IsGtidBody source number body
HasBody names (table_map t) code may_ignore body = (code ≡ event_type.table_map) × IsTableMap t body × (is_read names t.schema t.table ≡ true)
HasBody names (other_map id) code may_ignore body = (code ≡ event_type.table_map) × IsOtherMap names id body
HasBody names (rows r) code may_ignore body = (code ≡ rows_code r.kind) × IsRows r body
HasBody names (xid number) code may_ignore body = (code ≡ event_type.xid) × IsXid number body

-- The bytes are the event: a header whose size is their length, and the event's body.
pub record IsEvent (names : Names) (e : EventValue) (bytes : List ℕ) : Type 0 where
  pub code : ℕ
  pub may_ignore : Bool
  pub body : List ℕ
  pub framed : IsFramed code may_ignore body bytes
  pub has_body : HasBody names e code may_ignore body

-- some event
pub record HasEvent (names : Names) (bytes : List ℕ) : Type 0 where
  pub event : EventValue
  pub is_event : IsEvent names event bytes

-- ---- The faults, in order: of the header, of the type, of the body.

-- the type, at 4, and the flag LOG_EVENT_IGNORABLE_F, at 17
abbrev pub code_of : List ℕ → ℕ
code_of bytes = slice_index bytes 4

abbrev pub may_ignore_of : List ℕ → Bool
may_ignore_of bytes = nat_le ignorable_flag (slice_index bytes 17)

abbrev pub type_fault : ℕ → Bool → Option EventFault
type_fault code may_ignore = first_of (
    refuse (code == event_type.anonymous_gtid) Anonymous 4
    ∷ refuse (is_one_of refused_codes code) (TypeCode code) 4
    ∷ refuse (not (is_one_of known_codes code) && not may_ignore) (TypeCode code) 4
    ∷ [])

-- a table map: the names, and the columns of a table that is followed
unfoldable pub table_map_fault : Names → List ℕ → Option EventFault
table_map_fault names bytes = first_of (
    names_fault bytes
    ∷ (if is_read names (named_schema bytes) (named_table bytes) then columns_fault bytes (terminator_place bytes + 1) else None)
    ∷ [])

-- the body of this type
unfoldable pub body_fault : Names → ℕ → List ℕ → Option EventFault
body_fault names code bytes =
    if code == event_type.query then query_fault bytes
    else if code == event_type.rotate then rotate_fault bytes
    else if code == event_type.format_description then format_fault bytes
    else if code == event_type.xid then xid_fault bytes
    else if code == event_type.table_map then table_map_fault names bytes
    else if code == event_type.write_rows then rows_fault Write bytes
    else if code == event_type.update_rows then rows_fault Update bytes
    else if code == event_type.delete_rows then rows_fault Delete bytes
    else if code == event_type.gtid then gtid_fault bytes
    else None

unfoldable pub event_fault : Names → List ℕ → Option EventFault
event_fault names bytes = first_of (header_fault bytes ∷ type_fault (code_of bytes) (may_ignore_of bytes) ∷ body_fault names (code_of bytes) bytes ∷ [])
