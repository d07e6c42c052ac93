-- The first event that makes a list of events unlawful, and its fault.
use Rattle.std.specs.Prelude.{◌≡◌, ℕ, ◌+◌, ◌<◌, ◌⊎◌, Bool, true, false, not, List, [], ◌∷◌, ◌++◌, length, fold, Option, Some, None, if◌then◌else◌, ◌≢◌}
use Rattle.std.specs.List.{AllByRecursion, list_any}
use Rattle.binlog.specs.EventType as event_type
use Rattle.binlog.specs.Filter.{Names}
use Rattle.binlog.specs.Table.{TableValue}
use Rattle.binlog.specs.Rows.{RowsValue, PairValue, IsPair, EndsEarly, rows_code}
use Rattle.binlog.specs.Event.{EventValue, format, begin, commit, gtid, table_map, other_map, rows, xid, IsEvent}
use Rattle.binlog.specs.declared.column.kind.ColumnKind.{ColumnKind}
use Rattle.binlog.specs.declared.fault.EventFaultKind.TheVariants.{Columns, Truncated}
use Rattle.binlog.specs.declared.body.rows_event.RowsKind.{RowsKind}
use Rattle.gather.specs.Transaction.{is_neutral, is_mark, is_end, map_of}
use Rattle.gather.specs.declared.fault.GatherFault.{GatherFault}
use Rattle.gather.specs.declared.fault.GatherFault.TheVariants.{NoFormat, Misplaced, UnknownTable, Event}

-- ---- What came before.

abbrev pub is_format : EventValue → Bool
is_format format = true
is_format _ = false

abbrev pub is_gtid : EventValue → Bool
is_gtid (gtid source number) = true
is_gtid _ = false

-- whether a format description has come
abbrev pub has_format : List EventValue → Bool
has_format events = list_any is_format events

-- a block with the next event, which continues it or begins another one
abbrev pub add_event : List EventValue → EventValue → List EventValue
add_event block e = if is_neutral e then block else if is_mark e then e ∷ [] else if is_gtid e then e ∷ [] else block ++ e ∷ []

-- the last block: what came since the last GTID, format description, rotation or stop, without neutral events
abbrev pub last_block : List EventValue → List EventValue
last_block events = fold add_event [] events

-- the block is a GTID
abbrev pub is_announced : List EventValue → Bool
is_announced (gtid source number ∷ []) = true
is_announced _ = false

-- the block has begun and not ended
abbrev pub is_open : List EventValue → Bool
is_open (gtid source number ∷ begin ∷ body) = not (list_any is_end body)
is_open _ = false

-- ---- Places.

-- events of transactions, which must come after a format description
abbrev pub is_of_transaction : EventValue → Bool
is_of_transaction (gtid source number) = true
is_of_transaction begin = true
is_of_transaction commit = true
is_of_transaction (table_map t) = true
is_of_transaction (other_map id) = true
is_of_transaction (rows r) = true
is_of_transaction (xid number) = true
is_of_transaction _ = false

-- whether an event may follow the block: BEGIN after the GTID; table maps, rows events and the end after BEGIN
abbrev pub is_in_place : List EventValue → EventValue → Bool
is_in_place block begin = is_announced block
is_in_place block commit = is_open block
is_in_place block (table_map t) = is_open block
is_in_place block (other_map id) = is_open block
is_in_place block (rows r) = is_open block
is_in_place block (xid number) = is_open block
is_in_place block _ = true

-- the type of an event that may be misplaced
abbrev pub type_of : EventValue → ℕ
type_of begin = event_type.query
type_of commit = event_type.query
type_of (xid number) = event_type.xid
type_of (table_map t) = event_type.table_map
type_of (other_map id) = event_type.table_map
type_of (rows r) = rows_code r.kind
type_of _ = 0

-- the events of a transaction of which something is kept: its table maps and its rows events
abbrev pub is_kept : EventValue → Bool
is_kept (table_map t) = true
is_kept (other_map id) = true
is_kept (rows r) = true
is_kept _ = false

-- The bytes begin with a pair of rows.
pub record HasFirstPair (kind : RowsKind) (types : List ColumnKind) (bytes : List ℕ) : Type 0 where
  pub pair : PairValue
  pub first : List ℕ
  pub rest : List ℕ
  pub bytes_are : bytes ≡ first ++ rest
  pub is_pair : IsPair kind types pair first

-- The rows event has a change, from what is known of its table's number: the table is followed and has as many columns
-- as the event, whose bytes begin with a pair of rows.
abbrev pub HasChange : Option (Option TableValue) → RowsValue → Type 0
HasChange (Some (Some t)) r = (length t.columns ≡ r.columns) × HasFirstPair r.kind t.columns r.bytes
HasChange _ r = ⊥

-- The event adds to what is kept of the block: a table map of a table that is followed; one of another table, whose
-- number is new in the block; or a rows event that has a change.
abbrev pub AddsTo : List EventValue → EventValue → Type 0
AddsTo block (table_map t) = Unit {0}
AddsTo block (other_map id) = map_of block id ≡ None
AddsTo block (rows r) = HasChange (map_of block r.id) r
AddsTo block _ = ⊥

-- After these events something is kept of the next one, which is in place.
pub record IsKept (events : List EventValue) (e : EventValue) : Type 0 where
  pub kept : is_kept e ≡ true
  pub formatted : has_format events ≡ true
  pub in_place : is_in_place (last_block events) e ≡ true
  pub adds : AddsTo (last_block events) e

-- ---- Faults.

-- What is wrong with a rows event, from what is known of its table's number: nothing; otherwise the event has another
-- number of columns than the table; otherwise its rows end early. If the table is not followed, nothing is checked.
abbrev pub IsRowsFault : Option (Option TableValue) → RowsValue → GatherFault → Type 0
IsRowsFault None r fault = fault ≡ UnknownTable r.id
IsRowsFault (Some None) r fault = ⊥
IsRowsFault (Some (Some t)) r fault =
    ((length t.columns ≢ r.columns) × (fault ≡ Event (record { kind = Columns; at = r.columns_at })))
    ⊎ ((length t.columns ≡ r.columns) × (pairs : List PairValue) × (place : ℕ) × EndsEarly r.kind t.columns pairs r.bytes place
    × (fault ≡ Event (record { kind = Truncated; at = r.bytes_at + place })))

-- After these events the next one has this fault.
pub data IsFault (events : List EventValue) (e : EventValue) (fault : GatherFault) : Type 0 where
  -- it belongs to a transaction, and no format description has come
  no_format : is_of_transaction e ≡ true → has_format events ≡ false → fault ≡ NoFormat → IsFault events e fault
  -- otherwise: it is out of place
  misplaced : has_format events ≡ true → is_in_place (last_block events) e ≡ false → fault ≡ Misplaced (type_of e) → IsFault events e fault
  -- otherwise: its rows cannot be read
  unread : (r : RowsValue) → e ≡ rows r → has_format events ≡ true → is_open (last_block events) ≡ true → IsRowsFault (map_of (last_block events) r.id) r fault → IsFault events e fault

-- some fault
pub record HasFault (events : List EventValue) (e : EventValue) : Type 0 where
  pub fault : GatherFault
  pub is_fault : IsFault events e fault

-- ---- Events that are read.

-- The event is that of some bytes, whichever tables are followed.
pub record IsFromBytes (e : EventValue) : Type 0 where
  pub names : Names
  pub bytes : List ℕ
  pub fits : AllByRecursion (λ b. b < 256) bytes
  pub is_event : IsEvent names e bytes
