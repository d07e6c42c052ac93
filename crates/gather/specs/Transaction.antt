-- Transactions in a list of events. MySQL Source Documentation, Binlog Event: binary_log::Gtid_event, Query_event (BEGIN
-- and COMMIT), Table_map_event, Rows_event and Xid_event.
use Rattle.std.specs.Prelude.{◌≡◌, ℕ, ◌⊎◌, Bool, true, false, ◌==◌, not, List, [], ◌∷◌, ◌++◌, length, map, filter, flat_map, if◌then◌else◌, Option, Some, None}
use Rattle.std.specs.Option.{option_or}
use Rattle.binlog.specs.Cell.{CellValue}
use Rattle.binlog.specs.Table.{TableValue}
use Rattle.binlog.specs.Rows.{RowsValue, PairValue, inserted, deleted, updated, AreRows}
use Rattle.binlog.specs.Event.{EventValue, format, begin, commit, neutral, stop, rotate, gtid, table_map, other_map, rows, xid}

-- what a transaction does to one row of a schema's table
pub data ChangeValue : Type 0 where
  insert : List ℕ → List ℕ → List CellValue → ChangeValue
  delete : List ℕ → List ℕ → List CellValue → ChangeValue
  update : List ℕ → List ℕ → List CellValue → List CellValue → ChangeValue

-- the names of the schema and of the table
abbrev pub changed_schema : ChangeValue → List ℕ
changed_schema (insert schema table after) = schema
changed_schema (delete schema table before) = schema
changed_schema (update schema table before after) = schema

abbrev pub changed_table : ChangeValue → List ℕ
changed_table (insert schema table after) = table
changed_table (delete schema table before) = table
changed_table (update schema table before after) = table

-- a transaction: its source and number, and its changes in order
pub record DeliveryValue : Type 0 where
  pub source : List ℕ
  pub number : ℕ
  pub changes : List ChangeValue

-- ---- Kinds of events.

-- those that are ignored
abbrev pub is_neutral : EventValue → Bool
is_neutral neutral = true
is_neutral _ = false

-- those that are blocks of their own: format descriptions, rotations and stops
abbrev pub is_mark : EventValue → Bool
is_mark format = true
is_mark (rotate position name) = true
is_mark stop = true
is_mark _ = false

-- those that end a transaction
abbrev pub is_end : EventValue → Bool
is_end (xid number) = true
is_end commit = true
is_end _ = false

-- ---- Changes.

-- what an event says of a table's number, if it is a table map with it: the table, or (None) that it is not followed
abbrev pub said_of : ℕ → EventValue → Option (Option TableValue)
said_of id (table_map t) = if t.id == id then Some (Some t) else None
said_of id (other_map other) = if other == id then Some None else None
said_of id _ = None

-- what the last table map of a number says
abbrev pub map_of : List EventValue → ℕ → Option (Option TableValue)
map_of [] id = None
map_of (e ∷ events) id = option_or (map_of events id) (said_of id e)

abbrev pub change_of : TableValue → PairValue → ChangeValue
change_of t (inserted cells) = insert t.schema t.table cells
change_of t (deleted cells) = delete t.schema t.table cells
change_of t (updated before after) = update t.schema t.table before after

-- The rows event is one of the table: it has as many columns, and its bytes are the rows of the pairs.
pub record IsReadBy (t : TableValue) (r : RowsValue) (pairs : List PairValue) : Type 0 where
  pub columns : length t.columns ≡ r.columns
  pub rows_are : AreRows r.kind t.columns pairs r.bytes

-- The changes of a rows event: those of its rows, or none if its table is not followed.
abbrev pub AreRowChanges : Option TableValue → RowsValue → List ChangeValue → Type 0
AreRowChanges None r changes = changes ≡ []
AreRowChanges (Some t) r changes = (pairs : List PairValue) × IsReadBy t r pairs × (changes ≡ map (change_of t) pairs)

-- The changes of a table map, which has none, or of a rows event, by the last table map with its number before it.
abbrev pub AreChangesOf : List EventValue → EventValue → List ChangeValue → Type 0
AreChangesOf before (table_map t) changes = changes ≡ []
AreChangesOf before (other_map id) changes = changes ≡ []
AreChangesOf before (rows r) changes = (said : Option TableValue) × (map_of before r.id ≡ Some said) × AreRowChanges said r changes
AreChangesOf before _ changes = ⊥

-- The changes of table maps and rows events in order, after those before them in their transaction.
abbrev pub AreChanges : List EventValue → List EventValue → List ChangeValue → Type 0
AreChanges before [] changes = changes ≡ []
AreChanges before (e ∷ events) changes =
    (first : List ChangeValue) × (others : List ChangeValue) × AreChangesOf before e first × (changes ≡ first ++ others) × AreChanges (before ++ e ∷ []) events others

-- ---- Blocks: what comes from a GTID, a format description, a rotation or a stop up to the next of these.

-- The block is one format description, rotation or stop.
pub record IsMark (block : List EventValue) : Type 0 where
  pub event : EventValue
  pub marks : is_mark event ≡ true
  pub block_is : block ≡ event ∷ []

-- The block is a GTID.
pub record IsAnnounced (block : List EventValue) : Type 0 where
  pub source : List ℕ
  pub number : ℕ
  pub block_is : block ≡ gtid source number ∷ []

-- The block is GTID, BEGIN, and table maps and rows events so far.
pub record IsOpen (block : List EventValue) : Type 0 where
  pub source : List ℕ
  pub number : ℕ
  pub body : List EventValue
  pub changes : List ChangeValue
  pub block_is : block ≡ gtid source number ∷ begin ∷ body
  pub are_changes : AreChanges [] body changes

-- The block is a whole transaction: GTID, BEGIN, table maps and rows events, XID or COMMIT.
pub record IsWhole (block : List EventValue) (d : DeliveryValue) : Type 0 where
  pub body : List EventValue
  pub last : EventValue
  pub block_is : block ≡ gtid d.source d.number ∷ begin ∷ body ++ last ∷ []
  pub are_changes : AreChanges [] body d.changes
  pub ends : is_end last ≡ true

-- The block is lawful, and the list has its transaction, if it is a whole one.
abbrev pub IsBlock : List EventValue → List DeliveryValue → Type 0
IsBlock block ds =
    ((IsMark block ⊎ (IsAnnounced block ⊎ IsOpen block)) × (ds ≡ []))
    ⊎ ((d : DeliveryValue) × IsWhole block d × (ds ≡ d ∷ []))

-- The blocks are lawful, and these are their transactions in order.
abbrev pub AreBlocks : List (List EventValue) → List DeliveryValue → Type 0
AreBlocks [] ds = ds ≡ []
AreBlocks (block ∷ blocks) ds = (first : List DeliveryValue) × (others : List DeliveryValue) × IsBlock block first × (ds ≡ first ++ others) × AreBlocks blocks others

-- ---- Lists.

-- each GTID has a format description before it
abbrev pub is_format_first : List EventValue → Bool
is_format_first [] = true
is_format_first (format ∷ events) = true
is_format_first (gtid source number ∷ events) = false
is_format_first (_ ∷ events) = is_format_first events

-- The events are lawful, and these are their whole transactions in order: without neutral events, they are lawful
-- blocks, one after the other.
pub record AreDeliveries (events : List EventValue) (ds : List DeliveryValue) : Type 0 where
  pub blocks : List (List EventValue)
  pub cut : filter (λ e. not (is_neutral e)) events ≡ flat_map (λ block. block) blocks
  pub each : AreBlocks blocks ds
  pub format_first : is_format_first events ≡ true

-- The events are lawful.
pub record IsLawful (events : List EventValue) : Type 0 where
  pub deliveries : List DeliveryValue
  pub are : AreDeliveries events deliveries

-- The events are lawful, and their transactions are the first of these.
pub record HasFirst (events : List EventValue) (ds : List DeliveryValue) : Type 0 where
  pub first : List DeliveryValue
  pub others : List DeliveryValue
  pub ds_are : ds ≡ first ++ others
  pub are : AreDeliveries events first
