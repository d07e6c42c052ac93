-- Events as they are written: the fields that a reader ignores are fixed. MySQL Source Documentation, Binlog Event, the
-- same classes as in Event.antt.
use Rattle.std.specs.Prelude.{ℕ, ◌+◌, ◌-◌, true, List, [], ◌∷◌, ◌++◌, length, map, flat_map, replicate, ◌==◌, if◌then◌else◌, codes}
use Rattle.std.specs.FinSet as set
use Rattle.byteorder.specs.Endian.{little_bytes}
use Rattle.wire.specs.Integer as lenenc
use Rattle.wire.specs.Integer.{length_encoded}
use Rattle.binlog.specs.Header.{header_length}
use Rattle.binlog.specs.EventType as event_type
use Rattle.binlog.specs.Column.{type_code, metadata}
use Rattle.binlog.specs.Body.{statement}
use Rattle.binlog.specs.Table.{TableValue, IsTableMap}
use Rattle.binlog.specs.Rows.{RowsValue, IsRows, rows_code, presents_size}
use Rattle.binlog.specs.RowsWritten.{bitmap_bytes}
use Rattle.binlog.specs.Event.{EventValue, format, begin, commit, neutral, stop, rotate, gtid, table_map, other_map, rows, xid, IsEvent}
use Rattle.binlog.specs.declared.body.query.Query.TheVariants.{Begin, Commit}
use Rattle.binlog.specs.declared.body.rows_event.RowsKind.{RowsKind}
use Rattle.binlog.specs.declared.body.rows_event.RowsKind.TheVariants.{Write, Update, Delete}

-- Some bytes are the event, for a reader that follows all tables.
pub record IsWritable (e : EventValue) : Type 0 where
  pub bytes : List ℕ
  pub is_event : IsEvent set.empty e bytes

-- some body is the table map, or the rows event
pub record HasMap (t : TableValue) : Type 0 where
  pub body : List ℕ
  pub is_map : IsTableMap t body

pub record HasRowsBody (r : RowsValue) : Type 0 where
  pub body : List ℕ
  pub is_rows : IsRows r body

-- a header: time 0, server 1, next position 0, no flags
abbrev pub header_bytes : ℕ → ℕ → List ℕ
header_bytes code size = 0 ∷ 0 ∷ 0 ∷ 0 ∷ code ∷ 1 ∷ 0 ∷ 0 ∷ 0 ∷ little_bytes 4 size ++ 0 ∷ 0 ∷ 0 ∷ 0 ∷ 0 ∷ 0 ∷ []

-- a format description of server 8.0.36, with the lengths of 35 types, which are 0 for types that are not supported
abbrev pub format_body : List ℕ
format_body = 4 ∷ 0 ∷ codes "8.0.36" ++ replicate 44 0 ++ 0 ∷ 0 ∷ 0 ∷ 0 ∷ header_length ∷ 0 ∷ 13 ∷ 0 ∷ 8 ∷ replicate 14 0 ++ 8 ∷ replicate 10 0 ++ 10 ∷ 10 ∷ 10 ∷ 0 ∷ 0 ∷ 0 ∷ 0 ∷ 0 ∷ 0 ∷ 0 ∷ 0 ∷ []

-- a query with zero for thread, time, schema, error and status
abbrev pub query_body : List ℕ → List ℕ
query_body text = replicate 13 0 ++ 0 ∷ text

abbrev pub gtid_body : List ℕ → ℕ → List ℕ
gtid_body source number = 0 ∷ source ++ little_bytes 8 number

-- a bitmap of n bits, all set; the unused bits are 0
abbrev pub full_bitmap : ℕ → List ℕ
full_bitmap n = bitmap_bytes (replicate n true)

-- the number, no flags, and the names with a terminator each
abbrev pub names_bytes : TableValue → List ℕ
names_bytes t = little_bytes 6 t.id ++ 0 ∷ 0 ∷ length t.schema ∷ t.schema ++ 0 ∷ length t.table ∷ t.table ++ 0 ∷ []

-- a table map: all columns may be null
abbrev pub table_map_body : TableValue → List ℕ
table_map_body t =
    let all_metadata = flat_map metadata t.columns in
    names_bytes t ++ length_encoded (length t.columns) ++ map type_code t.columns ++ length_encoded (length all_metadata) ++ all_metadata ++ full_bitmap (length t.columns)

-- a count in `width` bytes
abbrev pub count_bytes : ℕ → ℕ → List ℕ
count_bytes width n =
    if width == 1 then n ∷ []
    else if width == 3 then lenenc.two_bytes ∷ little_bytes 2 n
    else if width == 4 then lenenc.three_bytes ∷ little_bytes 3 n
    else lenenc.eight_bytes ∷ little_bytes 8 n

abbrev pub presents_bytes : RowsKind → ℕ → List ℕ
presents_bytes Update n = full_bitmap n ++ full_bitmap n
presents_bytes Write n = full_bitmap n
presents_bytes Delete n = full_bitmap n

-- the rows event of these rows without extra data and with the shortest encoding of the number of columns
abbrev pub plain_rows : ℕ → RowsKind → ℕ → List ℕ → RowsValue
plain_rows id kind columns bytes = record {
  id = id;
  kind = kind;
  columns = columns;
  bytes = bytes;
  columns_at = 29;
  bytes_at = 29 + length (length_encoded columns) + presents_size kind columns;
}

-- the flag of a rows event that ends its statement: STMT_END_F of binary_log::Rows_event
abbrev pub stmt_end : ℕ
stmt_end = 1

-- what comes before the number of columns of an event that ends its statement, with as many bytes of extra data as the
-- offset of that number requires
abbrev pub rows_head : RowsValue → List ℕ
rows_head r =
    let extra = r.columns_at - 29 in
    little_bytes 6 r.id ++ stmt_end ∷ 0 ∷ little_bytes 2 (2 + extra) ++ replicate extra 0

-- a rows event, with the number of columns in as many bytes as its offsets require
abbrev pub rows_body : RowsValue → List ℕ
rows_body r =
    let width = r.bytes_at - r.columns_at - presents_size r.kind r.columns in
    rows_head r ++ count_bytes width r.columns ++ presents_bytes r.kind r.columns ++ r.bytes

-- the type that is written; IGNORABLE for a neutral event
abbrev pub event_code : EventValue → ℕ
event_code format = event_type.format_description
event_code begin = event_type.query
event_code commit = event_type.query
event_code neutral = event_type.ignorable
event_code stop = event_type.stop
event_code (rotate position name) = event_type.rotate
event_code (gtid source number) = event_type.gtid
event_code (table_map t) = event_type.table_map
event_code (other_map id) = event_type.table_map
event_code (rows r) = rows_code r.kind
event_code (xid number) = event_type.xid

-- the body; a table map of a table that is not followed has none
abbrev pub event_body : EventValue → List ℕ
event_body format = format_body
event_body begin = query_body (statement Begin)
event_body commit = query_body (statement Commit)
event_body neutral = []
event_body stop = []
event_body (rotate position name) = little_bytes 8 position ++ name
event_body (gtid source number) = gtid_body source number
event_body (table_map t) = table_map_body t
event_body (other_map id) = []
event_body (rows r) = rows_body r
event_body (xid number) = little_bytes 8 number

-- an event with this body
abbrev pub framed_bytes : ℕ → List ℕ → List ℕ
framed_bytes code body = header_bytes code (header_length + length body) ++ body

abbrev pub event_bytes : EventValue → List ℕ
event_bytes e = framed_bytes (event_code e) (event_body e)
