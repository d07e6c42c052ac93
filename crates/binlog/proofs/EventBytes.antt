-- What is written of an event is that event.
use Rattle.binlog.proofs.Names.{◌≡◌, ℕ, ◌+◌, ◌-◌, ◌<◌, ◌≤◌, ◌^◌, Bool, false, List, [], ◌∷◌, ◌++◌, length, replicate, codes, refl, sym, ap, ◌∙◌, arith, inl, false≢true, length-append, length-drop, append-nil, little_bytes, IsFramed, IsFormat, IsGtidBody, IsQuery, TableValue, RowsValue, IsWritable, Begin, Commit}
use Rattle.std.specs.FinSet as set
use Rattle.binlog.specs.Body.{statement}
use Rattle.binlog.specs.Event.{EventValue, format, begin, commit, neutral, stop, rotate, gtid, table_map, other_map, rows, xid, IsOtherMap, HasBody, IsEvent}
use Rattle.binlog.specs.Writing.{HasMap, HasRowsBody, header_bytes, format_body, query_body, gtid_body, rows_body, event_code, event_body, framed_bytes, event_bytes}
use Rattle.binlog.proofs.Headers as headers
use Rattle.binlog.proofs.TableSets.{all_read}
use Rattle.binlog.proofs.TableMapBytes.{map_written, map_short}
use Rattle.binlog.proofs.RowsEventBytes.{rows_written, rows_end}

-- ---- Frames.

pub is_framed : (code : ℕ) (body : List ℕ) → 19 + length body < 2 ^ 32 → IsFramed code false body (framed_bytes code body)
is_framed code body small =
    let size : length (framed_bytes code body) ≡ 19 + length body = length-append (header_bytes code (19 + length body)) body in
    record {
      timestamp = replicate 4 0;
      server_id = 1 ∷ replicate 3 0;
      position = replicate 4 0;
      low_flags = 0;
      high_flags = 0;
      bytes_are = ap (λ n. header_bytes code n ++ body) (sym size);
      sizes = (refl, refl, refl);
      a_size = omega (arith, size, small);
      unkept = refl;
    }

-- the length of framed bytes
framed_length : (code : ℕ) (may_ignore : Bool) (body bytes : List ℕ) → IsFramed code may_ignore body bytes → length bytes ≡ 19 + length body
framed_length code may_ignore body bytes is =
    let t = headers.reported code may_ignore body bytes is in
    let long = t.long in
    omega (arith, long, ap length t.body_is, length-drop 19 bytes)

frame_long : (code : ℕ) (may_ignore : Bool) (body bytes : List ℕ) → IsFramed code may_ignore body bytes → 19 + length body < 2 ^ 32
frame_long code may_ignore body bytes is = omega (arith, is.a_size, framed_length code may_ignore body bytes is)

-- ---- Bodies.

format_written : IsFormat format_body
format_written = record {
  server_version = codes "8.0.36" ++ replicate 44 0;
  time = replicate 4 0;
  lengths = 0 ∷ 13 ∷ 0 ∷ 8 ∷ replicate 14 0 ++ 8 ∷ replicate 10 0 ++ 10 ∷ 10 ∷ 10 ∷ 0 ∷ 0 ∷ 0 ∷ [];
  unread = replicate 4 0;
  body_is = refl;
  sizes = (refl, refl, refl, omega arith);
  query = refl;
  rotate = refl;
  table_map = refl;
  rows = (refl, refl, refl);
}

query_written : (text : List ℕ) → IsQuery text (query_body text)
query_written text = record {
  thread = replicate 4 0;
  time = replicate 4 0;
  error = replicate 2 0;
  status = [];
  schema = [];
  terminator = 0;
  body_is = refl;
  sizes = (refl, refl, refl, omega arith, omega arith);
}

gtid_written : (source : List ℕ) (number : ℕ) (body : List ℕ) → IsGtidBody source number body → IsGtidBody source number (gtid_body source number)
gtid_written source number body is = record {
  flags = 0;
  ignored = [];
  body_is = sym (append-nil (gtid_body source number));
  source_length = is.source_length;
  in_range = is.in_range;
}

not_other : (id : ℕ) (body : List ℕ) → IsOtherMap set.empty id body → ⊥
not_other id body is = false≢true (sym is.other ∙ all_read is.schema is.table)

-- the body that is written, of some event
pub body_written : (e : EventValue) (code : ℕ) (may_ignore : Bool) (body : List ℕ) → HasBody set.empty e code may_ignore body → HasBody set.empty e (event_code e) false (event_body e)
body_written format code may_ignore body is = (refl, format_written)
body_written begin code may_ignore body is = (refl, query_written (statement Begin))
body_written commit code may_ignore body is = (refl, query_written (statement Commit))
body_written neutral code may_ignore body is = inl refl
body_written stop code may_ignore body is = refl
body_written (rotate position name) code may_ignore body (is, of) = (refl, (of.0, refl))
body_written (gtid source number) code may_ignore body (is, of) = (refl, gtid_written source number body of)
body_written (table_map t) code may_ignore body (is, of, admitted) = (refl, map_written t (record { body = body; is_map = of }), all_read t.schema t.table)
body_written (other_map id) code may_ignore body (is, of) = absurd (not_other id body of)
body_written (rows r) code may_ignore body (is, of) = (refl, rows_written r (record { body = body; is_rows = of }))
body_written (xid number) code may_ignore body (is, of) = (refl, (of.0, refl))

-- it is no longer than that
pub body_short : (e : EventValue) (code : ℕ) (may_ignore : Bool) (body : List ℕ) → 19 + length body < 2 ^ 32 → HasBody set.empty e code may_ignore body → 19 + length (event_body e) < 2 ^ 32
body_short format code may_ignore body small is = omega arith
body_short begin code may_ignore body small is = omega arith
body_short commit code may_ignore body small is = omega arith
body_short neutral code may_ignore body small is = omega arith
body_short stop code may_ignore body small is = omega arith
body_short (rotate position name) code may_ignore body small (is, of) = omega (arith, small, ap length of.1)
body_short (gtid source number) code may_ignore body small (is, of) = omega (arith, of.source_length, length-append (0 ∷ source) (little_bytes 8 number))
body_short (table_map t) code may_ignore body small (is, of, admitted) = omega (arith, map_short t (record { body = body; is_map = of }))
body_short (other_map id) code may_ignore body small is = omega arith
body_short (rows r) code may_ignore body small (is, of) = omega (arith, small, rows_end r body of, rows_end r (rows_body r) (rows_written r (record { body = body; is_rows = of })))
body_short (xid number) code may_ignore body small is = omega arith

-- ---- Events.

pub writable_short : (e : EventValue) → IsWritable e → 19 + length (event_body e) < 2 ^ 32
writable_short e is =
    let w = is.is_event in
    body_short e w.code w.may_ignore w.body (frame_long w.code w.may_ignore w.body is.bytes w.framed) w.has_body

pub written : (e : EventValue) → IsWritable e → IsEvent set.empty e (event_bytes e)
written e is =
    let w = is.is_event in
    record {
      code = event_code e;
      may_ignore = false;
      body = event_body e;
      framed = is_framed (event_code e) (event_body e) (writable_short e is);
      has_body = body_written e w.code w.may_ignore w.body w.has_body;
    }

-- ---- Which events some bytes are.

writable : (e : EventValue) → HasBody set.empty e (event_code e) false (event_body e) → 19 + length (event_body e) < 2 ^ 32 → IsWritable e
writable e has small = record { bytes = event_bytes e; is_event = record { code = event_code e; may_ignore = false; body = event_body e; framed = is_framed (event_code e) (event_body e) small; has_body = has } }

pub writes_format : IsWritable format
writes_format = writable format (refl, format_written) (omega arith)

pub writes_begin : IsWritable begin
writes_begin = writable begin (refl, query_written (statement Begin)) (omega arith)

pub writes_commit : IsWritable commit
writes_commit = writable commit (refl, query_written (statement Commit)) (omega arith)

pub writes_neutral : IsWritable neutral
writes_neutral = writable neutral (inl refl) (omega arith)

pub writes_stop : IsWritable stop
writes_stop = writable stop refl (omega arith)

pub writes_rotate : (position : ℕ) (name : List ℕ) → position < 2 ^ 64 → 27 + length name < 2 ^ 32 → IsWritable (rotate position name)
writes_rotate position name fits small = writable (rotate position name) (refl, (fits, refl)) (omega (arith, small, length-append (little_bytes 8 position) name))

pub rotate_short : (position : ℕ) (name : List ℕ) → IsWritable (rotate position name) → 27 + length name < 2 ^ 32
rotate_short position name is = let short = writable_short (rotate position name) is in omega (arith, short, length-append (little_bytes 8 position) name)

pub writes_gtid : (source : List ℕ) (number : ℕ) → length source ≡ 16 → 1 ≤ number → number ≤ 2 ^ 63 - 2 → IsWritable (gtid source number)
writes_gtid source number long low high = writable (gtid source number)
    (refl, record { flags = 0; ignored = []; body_is = sym (append-nil (gtid_body source number)); source_length = long; in_range = (low, high) })
    (omega (arith, long, length-append (0 ∷ source) (little_bytes 8 number)))

pub writes_xid : (number : ℕ) → number < 2 ^ 64 → IsWritable (xid number)
writes_xid number fits = writable (xid number) (refl, (fits, refl)) (omega arith)

pub writes_map : (t : TableValue) → HasMap t → IsWritable (table_map t)
writes_map t has = writable (table_map t) (refl, map_written t has, all_read t.schema t.table) (omega (arith, map_short t has))

pub map_of : (t : TableValue) → IsWritable (table_map t) → HasMap t
map_of t is = let (is_code, of, admitted) = is.is_event.has_body in record { body = is.is_event.body; is_map = of }

pub writes_rows : (r : RowsValue) → r.bytes_at + length r.bytes < 2 ^ 32 → HasRowsBody r → IsWritable (rows r)
writes_rows r small has = let of = rows_written r has in writable (rows r) (refl, of) (omega (arith, small, rows_end r (rows_body r) of))

pub rows_body_of : (r : RowsValue) → IsWritable (rows r) → HasRowsBody r
rows_body_of r is = let (is_code, of) = is.is_event.has_body in record { body = is.is_event.body; is_rows = of }

pub no_other_map : (id : ℕ) → IsWritable (other_map id) → ⊥
no_other_map id is = let (is_code, of) = is.is_event.has_body in not_other id is.is_event.body of
