-- What is written of a table map is that table map.
use Rattle.binlog.proofs.Names.{◌≡◌, ℕ, ◌+◌, ◌*◌, ◌<◌, ◌≤◌, ◌^◌, List, [], ◌∷◌, ◌++◌, length, map, refl, ap, append_assoc, arith, inl, inr, flat_map, IsTrue, AllByRecursion, cases_lt, le-leb, lt-leb, lt-ltb, length-append, length-map, append-nil, little_bytes, length-bytes_low_first, IsLengthEncoded, length_encoded, bitmap_size, type_code, metadata, is_lawful, ColumnKind, TableValue, full_bitmap}
use Rattle.binlog.specs.declared.column.kind.ColumnKind.TheVariants.{Tiny}
use Rattle.binlog.specs.Table.{IsTableMap}
use Rattle.binlog.specs.Writing.{HasMap, table_map_body}
use Rattle.binlog.proofs.FullBitmap.{full_long}

-- ---- Sizes.

metadata_short : (kind : ColumnKind) → length (metadata kind) ≤ 2
metadata_short Tiny = omega arith
metadata_short _ = omega arith

pub all_metadata_short : (kinds : List ColumnKind) → length (flat_map metadata kinds) ≤ 2 * length kinds
all_metadata_short [] = omega arith
all_metadata_short (kind ∷ kinds) = omega (arith, metadata_short kind, all_metadata_short kinds, length-append (metadata kind) (flat_map metadata kinds))

-- the shortest encoding of a small number
pub record Spelled (n : ℕ) : Type 0 where
  pub is : IsLengthEncoded n (length_encoded n)
  pub short : length (length_encoded n) ≤ 3

pub spelled : (n : ℕ) → n ≤ 8192 → Spelled n
spelled n small = elim (cases_lt 250 n) as (λ _. Spelled n) [
  | inr low ↦ (let e : length_encoded n ≡ n ∷ [] = rw (le-leb n 250 low) refl in record { is = inl (low, e); short = omega (arith, ap length e) })
  | inl high ↦ (
      let fits : n < 2 ^ 16 = omega (arith, small) in
      let e : length_encoded n ≡ 0xFC ∷ little_bytes 2 n = rw (lt-leb n 250 high, lt-ltb _ _ fits) refl in
      record { is = inr (inl (fits, e)); short = omega (arith, ap length e) })
]

-- ---- The body.

by_parts : (id flags schema table count codes m md nb : List ℕ) →
    id ++ (flags ++ schema) ++ table ++ (0 ∷ []) ++ count ++ codes ++ m ++ md ++ nb ≡ id ++ flags ++ schema ++ table ++ (0 ∷ (count ++ codes ++ m ++ md ++ nb ++ []))
by_parts id flags schema table count codes m md nb = simp (append_assoc, append-nil)

-- the table map of some body
pub record Suits (t : TableValue) : Type 0 where
  pub an_id : t.id < 2 ^ 48
  pub schema : length t.schema < 256
  pub table : length t.table < 256
  pub number : (1 ≤ length t.columns) × (length t.columns ≤ 4096)
  pub lawful : AllByRecursion (λ kind. IsTrue (is_lawful kind)) t.columns

pub suits : (t : TableValue) → HasMap t → Suits t
suits t has =
    let named = has.is_map.named in
    let columns = has.is_map.columns in
    record { an_id = named.an_id; schema = named.sizes.1; table = named.sizes.2; number = columns.number; lawful = columns.lawful }

pub written_map : (t : TableValue) → Suits t → IsTableMap t (table_map_body t)
written_map t is =
    let all_metadata = flat_map metadata t.columns in
    let n = length t.columns in
    let small = all_metadata_short t.columns in
    let count = spelled n (omega (arith, is.number.1)) in
    let measure = spelled (length all_metadata) (omega (arith, is.number.1, small)) in
    record {
      rest = length_encoded n ++ map type_code t.columns ++ length_encoded (length all_metadata) ++ all_metadata ++ full_bitmap n ++ [];
      named = record {
        flags = 0 ∷ 0 ∷ [];
        first_terminator = 0;
        second_terminator = 0;
        body_is = by_parts (little_bytes 6 t.id) (0 ∷ 0 ∷ []) (length t.schema ∷ t.schema) (0 ∷ length t.table ∷ t.table) (length_encoded n) (map type_code t.columns) (length_encoded (length all_metadata)) all_metadata (full_bitmap n);
        an_id = is.an_id;
        sizes = (refl, is.schema, is.table);
      };
      columns = record {
        count = length_encoded n;
        metadata_length = length_encoded (length all_metadata);
        nullable = full_bitmap n;
        ignored = [];
        bytes_are = refl;
        counted = count.is;
        number = is.number;
        lawful = is.lawful;
        measured = measure.is;
        nullable_length = full_long n;
      };
    }

pub map_written : (t : TableValue) → HasMap t → IsTableMap t (table_map_body t)
map_written t has = written_map t (suits t has)

pub has_map : (t : TableValue) → Suits t → HasMap t
has_map t is = record { body = table_map_body t; is_map = written_map t is }

long_9 : (a b c d e f g h i : List ℕ) → length (a ++ b ++ c ++ d ++ e ++ f ++ g ++ h ++ i) ≡ length a + length b + length c + length d + length e + length f + length g + length h + length i
long_9 a b c d e f g h i = simp length-append

size_small : (n : ℕ) → bitmap_size n ≤ n + 1
size_small n = grind arith

pub map_long : (t : TableValue) →
    length (table_map_body t) ≡ 12 + length t.schema + length t.table + length (length_encoded (length t.columns)) + length t.columns + length (length_encoded (length (flat_map metadata t.columns))) + length (flat_map metadata t.columns) + bitmap_size (length t.columns)
map_long t =
    let all_metadata = flat_map metadata t.columns in
    let n = length t.columns in
    let long = long_9 (little_bytes 6 t.id) (0 ∷ 0 ∷ length t.schema ∷ t.schema) (0 ∷ length t.table ∷ t.table) (0 ∷ []) (length_encoded n) (map type_code t.columns) (length_encoded (length all_metadata)) all_metadata (full_bitmap n) in
    omega (arith, long, length-bytes_low_first 0 6 t.id, full_long n, length-map t.columns type_code)

pub map_short : (t : TableValue) → HasMap t → length (table_map_body t) < 2 ^ 31
map_short t has =
    let is = suits t has in
    let all_metadata = flat_map metadata t.columns in
    let n = length t.columns in
    let small = all_metadata_short t.columns in
    let count = spelled n (omega (arith, is.number.1)) in
    let measure = spelled (length all_metadata) (omega (arith, is.number.1, small)) in
    omega (arith, map_long t, is.schema, is.table, is.number.1, count.short, measure.short, small, size_small n)
