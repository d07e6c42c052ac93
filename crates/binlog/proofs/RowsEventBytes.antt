-- What is written of a rows event is that rows event.
use Rattle.binlog.proofs.Names.{◌≡◌, ℕ, ◌+◌, ◌-◌, ◌<◌, ◌≤◌, ◌^◌, List, [], ◌∷◌, ◌++◌, length, replicate, refl, sym, ap, subst, ◌∙◌, append_assoc, arith, inl, inr, length-append, length-replicate, little_bytes, length-bytes_low_first, IsLengthEncoded, RowsValue, IsRows, presents_size, full_bitmap, RowsKind, Write, Update, Delete}
use Rattle.binlog.specs.Rows.{ArePresent}
use Rattle.binlog.specs.Writing.{HasRowsBody, count_bytes, presents_bytes, rows_body}
use Rattle.binlog.proofs.RowsHead.{presents_long}
use Rattle.binlog.proofs.FullBitmap.{all_present}

-- ---- Counts and bitmaps.

-- an encoding is determined by its width
same_count : (n : ℕ) (count : List ℕ) → IsLengthEncoded n count → count_bytes (length count) n ≡ count
same_count n count (inl (fits, is)) = ap (λ c. count_bytes (length c) n) is ∙ sym is
same_count n count (inr (inl (fits, is))) = ap (λ c. count_bytes (length c) n) is ∙ sym is
same_count n count (inr (inr (inl (fits, is)))) = ap (λ c. count_bytes (length c) n) is ∙ sym is
same_count n count (inr (inr (inr (fits, is)))) = ap (λ c. count_bytes (length c) n) is ∙ sym is

-- a number is encoded in `width` bytes
pub record Spells (width n : ℕ) : Type 0 where
  pub is : IsLengthEncoded n (count_bytes width n)
  pub long : length (count_bytes width n) ≡ width

pub spells : (n : ℕ) (count : List ℕ) → IsLengthEncoded n count → Spells (length count) n
spells n count is = let e = same_count n count is in record { is = subst (IsLengthEncoded n) (sym e) is; long = ap length e }

pub spells_1 : (n : ℕ) → n ≤ 250 → Spells 1 n
spells_1 n fits = record { is = inl (fits, refl); long = refl }

pub spells_3 : (n : ℕ) → n ≤ 4096 → Spells 3 n
spells_3 n small = record { is = inr (inl (omega (arith, small), refl)); long = refl }

pub spells_4 : (n : ℕ) → n ≤ 4096 → Spells 4 n
spells_4 n small = record { is = inr (inr (inl (omega (arith, small), refl))); long = refl }

pub spells_9 : (n : ℕ) → n ≤ 4096 → Spells 9 n
spells_9 n small = record { is = inr (inr (inr (omega (arith, small), refl))); long = refl }

pub are_present : (kind : RowsKind) (n : ℕ) → ArePresent kind n (presents_bytes kind n)
are_present Write n = all_present n
are_present Delete n = all_present n
are_present Update n = (full_bitmap n, full_bitmap n, refl, all_present n, all_present n)

-- ---- The body.

-- the bytes of the count
abbrev pub width_asked : RowsValue → ℕ
width_asked r = r.bytes_at - r.columns_at - presents_size r.kind r.columns

-- the rows event of some body
pub record Suits (r : RowsValue) : Type 0 where
  pub an_id : r.id < 2 ^ 48
  pub number : (1 ≤ r.columns) × (r.columns ≤ 4096)
  pub extra : (29 ≤ r.columns_at) × (r.columns_at ≤ 29 + 65533)
  pub spells : Spells (width_asked r) r.columns
  pub place : r.bytes_at ≡ r.columns_at + width_asked r + presents_size r.kind r.columns

pub suits : (r : RowsValue) → HasRowsBody r → Suits r
suits r has =
    let is = has.is_rows in
    let long = presents_long r.kind r.columns is.present is.all_present in
    let width : length is.count ≡ width_asked r = omega (arith, is.bytes_place, long) in
    record {
      an_id = is.an_id;
      number = is.columns;
      extra = (omega (arith, is.columns_place), omega (arith, is.columns_place, is.sizes.1));
      spells = subst (λ w. Spells w r.columns) width (spells r.columns is.count is.counted);
      place = omega (arith, is.bytes_place, long, width);
    }

by_parts : (id flags h e c p b : List ℕ) → id ++ (flags ++ h) ++ e ++ c ++ p ++ b ≡ id ++ flags ++ h ++ e ++ c ++ p ++ b
by_parts id flags h e c p b = simp append_assoc

pub written_rows : (r : RowsValue) → Suits r → IsRows r (rows_body r)
written_rows r is =
    let n = r.columns_at - 29 in
    let extra : List ℕ = replicate n 0 in
    let count = count_bytes (width_asked r) r.columns in
    let present = presents_bytes r.kind r.columns in
    let extra_long : length extra ≡ n = length-replicate n 0 in
    record {
      flags = 1 ∷ 0 ∷ [];
      extra = extra;
      count = count;
      present = present;
      body_is = by_parts (little_bytes 6 r.id) (1 ∷ 0 ∷ []) (little_bytes 2 (2 + n)) extra count present r.bytes ∙ ap (λ k. little_bytes 6 r.id ++ (1 ∷ 0 ∷ []) ++ little_bytes 2 (2 + k) ++ extra ++ count ++ present ++ r.bytes) (sym extra_long);
      an_id = is.an_id;
      sizes = (refl, omega (arith, extra_long, is.extra.1));
      counted = is.spells.is;
      columns = is.number;
      all_present = are_present r.kind r.columns;
      columns_place = omega (arith, extra_long, is.extra.0);
      bytes_place = omega (arith, is.place, is.spells.long, presents_long r.kind r.columns present (are_present r.kind r.columns));
    }

pub rows_written : (r : RowsValue) → HasRowsBody r → IsRows r (rows_body r)
rows_written r has = written_rows r (suits r has)

pub has_rows_body : (r : RowsValue) → Suits r → HasRowsBody r
has_rows_body r is = record { body = rows_body r; is_rows = written_rows r is }

long_7 : (a b c d e f g : List ℕ) → length (a ++ b ++ c ++ d ++ e ++ f ++ g) ≡ length a + length b + length c + length d + length e + length f + length g
long_7 a b c d e f g = simp length-append

-- where it ends
pub rows_end : (r : RowsValue) (body : List ℕ) → IsRows r body → 19 + length body ≡ r.bytes_at + length r.bytes
rows_end r body is =
    let long = long_7 (little_bytes 6 r.id) is.flags (little_bytes 2 (2 + length is.extra)) is.extra is.count is.present r.bytes in
    omega (arith, ap length is.body_is, long, length-bytes_low_first 0 6 r.id, length-bytes_low_first 0 2 (2 + length is.extra), is.sizes.0, is.columns_place, is.bytes_place)

-- ---- As the code finds it.

pub small_1 : (n : ℕ) → Spells 1 n → n ≤ 250
small_1 n s = small s.is
  where
    small : IsLengthEncoded n (n ∷ []) → n ≤ 250
    small (inl (fits, is)) = fits
    small (inr (inl (fits, is))) = absurd (omega (arith, ap length is))
    small (inr (inr (inl (fits, is)))) = absurd (omega (arith, ap length is))
    small (inr (inr (inr (fits, is)))) = absurd (omega (arith, ap length is))

pub has_by_width : (r : RowsValue) (w : ℕ) → r.id < 2 ^ 48 → (1 ≤ r.columns) × (r.columns ≤ 4096) → (29 ≤ r.columns_at) × (r.columns_at ≤ 29 + 65533) →
    r.bytes_at ≡ r.columns_at + w + presents_size r.kind r.columns → Spells w r.columns → HasRowsBody r
has_by_width r w an_id number extra place s =
    let width : w ≡ width_asked r = omega (arith, place) in
    has_rows_body r (record { an_id = an_id; number = number; extra = extra; spells = subst (λ w. Spells w r.columns) width s; place = omega (arith, place) })

pub by_width_1 : (r : RowsValue) → r.bytes_at ≡ r.columns_at + 1 + presents_size r.kind r.columns → HasRowsBody r → r.columns ≤ 250
by_width_1 r place has =
    let width : width_asked r ≡ 1 = omega (arith, place) in
    small_1 r.columns (subst (λ w. Spells w r.columns) width (suits r has).spells)
