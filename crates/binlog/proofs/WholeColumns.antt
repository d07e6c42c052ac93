-- The columns of table maps: from the bytes to the types and back.
use Rattle.binlog.proofs.Names.{◌≡◌, ℕ, suc, ◌+◌, ◌-◌, ◌≤◌, ◌==◌, not, List, [], ◌∷◌, ◌++◌, length, get_or, take, map, Option, Some, None, refl, sym, ap, subst, ◌∙◌, append_assoc, arith, flat_map, nat_le, take-add, not-false, and_parts, leb-true, eqb-true, length-append, length-drop, length-take, length-map, get_or-drop, take_at, take-append-drop, append-nil, IsLengthEncoded, refuse, needs, count_width, count_at, bitmap_size, kinds, type_code, metadata, IsColumn, column_fault, AreColumns, is_column_count, metadata_length, columns_at, ColumnKind, ColumnType, EventFault, EventFaultKind, Columns, Metadata, IsBytes, drop_drop, drop_front, drop_at}
use Rattle.std.proofs.Common.{drop}
use Rattle.std.specs.Prelude.{sum_by}
use Rattle.std.proofs.lemmas.List.{map-append}
use Rattle.std.proofs.lemmas.List.Sums.{sum_by-cons}
use Rattle.binlog.specs.Count.{no_count}
use Rattle.binlog.specs.Column.{metadata_fault}
use Rattle.binlog.specs.Table.{types_fault, at_place, all_metadata_fault, codes_at, measure_place, metadata_place, columns_fault}
use Rattle.binlog.specs.Columns.{columns_of, HasColumns}
use Rattle.binlog.proofs.Tables.{passes, not_refused, is_there}
use Rattle.wire.proofs.Cuts.{cut, right_6}
use Rattle.binlog.proofs.Columns.{lawful_size, no_fault, some_column}
use Rattle.binlog.proofs.Counts.{counted, count_not_refused, some_bytes, is_counted}
use Rattle.binlog.proofs.LawfulColumns.{AllLawful}
use Rattle.binlog.proofs.TableColumns.{metadata_long, after_metadata, before_metadata, column_first, only_line, type_passes_at, first_sized, others_read, length_is, fault_there, column_passes_at, Opened, Counts, Measured, no_line}

-- ---- Bytes without a fault are those of types in range.

pub record Columned (columns : List ColumnKind) (codes bytes : List ℕ) : Type 0 where
  pub codes_are : map type_code columns ≡ codes
  pub lawful : AllLawful columns
  pub metadata_are : take (sum_by metadata_length codes) bytes ≡ flat_map metadata columns

columned_cons : (kind : ColumnKind) (code : ℕ) (columns : List ColumnKind) (codes rest bytes : List ℕ) → IsColumn kind code rest bytes → Columned columns codes rest → Columned (kind ∷ columns) (code ∷ codes) bytes
columned_cons kind code columns codes rest bytes is others = record {
  codes_are = λ i. sym is.code_is i ∷ others.codes_are i;
  lawful = (is.lawful, others.lawful);
  metadata_are = ap (λ n. take n bytes) (sum_by-cons metadata_length code codes) ∙ take-add (metadata_length code) (sum_by metadata_length codes) bytes
      ∙ (λ i. before_metadata kind code rest bytes is i ++ take (sum_by metadata_length codes) (after_metadata kind code rest bytes is i)) ∙ ap (λ t. metadata kind ++ t) others.metadata_are;
}

no_place : (fault : Option EventFaultKind) (place : ℕ) → at_place fault place ≡ None → fault ≡ None
no_place None place none = refl
no_place (Some kind) place none = absurd cc

pub columned : (codes : List ℕ) (place types : ℕ) (bytes : List ℕ) → IsBytes bytes → types_fault types codes ≡ None → all_metadata_fault bytes place codes ≡ None →
    place + sum_by metadata_length codes ≤ length bytes → Columned (columns_of codes (drop place bytes)) codes (drop place bytes)
columned [] place types bytes fits read none long = record { codes_are = refl; lawful = tt; metadata_are = refl }
columned (code ∷ codes) place types bytes fits read none long =
    let s = first_sized code types codes read in
    let sum = sum_by-cons metadata_length code codes in
    let size : metadata_length code ≡ s.size = length_is code s.size s.has in
    let within : place + s.size ≤ length bytes = omega (arith, long, sum, size) in
    let lines = passes (at_place (metadata_fault code (get_or bytes place 0) (get_or bytes (place + 1) 0)) place) _ none in
    let sound = no_place (metadata_fault code (get_or bytes place 0) (get_or bytes (place + 1) 0)) place lines.0 in
    let whole : column_fault code (drop place bytes) ≡ None = fault_there bytes code s.size place s.has within ∙ sound in
    let from : IsBytes (drop place bytes) = λ i. rw get_or-drop (fits (place + i)) in
    let h = some_column code (drop place bytes) from whole in
    let next = place + metadata_length code in
    let rest_is : h.rest ≡ drop next bytes = sym (after_metadata h.kind code h.rest (drop place bytes) h.is_column) ∙ drop_drop place (metadata_length code) bytes in
    let others_sound : all_metadata_fault bytes next codes ≡ None = sym (only_line (all_metadata_fault bytes next codes)) ∙ lines.1 in
    let others = columned codes next (suc types) bytes fits (others_read code types codes read) others_sound (omega (arith, long, sum)) in
    let at_rest : Columned (columns_of codes h.rest) codes h.rest = subst (λ r. Columned (columns_of codes r) codes r) {x = drop next bytes} (sym rest_is) others in
    let first : columns_of (code ∷ codes) (drop place bytes) ≡ h.kind ∷ columns_of codes h.rest = column_first h.kind code codes h.rest (drop place bytes) h.is_column in
    subst (λ l. Columned l (code ∷ codes) (drop place bytes)) {x = h.kind ∷ columns_of codes h.rest} (sym {b = h.kind ∷ columns_of codes h.rest} first)
    (columned_cons h.kind code (columns_of codes h.rest) codes h.rest (drop place bytes) h.is_column at_rest)

pub record Standing (bytes : List ℕ) (at : ℕ) : Type 0 where
  pub columned : Columned (columns_at bytes at) (codes_at bytes at) (drop (metadata_place bytes at) bytes)
  pub are : AreColumns (columns_at bytes at) (drop at bytes)

pub standing : (bytes : List ℕ) (at : ℕ) → IsBytes bytes → columns_fault bytes at ≡ None → Standing bytes at
unfolding columns_fault
standing bytes at fits none =
    let n = count_at bytes at in
    let w = count_width bytes at in
    let measure = measure_place bytes at in
    let v = count_width bytes measure in
    let start = metadata_place bytes at in
    let codes = codes_at bytes at in
    let size = sum_by metadata_length codes in
    let columns = columns_at bytes at in
    let p1 = passes (no_count bytes at Columns) _ none in
    let p2 = passes (refuse (not (is_column_count n)) Columns at) _ p1.1 in
    let p3 = passes (needs bytes (at + w) n) _ p2.1 in
    let p4 = passes (types_fault (at + w) codes) _ p3.1 in
    let p5 = passes (no_count bytes measure Metadata) _ p4.1 in
    let p6 = passes (refuse (not (count_at bytes measure == size)) Metadata measure) _ p5.1 in
    let p7 = passes (needs bytes start size) _ p6.1 in
    let p8 = passes (all_metadata_fault bytes start codes) _ p7.1 in
    let p9 = passes (needs bytes (start + size) (bitmap_size n)) _ p8.1 in
    let first = is_counted bytes at Columns fits p1.0 in
    let in_range = and_parts (nat_le 1 n) (nat_le n 4096) (not-false (is_column_count n) (not_refused (not (is_column_count n)) Columns at p2.0)) in
    let some : 1 ≤ n = leb-true _ _ in_range.0 in
    let few : n ≤ 4096 = leb-true _ _ in_range.1 in
    let types_there : at + w + n ≤ length bytes = is_there bytes (at + w) n p3.0 in
    let second = is_counted bytes measure Metadata fits p5.0 in
    let stated : count_at bytes measure ≡ size = eqb-true _ _ (not-false (count_at bytes measure == size) (not_refused (not (count_at bytes measure == size)) Metadata measure p6.0)) in
    let metadata_there : start + size ≤ length bytes = is_there bytes start size p7.0 in
    let bitmap_there : start + size + bitmap_size n ≤ length bytes = is_there bytes (start + size) (bitmap_size n) p9.0 in
    let c = columned codes start (at + w) bytes fits p4.0 p8.0 metadata_there in
    let codes_long : length codes ≡ n = omega (arith, types_there, length-take n (drop (at + w) bytes), length-drop (at + w) bytes) in
    let columns_long : n ≡ length columns = sym codes_long ∙ sym (ap length c.codes_are) ∙ length-map columns type_code in
    let flat_long : size ≡ length (flat_map metadata columns) = omega (arith, ap length c.metadata_are, metadata_there, length-take size (drop start bytes), length-drop start bytes) in
    let bits = bitmap_size n in
    let nullable = take bits (drop (start + size) bytes) in
    let ignored = drop bits (drop (start + size) bytes) in
    let c5 : drop (start + size) bytes ≡ nullable ++ ignored = sym (take-append-drop bits (drop (start + size) bytes)) in
    let c4 : drop start bytes ≡ flat_map metadata columns ++ (nullable ++ ignored) = cut start size bytes ∙ (λ i. c.metadata_are i ++ c5 i) in
    let c3 : drop measure bytes ≡ take v (drop measure bytes) ++ (flat_map metadata columns ++ (nullable ++ ignored)) = cut measure v bytes ∙ ap (λ t. take v (drop measure bytes) ++ t) c4 in
    let c2 : drop (at + w) bytes ≡ map type_code columns ++ (take v (drop measure bytes) ++ (flat_map metadata columns ++ (nullable ++ ignored))) = cut (at + w) n bytes ∙ (λ i. sym c.codes_are i ++ c3 i) in
    let c1 = cut at w bytes ∙ ap (λ t. take w (drop at bytes) ++ t) c2 in
    record {
      columned = c;
      are = record {
        count = take w (drop at bytes);
        metadata_length = take v (drop measure bytes);
        nullable = nullable;
        ignored = ignored;
        bytes_are = c1 ∙ sym (right_6 (take w (drop at bytes)) (map type_code columns) (take v (drop measure bytes)) (flat_map metadata columns) nullable ignored);
        counted = subst (λ k. IsLengthEncoded k (take w (drop at bytes))) columns_long first.encoded;
        number = (subst (λ k. 1 ≤ k) columns_long some, subst (λ k. k ≤ 4096) columns_long few);
        lawful = c.lawful;
        measured = subst (λ k. IsLengthEncoded k (take v (drop measure bytes))) (stated ∙ flat_long) second.encoded;
        nullable_length = (let l : length nullable ≡ bits = omega (arith, bitmap_there, length-take bits (drop (start + size) bytes), length-drop (start + size) bytes) in l ∙ ap bitmap_size columns_long);
      };
    }

pub has_columns : (bytes : List ℕ) (at : ℕ) → IsBytes bytes → columns_fault bytes at ≡ None → HasColumns (drop at bytes)
has_columns bytes at fits none = record { columns = columns_at bytes at; are_columns = (standing bytes at fits none).are }

-- as many as there are type bytes
pub as_many : (columns : List ColumnKind) (codes bytes : List ℕ) → Columned columns codes bytes → length columns ≡ length codes
as_many columns codes bytes c = sym (length-map columns type_code) ∙ ap length c.codes_are

-- ---- Types in range are read from their bytes.

columns_back : (kinds : List ColumnKind) (more : List ℕ) → AllLawful kinds → columns_of (map type_code kinds) (flat_map metadata kinds ++ more) ≡ kinds
columns_back [] more lawful = refl
columns_back (kind ∷ kinds) more lawful =
    column_first kind (type_code kind) (map type_code kinds) (flat_map metadata kinds ++ more) ((metadata kind ++ flat_map metadata kinds) ++ more)
    (record { lawful = lawful.0; code_is = refl; bytes_are = append_assoc (metadata kind) (flat_map metadata kinds) more })
    ∙ ap (λ l. kind ∷ l) (columns_back kinds more lawful.1)

sum_back : (kinds : List ColumnKind) → sum_by metadata_length (map type_code kinds) ≡ length (flat_map metadata kinds)
sum_back [] = refl
sum_back (kind ∷ kinds) = sum_by-cons metadata_length (type_code kind) (map type_code kinds) ∙ (λ i. metadata_long kind i + sum_back kinds i) ∙ sym (length-append (metadata kind) (flat_map metadata kinds))

all_read : (kinds : List ColumnKind) (place : ℕ) → types_fault place (map type_code kinds) ≡ None
all_read [] place = refl
all_read (kind ∷ kinds) place = type_passes_at (type_code kind) (length (metadata kind)) place (map type_code kinds) (lawful_size kind) ∙ all_read kinds (suc place)

all_sound : (kinds : List ColumnKind) (bytes : List ℕ) (place : ℕ) (more : List ℕ) → AllLawful kinds → place ≤ length bytes → drop place bytes ≡ flat_map metadata kinds ++ more →
    all_metadata_fault bytes place (map type_code kinds) ≡ None
all_sound [] bytes place more lawful within stands = refl
all_sound (kind ∷ kinds) bytes place more lawful within stands =
    let rest = flat_map metadata kinds ++ more in
    let code = type_code kind in
    let is : IsColumn kind code rest (drop place bytes) = record { lawful = lawful.0; code_is = refl; bytes_are = stands ∙ append_assoc (metadata kind) (flat_map metadata kinds) more } in
    let long : place + length (metadata kind) ≤ length bytes = omega (arith, within, ap length is.bytes_are, length-drop place bytes, length-append (metadata kind) rest) in
    let sound = sym (fault_there bytes code (length (metadata kind)) place (lawful_size kind) long) ∙ no_fault kind code rest (drop place bytes) is in
    let size = metadata_long kind in
    column_passes_at bytes code place (map type_code kinds) sound
    ∙ all_sound kinds bytes (place + metadata_length code) more lawful.1 (omega (arith, long, size)) (sym (drop_drop place (metadata_length code) bytes) ∙ after_metadata kind code rest (drop place bytes) is)

pub record ReportedColumns (kinds : List ColumnKind) (bytes : List ℕ) (at : ℕ) : Type 0 where
  pub fault : columns_fault bytes at ≡ None
  pub columns : columns_at bytes at ≡ kinds

pub columns_reported : (kinds : List ColumnKind) (bytes : List ℕ) (at : ℕ) → AreColumns kinds (drop at bytes) → ReportedColumns kinds bytes at
columns_reported kinds bytes at is =
    let n = length kinds in
    let codes = map type_code kinds in
    let flat = flat_map metadata kinds in
    let size = length flat in
    let w = length is.count in
    let v = length is.metadata_length in
    let r_null = is.nullable ++ is.ignored in
    let r_flat = flat ++ r_null in
    let r_measure = is.metadata_length ++ r_flat in
    let r_codes = codes ++ r_measure in
    let body : drop at bytes ≡ is.count ++ r_codes = is.bytes_are ∙ right_6 is.count codes is.metadata_length flat is.nullable is.ignored in
    let codes_long : length codes ≡ n = length-map kinds type_code in
    let some = some_bytes n is.count is.counted in
    let nulls : length is.nullable ≡ bitmap_size n = is.nullable_length in
    let left : length bytes - at ≡ w + (n + (v + (size + (bitmap_size n + length is.ignored)))) =
    omega (arith, ap length body, length-drop at bytes, length-append is.count r_codes, length-append codes r_measure, codes_long, length-append is.metadata_length r_flat, length-append flat r_null, length-append is.nullable is.ignored, nulls) in
    let within : at ≤ length bytes = omega (arith, left, some) in
    let long : at + w + n ≤ length bytes = omega (arith, left, within) in
    let start_there : at + w + n + v ≤ length bytes = omega (arith, left, within) in
    let fits : at + w + n + v + size ≤ length bytes = omega (arith, left, within) in
    let enough : at + w + n + v + size + bitmap_size n ≤ length bytes = omega (arith, left, within) in
    let c1 = counted n is.count r_codes bytes at is.counted body in
    let d1 : drop (at + w) bytes ≡ r_codes = sym (drop_drop at w bytes) ∙ ap (drop w) body ∙ drop_front is.count r_codes in
    let d2 : drop (at + w + n) bytes ≡ r_measure = sym (drop_drop (at + w) n bytes) ∙ ap (drop n) d1 ∙ drop_at codes r_measure n codes_long in
    let c2 = counted size is.metadata_length r_flat bytes (at + w + n) is.measured d2 in
    let d3 : drop (at + w + n + v) bytes ≡ r_flat = sym (drop_drop (at + w + n) v bytes) ∙ ap (drop v) d2 ∙ drop_front is.metadata_length r_flat in
    let codes_are : take n (drop (at + w) bytes) ≡ codes = ap (take n) d1 ∙ take_at codes r_measure n codes_long in
    let opened : Opened bytes at n w codes size = record { n_is = sym c1.1; w_is = sym c1.0; codes_are = sym codes_are; size_is = sym (sum_back kinds) } in
    let counts : Counts bytes at n w codes size = record { opened = opened; l1 = count_not_refused n is.count r_codes bytes at Columns within is.counted body; some = is.number.0; few = is.number.1 } in
    let measured : Measured bytes at n w size v codes size = record {
      counts = counts;
      long = long;
      l4 = all_read kinds (at + w);
      l5 = count_not_refused size is.metadata_length r_flat bytes (at + w + n) Metadata long is.measured d2;
      m_is = sym c2.1;
      v_is = sym c2.0;
    } in
    let all_codes : codes_at bytes at ≡ codes = (λ i. take (c1.1 i) (drop (at + c1.0 i) bytes)) ∙ codes_are in
    let start : metadata_place bytes at ≡ at + w + n + v = (λ i. at + c1.0 i + c1.1 i + count_width bytes (at + c1.0 i + c1.1 i)) ∙ ap (λ k. at + w + n + k) c2.0 in
    let stands : drop (metadata_place bytes at) bytes ≡ r_flat = ap (λ k. drop k bytes) start ∙ d3 in
    record {
      fault = no_line bytes at n w size v codes size measured refl fits (all_sound kinds bytes (at + w + n + v) r_null is.lawful start_there d3) enough;
      columns = (λ i. columns_of (all_codes i) (stands i)) ∙ columns_back kinds r_null is.lawful;
    }

pub one_columns : (a b : List ColumnKind) (bytes : List ℕ) → AreColumns a bytes → AreColumns b bytes → a ≡ b
one_columns a b bytes is_a is_b = sym (columns_reported a bytes 0 is_a).columns ∙ (columns_reported b bytes 0 is_b).columns

pub columns_not_refused : (columns : List ColumnKind) (bytes : List ℕ) (at : ℕ) → AreColumns columns (drop at bytes) → columns_fault bytes at ≡ None
columns_not_refused columns bytes at is = (columns_reported columns bytes at is).fault

pub not_both : (kinds : List ColumnKind) (bytes : List ℕ) (at : ℕ) (fault : EventFault) → AreColumns kinds (drop at bytes) → columns_fault bytes at ≡ Some fault → ⊥
not_both kinds bytes at fault is is_fault = let none = columns_not_refused kinds bytes at is in absurd cc

-- ---- Types into a vector.

pub one_more : (types : List ColumnType) (t : ColumnType) (left rest self : List ColumnKind) → kinds types ++ left ≡ self → left ≡ t.kind ∷ rest → kinds (types ++ t ∷ []) ++ rest ≡ self
one_more types t left rest self so_far first =
    ap (λ l. l ++ rest) (map-append (λ (t : ColumnType). t.kind) types (t ∷ [])) ∙ append_assoc (kinds types) (t.kind ∷ []) rest ∙ ap (λ l. kinds types ++ l) (sym first) ∙ so_far

pub no_more : (types : List ColumnType) (left self : List ColumnKind) → kinds types ++ left ≡ self → left ≡ [] → kinds types ≡ self
no_more types left self so_far none = sym (append-nil (kinds types)) ∙ ap (λ l. kinds types ++ l) (sym none) ∙ so_far
