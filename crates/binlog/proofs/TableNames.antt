-- The names of table maps, by the whole event.
use Rattle.binlog.proofs.Names.{◌≡◌, ℕ, suc, ◌+◌, ◌-◌, ◌<◌, ◌≤◌, List, ◌∷◌, ◌++◌, length, get_or, take, None, refl, sym, ap, ◌∙◌, arith, le-ltb, length-drop, length-take, get_or-drop, take_at, little_bytes, little_number, little_number-reads_back, little_from-lt, needs, number_at, IsNamed, terminator_place, IsBytes, first_left, drop_drop, drop_front}
use Rattle.std.proofs.Common.{drop}
use Rattle.binlog.specs.Table.{table_place, named_schema, named_table, names_fault}
use Rattle.binlog.specs.Columns.{HasNames}
use Rattle.binlog.proofs.Tables.{passes, is_there}
use Rattle.wire.proofs.Cuts.{number_at_front, cut, one, after, right_5}

-- a byte at an offset, and what follows it
pub one_at : (n m : ℕ) (xs : List ℕ) → m ≡ suc n → n < length xs → drop n xs ≡ get_or xs n 0 ∷ drop m xs
one_at n m xs next short = one n xs short ∙ ap (λ k. get_or xs n 0 ∷ drop k xs) (sym next)

-- ---- The names in the bytes.

pub is_named : (bytes : List ℕ) → IsBytes bytes → terminator_place bytes + 1 ≤ length bytes →
    IsNamed (number_at 6 bytes 19) (named_schema bytes) (named_table bytes) (drop (terminator_place bytes + 1) bytes) (drop 19 bytes)
is_named bytes fits long =
    let sc = get_or bytes 27 0 in
    let tl = get_or bytes (table_place bytes - 1) 0 in
    let schema = take sc (drop 28 bytes) in
    let table = take tl (drop (table_place bytes) bytes) in
    let rest = drop (terminator_place bytes + 1) bytes in
    let from_19 : IsBytes (drop 19 bytes) = λ i. rw get_or-drop (fits (19 + i)) in
    let schema_long : sc ≡ length schema = omega (arith, long, length-take sc (drop 28 bytes), length-drop 28 bytes) in
    let table_long : tl ≡ length table = omega (arith, long, length-take tl (drop (table_place bytes) bytes), length-drop (table_place bytes) bytes) in
    let second = get_or bytes (terminator_place bytes) 0 in
    let c5 : drop (terminator_place bytes) bytes ≡ second ∷ rest = one_at (terminator_place bytes) (terminator_place bytes + 1) bytes (omega arith) (omega (arith, long)) in
    let c4 : drop (table_place bytes) bytes ≡ table ++ second ∷ rest = cut (table_place bytes) tl bytes ∙ ap (λ t. table ++ t) c5 in
    let c3 : drop (table_place bytes - 1) bytes ≡ length table ∷ (table ++ second ∷ rest) =
    one_at (table_place bytes - 1) (table_place bytes) bytes (omega arith) (omega (arith, long)) ∙ (λ i. table_long i ∷ c4 i) in
    let first = get_or bytes (28 + sc) 0 in
    let c2 : drop (28 + sc) bytes ≡ first ∷ length table ∷ (table ++ second ∷ rest) =
    one_at (28 + sc) (table_place bytes - 1) bytes (omega arith) (omega (arith, long)) ∙ ap (λ t. first ∷ t) c3 in
    let c28 = cut 28 sc bytes ∙ ap (λ t. schema ++ t) c2 in
    let c27 : drop 27 bytes ≡ length schema ∷ (schema ++ first ∷ length table ∷ (table ++ second ∷ rest)) = one 27 bytes (omega (arith, long)) ∙ (λ i. schema_long i ∷ c28 i) in
    let c25 = cut 25 2 bytes ∙ ap (λ t. take 2 (drop 25 bytes) ++ t) c27 in
    let enough : 6 ≤ length (drop 19 bytes) = omega (arith, long, length-drop 19 bytes) in
    let c19 = number_at_front 6 (drop 19 bytes) enough from_19 ∙ ap (λ t. little_bytes 6 (number_at 6 bytes 19) ++ t) (drop_drop 19 6 bytes ∙ c25) in
    record {
      flags = take 2 (drop 25 bytes);
      first_terminator = first;
      second_terminator = second;
      body_is = c19 ∙ sym (right_5 (little_bytes 6 (number_at 6 bytes 19)) (take 2 (drop 25 bytes)) (length schema ∷ schema) (first ∷ length table ∷ table) (second ∷ rest));
      an_id = little_from-lt 0 6 (drop 19 bytes) from_19;
      sizes = (
        omega (arith, long, length-take 2 (drop 25 bytes), length-drop 25 bytes),
        omega (arith, fits 27, schema_long),
        omega (arith, fits (table_place bytes - 1), table_long),
      );
    }

-- ---- Names are determined by their bytes,

pub record ReportedNames (id : ℕ) (schema table rest bytes : List ℕ) : Type 0 where
  pub long : terminator_place bytes + 1 ≤ length bytes
  pub id_is : number_at 6 bytes 19 ≡ id
  pub schema_is : named_schema bytes ≡ schema
  pub table_is : named_table bytes ≡ table
  pub rest_is : drop (terminator_place bytes + 1) bytes ≡ rest

pub names_reported : (id : ℕ) (schema table rest bytes : List ℕ) → IsNamed id schema table rest (drop 19 bytes) → ReportedNames id schema table rest bytes
names_reported id schema table rest bytes is =
    let r_end = is.second_terminator ∷ rest in
    let r_table = table ++ r_end in
    let r_length = length table ∷ r_table in
    let r_first = is.first_terminator ∷ r_length in
    let r28 = schema ++ r_first in
    let r27 = length schema ∷ r28 in
    let r25 = is.flags ++ r27 in
    let body : drop 19 bytes ≡ little_bytes 6 id ++ r25 = is.body_is ∙ right_5 (little_bytes 6 id) is.flags (length schema ∷ schema) (is.first_terminator ∷ length table ∷ table) r_end in
    let d25 : drop 25 bytes ≡ r25 = sym (drop_drop 19 6 bytes) ∙ ap (drop 6) body in
    let d27 : drop 27 bytes ≡ r27 = sym (drop_drop 25 2 bytes) ∙ ap (drop 2) d25 ∙ after 2 0 is.flags r27 is.sizes.0 in
    let d28 : drop 28 bytes ≡ r28 = sym (drop_drop 27 1 bytes) ∙ ap (drop 1) d27 in
    let sc : get_or bytes 27 0 ≡ length schema = first_left 27 (length schema) bytes r28 d27 in
    let p = 28 + length schema in
    let dp : drop p bytes ≡ r_first = sym (drop_drop 28 (length schema) bytes) ∙ ap (drop (length schema)) d28 ∙ drop_front schema r_first in
    let dp1 : drop (p + 1) bytes ≡ r_length = sym (drop_drop p 1 bytes) ∙ ap (drop 1) dp in
    let dp2 : drop (p + 1 + 1) bytes ≡ r_table = sym (drop_drop (p + 1) 1 bytes) ∙ ap (drop 1) dp1 in
    let place : table_place bytes ≡ p + 1 + 1 = omega (arith, sc) in
    let before : table_place bytes - 1 ≡ p + 1 = omega (arith, sc) in
    let d_table : drop (table_place bytes) bytes ≡ r_table = ap (λ k. drop k bytes) place ∙ dp2 in
    let tl : get_or bytes (table_place bytes - 1) 0 ≡ length table = ap (λ k. get_or bytes k 0) before ∙ first_left (p + 1) (length table) bytes r_table dp1 in
    let d_end : drop (terminator_place bytes) bytes ≡ r_end =
    ap (λ n. drop (table_place bytes + n) bytes) tl ∙ sym (drop_drop (table_place bytes) (length table) bytes) ∙ ap (drop (length table)) d_table ∙ drop_front table r_end in
    record {
      long = omega (arith, ap length d_end, length-drop (terminator_place bytes) bytes);
      id_is = ap (little_number 6) body ∙ little_number-reads_back 6 id r25 (omega (arith, is.an_id));
      schema_is = (λ i. take (sc i) (d28 i)) ∙ take_at schema r_first (length schema) refl;
      table_is = (λ i. take (tl i) (d_table i)) ∙ take_at table r_end (length table) refl;
      rest_is = sym (drop_drop (terminator_place bytes) 1 bytes) ∙ ap (drop 1) d_end;
    }

pub one_name : (id id' : ℕ) (schema schema' table table' rest rest' bytes : List ℕ) → IsNamed id schema table rest (drop 19 bytes) → IsNamed id' schema' table' rest' (drop 19 bytes) →
    (id ≡ id') × (schema ≡ schema') × (table ≡ table') × (rest ≡ rest')
one_name id id' schema schema' table table' rest rest' bytes is is' =
    let t = names_reported id schema table rest bytes is in
    let t' = names_reported id' schema' table' rest' bytes is' in
    (sym t.id_is ∙ t'.id_is, sym t.schema_is ∙ t'.schema_is, sym t.table_is ∙ t'.table_is, sym t.rest_is ∙ t'.rest_is)

-- and have no fault.

pub names_stand : (bytes : List ℕ) → terminator_place bytes + 1 ≤ length bytes → names_fault bytes ≡ None
unfolding names_fault
names_stand bytes long =
    let h25 : 25 ≤ length bytes = omega (arith, long) in
    let h27 : 27 ≤ length bytes = omega (arith, long) in
    let h28 : 28 ≤ length bytes = omega (arith, long) in
    let schema : 28 + get_or bytes 27 0 ≤ length bytes = omega (arith, long) in
    let first : table_place bytes - 2 + 1 ≤ length bytes = omega (arith, long) in
    let size : table_place bytes - 1 + 1 ≤ length bytes = omega (arith, long) in
    let table : terminator_place bytes ≤ length bytes = omega (arith, long) in
    rw (le-ltb _ _ h25, le-ltb _ _ h27, le-ltb _ _ h28, le-ltb _ _ schema, le-ltb _ _ first, le-ltb _ _ size, le-ltb _ _ table, le-ltb _ _ long) refl

pub names_not_refused : (id : ℕ) (schema table rest bytes : List ℕ) → IsNamed id schema table rest (drop 19 bytes) → names_fault bytes ≡ None
names_not_refused id schema table rest bytes is = names_stand bytes (names_reported id schema table rest bytes is).long

-- Bytes without a fault have names.
pub has_names : (bytes : List ℕ) → IsBytes bytes → names_fault bytes ≡ None → HasNames (drop 19 bytes)
unfolding names_fault
has_names bytes fits none =
    let place = table_place bytes in
    let p1 = passes (needs bytes 19 6) _ none in
    let p2 = passes (needs bytes 25 2) _ p1.1 in
    let p3 = passes (needs bytes 27 1) _ p2.1 in
    let p4 = passes (needs bytes 28 (get_or bytes 27 0)) _ p3.1 in
    let p5 = passes (needs bytes (place - 2) 1) _ p4.1 in
    let p6 = passes (needs bytes (place - 1) 1) _ p5.1 in
    let p7 = passes (needs bytes place (get_or bytes (place - 1) 0)) _ p6.1 in
    let p8 = passes (needs bytes (terminator_place bytes) 1) _ p7.1 in
    record {
      id = number_at 6 bytes 19;
      schema = named_schema bytes;
      table = named_table bytes;
      rest = drop (terminator_place bytes + 1) bytes;
      named = is_named bytes fits (is_there bytes (terminator_place bytes) 1 p8.0);
    }

-- ---- The names as the code finds them: the schema's length and the table's.

pub record Found (bytes : List ℕ) (s t : ℕ) : Type 0 where
  pub schema : take (28 + s - 28) (drop 28 bytes) ≡ named_schema bytes
  pub table : take (28 + s + 2 + t - (28 + s + 2)) (drop (28 + s + 2) bytes) ≡ named_table bytes
  pub end : 28 + s + 2 + t + 1 ≡ terminator_place bytes + 1

pub found : (bytes : List ℕ) (s t : ℕ) → s ≡ get_or bytes 27 0 → t ≡ get_or bytes (28 + s + 1) 0 → Found bytes s t
found bytes s t is_s is_t =
    let place : 28 + s + 2 ≡ table_place bytes = omega (arith, is_s) in
    let before : 28 + s + 1 ≡ table_place bytes - 1 = omega (arith, is_s) in
    let tl : t ≡ get_or bytes (table_place bytes - 1) 0 = is_t ∙ ap (λ k. get_or bytes k 0) before in
    let n : 28 + s - 28 ≡ get_or bytes 27 0 = omega (arith, is_s) in
    let m : 28 + s + 2 + t - (28 + s + 2) ≡ get_or bytes (table_place bytes - 1) 0 = omega (arith, tl) in
    record {
      schema = ap (λ k. take k (drop 28 bytes)) n;
      table = λ i. take (m i) (drop (place i) bytes);
      end = omega (arith, place, tl);
    }
