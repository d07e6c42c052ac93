-- Bodies of events, by the whole event.
use Rattle.binlog.proofs.Names.{◌≡◌, ℕ, suc, ◌+◌, ◌-◌, ◌<◌, ◌≤◌, ◌^◌, true, List, ◌∷◌, ◌++◌, length, get_or, take, codes, None, refl, sym, ap, ◌∙◌, append_assoc, arith, length-append, length-drop, length-take, take_at, le-ltb, little_bytes, little_number, little_number-reads_back, little_from-lt, IsGtidBody, IsQuery, text_place, Query, Begin, Commit, number_at, IsBytes, IsBytes-drop, first_left, drop_drop, drop_at}
use Rattle.std.proofs.Common.{drop}
use Rattle.binlog.specs.Body.{statement, is_statement, query_fault}
use Rattle.wire.proofs.Cuts.{number_at_front, cut, one, after, right_7}

-- a number at 19, and what follows it
pub long_number : (bytes : List ℕ) → IsBytes bytes → 27 ≤ length bytes → drop 19 bytes ≡ little_bytes 8 (little_number 8 (drop 19 bytes)) ++ drop 27 bytes
long_number bytes fits long =
    let enough : 8 ≤ length (drop 19 bytes) = omega (arith, long, length-drop 19 bytes) in
    number_at_front 8 (drop 19 bytes) enough (IsBytes-drop 19 bytes fits) ∙ ap (λ t. little_bytes 8 (little_number 8 (drop 19 bytes)) ++ t) (drop_drop 19 8 bytes)

-- ---- Identifiers.

pub is_gtid : (bytes : List ℕ) → IsBytes bytes → 44 ≤ length bytes → 1 ≤ little_number 8 (drop 36 bytes) → little_number 8 (drop 36 bytes) ≤ 2 ^ 63 - 2 → IsGtidBody (take 16 (drop 20 bytes)) (little_number 8 (drop 36 bytes)) (drop 19 bytes)
is_gtid bytes fits long low high =
    let enough : 8 ≤ length (drop 36 bytes) = omega (arith, long, length-drop 36 bytes) in
    let c36 = number_at_front 8 (drop 36 bytes) enough (IsBytes-drop 36 bytes fits) in
    let c20 = cut 20 16 bytes ∙ ap (λ t. take 16 (drop 20 bytes) ++ t) c36 in
    record {
      flags = get_or bytes 19 0;
      ignored = drop 8 (drop 36 bytes);
      body_is = one 19 bytes (omega (arith, long)) ∙ ap (λ t. get_or bytes 19 0 ∷ t) c20
          ∙ sym (append_assoc (get_or bytes 19 0 ∷ take 16 (drop 20 bytes)) (little_bytes 8 (little_number 8 (drop 36 bytes))) (drop 8 (drop 36 bytes)));
      source_length = omega (arith, long, length-take 16 (drop 20 bytes), length-drop 20 bytes);
      in_range = (low, high);
    }

pub record ReportedGtid (source : List ℕ) (number : ℕ) (bytes : List ℕ) : Type 0 where
  pub source_is : take 16 (drop 20 bytes) ≡ source
  pub number_is : little_number 8 (drop 36 bytes) ≡ number

pub gtid_reported : (source : List ℕ) (number : ℕ) (bytes : List ℕ) → IsGtidBody source number (drop 19 bytes) → ReportedGtid source number bytes
gtid_reported source number bytes is =
    let rest = little_bytes 8 number ++ is.ignored in
    let body : drop 19 bytes ≡ is.flags ∷ (source ++ rest) = is.body_is ∙ append_assoc (is.flags ∷ source) (little_bytes 8 number) is.ignored in
    let d20 : drop 20 bytes ≡ source ++ rest = sym (drop_drop 19 1 bytes) ∙ ap (drop 1) body in
    let d36 : drop 36 bytes ≡ rest = sym (drop_drop 20 16 bytes) ∙ ap (drop 16) d20 ∙ drop_at source rest 16 is.source_length in
    record {
      source_is = ap (take 16) d20 ∙ take_at source rest 16 is.source_length;
      number_is = ap (little_number 8) d36 ∙ little_number-reads_back 8 number is.ignored (omega (arith, is.in_range.1));
    }

-- ---- Queries.

pub is_query : (bytes : List ℕ) → IsBytes bytes → text_place bytes ≤ length bytes → IsQuery (drop (text_place bytes) bytes) (drop 19 bytes)
is_query bytes fits long =
    let st = number_at 2 bytes 30 in
    let sc = get_or bytes 27 0 in
    let status = take st (drop 32 bytes) in
    let schema = take sc (drop (32 + st) bytes) in
    let text = drop (text_place bytes) bytes in
    let status_long : st ≡ length status = omega (arith, long, length-take st (drop 32 bytes), length-drop 32 bytes) in
    let schema_long : sc ≡ length schema = omega (arith, long, length-take sc (drop (32 + st) bytes), length-drop (32 + st) bytes) in
    let small : st < 2 ^ 16 = little_from-lt 0 2 (drop 30 bytes) (IsBytes-drop 30 bytes fits) in
    let ending : suc (32 + st + sc) ≡ text_place bytes = omega arith in
    let c4 : drop (32 + st + sc) bytes ≡ get_or bytes (32 + st + sc) 0 ∷ text = one (32 + st + sc) bytes (omega (arith, long)) ∙ ap (λ k. get_or bytes (32 + st + sc) 0 ∷ drop k bytes) ending in
    let c3 = cut (32 + st) sc bytes ∙ ap (λ t. schema ++ t) c4 in
    let c32 = cut 32 st bytes ∙ ap (λ t. status ++ t) c3 in
    let enough : 2 ≤ length (drop 30 bytes) = omega (arith, long, length-drop 30 bytes) in
    let c30 : drop 30 bytes ≡ little_bytes 2 (length status) ++ (status ++ (schema ++ (get_or bytes (32 + st + sc) 0 ∷ text))) =
    number_at_front 2 (drop 30 bytes) enough (IsBytes-drop 30 bytes fits) ∙ (λ i. little_bytes 2 (status_long i) ++ drop_drop 30 2 bytes i) ∙ ap (λ t. little_bytes 2 (length status) ++ t) c32 in
    let c28 = cut 28 2 bytes ∙ ap (λ t. take 2 (drop 28 bytes) ++ t) c30 in
    let c27 : drop 27 bytes ≡ length schema ∷ (take 2 (drop 28 bytes) ++ (little_bytes 2 (length status) ++ (status ++ (schema ++ (get_or bytes (32 + st + sc) 0 ∷ text))))) =
    one 27 bytes (omega (arith, long)) ∙ (λ i. schema_long i ∷ c28 i) in
    let c23 = cut 23 4 bytes ∙ ap (λ t. take 4 (drop 23 bytes) ++ t) c27 in
    let c19 = cut 19 4 bytes ∙ ap (λ t. take 4 (drop 19 bytes) ++ t) c23 in
    record {
      thread = take 4 (drop 19 bytes);
      time = take 4 (drop 23 bytes);
      error = take 2 (drop 28 bytes);
      status = status;
      schema = schema;
      terminator = get_or bytes (32 + st + sc) 0;
      body_is = c19
          ∙ sym (right_7 (take 4 (drop 19 bytes)) (take 4 (drop 23 bytes)) (length schema ∷ take 2 (drop 28 bytes)) (little_bytes 2 (length status)) status schema (get_or bytes (32 + st + sc) 0 ∷ text));
      sizes = (
        omega (arith, long, length-take 4 (drop 19 bytes), length-drop 19 bytes),
        omega (arith, long, length-take 4 (drop 23 bytes), length-drop 23 bytes),
        omega (arith, long, length-take 2 (drop 28 bytes), length-drop 28 bytes),
        omega (arith, small, status_long),
        omega (arith, fits 27, schema_long),
      );
    }

pub record ReportedQuery (text bytes : List ℕ) : Type 0 where
  pub long : text_place bytes ≤ length bytes
  pub text_is : drop (text_place bytes) bytes ≡ text

pub query_reported : (text bytes : List ℕ) → IsQuery text (drop 19 bytes) → ReportedQuery text bytes
query_reported text bytes is =
    let r5 = is.terminator ∷ text in
    let r4 = is.schema ++ r5 in
    let r3 = is.status ++ r4 in
    let r2 = little_bytes 2 (length is.status) ++ r3 in
    let r1 = is.error ++ r2 in
    let r0 = length is.schema ∷ r1 in
    let t0 = is.time ++ r0 in
    let body : drop 19 bytes ≡ is.thread ++ t0 = is.body_is ∙ right_7 is.thread is.time (length is.schema ∷ is.error) (little_bytes 2 (length is.status)) is.status is.schema r5 in
    let d23 : drop 23 bytes ≡ t0 = sym (drop_drop 19 4 bytes) ∙ ap (drop 4) body ∙ after 4 0 is.thread t0 is.sizes.0 in
    let d27 : drop 27 bytes ≡ r0 = sym (drop_drop 23 4 bytes) ∙ ap (drop 4) d23 ∙ after 4 0 is.time r0 is.sizes.1 in
    let d28 : drop 28 bytes ≡ r1 = sym (drop_drop 27 1 bytes) ∙ ap (drop 1) d27 in
    let d30 : drop 30 bytes ≡ r2 = sym (drop_drop 28 2 bytes) ∙ ap (drop 2) d28 ∙ after 2 0 is.error r2 is.sizes.2 in
    let d32 : drop 32 bytes ≡ r3 = sym (drop_drop 30 2 bytes) ∙ ap (drop 2) d30 in
    let sc : get_or bytes 27 0 ≡ length is.schema = first_left 27 (length is.schema) bytes r1 d27 in
    let st : number_at 2 bytes 30 ≡ length is.status = ap (little_number 2) d30 ∙ little_number-reads_back 2 (length is.status) r3 (omega (arith, is.sizes.3)) in
    let place : text_place bytes ≡ 32 + (length is.status + (length is.schema + 1)) = omega (arith, sc, st) in
    let at_text : drop (length is.status + (length is.schema + 1)) r3 ≡ text = after (length is.status) (length is.schema + 1) is.status r4 refl ∙ after (length is.schema) 1 is.schema r5 refl in
    record {
      long = omega (arith, place, ap length d32, length-drop 32 bytes, length-append is.status r4, length-append is.schema r5);
      text_is = ap (λ k. drop k bytes) place ∙ sym (drop_drop 32 (length is.status + (length is.schema + 1)) bytes) ∙ ap (drop (length is.status + (length is.schema + 1))) d32 ∙ at_text;
    }

pub query_not_refused : (query : Query) (bytes : List ℕ) → IsQuery (statement query) (drop 19 bytes) → query_fault bytes ≡ None
unfolding query_fault
query_not_refused query bytes is =
    let t = query_reported (statement query) bytes is in
    let st = number_at 2 bytes 30 in
    let sc = get_or bytes 27 0 in
    let h23 : 23 ≤ length bytes = omega (arith, t.long) in
    let h27 : 27 ≤ length bytes = omega (arith, t.long) in
    let h28 : 28 ≤ length bytes = omega (arith, t.long) in
    let h30 : 30 ≤ length bytes = omega (arith, t.long) in
    let h32 : 32 ≤ length bytes = omega (arith, t.long) in
    let hst : 32 + st ≤ length bytes = omega (arith, t.long) in
    let hsc : 32 + st + sc ≤ length bytes = omega (arith, t.long) in
    let read : is_statement (drop (text_place bytes) bytes) ≡ true = ap is_statement t.text_is ∙ is_one query in
    rw (le-ltb _ _ h23, le-ltb _ _ h27, le-ltb _ _ h28, le-ltb _ _ h30, le-ltb _ _ h32, le-ltb _ _ hst, le-ltb _ _ hsc, le-ltb _ _ t.long, read) refl
  where
    is_one : (query : Query) → is_statement (statement query) ≡ true
    is_one Begin = refl
    is_one Commit = refl

-- the statements are apart
pub begin_alone : (query : Query) → statement query ≡ codes "BEGIN" → Begin ≡ query
begin_alone Begin is = refl
begin_alone Commit is = absurd (omega (arith, ap length is))

pub commit_alone : (query : Query) → statement query ≡ codes "COMMIT" → Commit ≡ query
commit_alone Begin is = absurd (omega (arith, ap length is))
commit_alone Commit is = refl

pub no_other : (query : Query) → (statement query ≡ codes "BEGIN" → ⊥) → (statement query ≡ codes "COMMIT" → ⊥) → ⊥
no_other Begin begin commit = begin refl
no_other Commit begin commit = commit refl
