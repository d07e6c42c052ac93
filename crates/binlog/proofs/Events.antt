-- Events: bytes are one or are refused, and what they say is determined.
use Rattle.binlog.proofs.Names.{◌≡◌, ℕ, ◌+◌, ◌==◌, ◌&&◌, Bool, true, false, List, [], ◌∷◌, get_or, take, codes, Option, Some, None, refl, sym, ap, subst, ◌∙◌, inl, inr, nat_le, bytes_eq, cases_eq, cases_Bool, ne_eqb, false≢true, none-some, refuse, number_at, IsFramed, IsQuery, text_place, TableValue, IsNamed, AreColumns, terminator_place, columns_at, RowsValue, is_read, Query, Begin, Commit, RowsKind, Write, Update, Delete, EventFault, IsBytes}
use Rattle.std.proofs.Common.{drop}
use Rattle.std.specs.Prelude.{not, if◌then◌else◌, Result, Ok, Err, IfOk, IfErr, MatchResult}
use Rattle.std.proofs.lemmas.Bool.{or_parts}
use Rattle.binlog.specs.Fault.{first_of}
use Rattle.binlog.specs.Header.{HasFrame, header_fault}
use Rattle.binlog.specs.Body.{statement}
use Rattle.binlog.specs.Table.{names_fault, columns_fault, named_schema, named_table}
use Rattle.binlog.specs.Rows.{rows_code, rows_fault}
use Rattle.binlog.specs.Filter.{Names}
use Rattle.binlog.specs.Event.{EventValue, format, begin, commit, neutral, stop, rotate, gtid, table_map, other_map, rows, xid, is_one_of, neutral_codes, refused_codes, known_codes, IsNeutral, HasBody, IsEvent, HasEvent, code_of, may_ignore_of, type_fault, table_map_fault, body_fault, event_fault}
use Rattle.binlog.specs.declared.fault.EventFaultKind.TheVariants.{TypeCode, Anonymous}
use Rattle.binlog.proofs.Tables.{passes, not_refused}
use Rattle.binlog.proofs.Headers as headers
use Rattle.binlog.proofs.Bodies.{gtid_reported, query_reported, query_not_refused}
use Rattle.binlog.proofs.BodyLaws.{format_not_refused, format_some, rotate_not_refused, rotate_some, rotate_one, xid_not_refused, xid_some, xid_one, gtid_not_refused, gtid_some, query_some}
use Rattle.binlog.proofs.TableNames.{names_reported, names_not_refused, has_names}
use Rattle.binlog.proofs.WholeColumns.{columns_reported, columns_not_refused, has_columns}
use Rattle.binlog.proofs.RowsHead.{stated, parts_of, is_rows, rows_reported, rows_not_refused}

-- ---- Types that are not read.

record NotRead (code : ℕ) : Type 0 where
  n2 : (code == 2) ≡ false
  n3 : (code == 3) ≡ false
  n4 : (code == 4) ≡ false
  n15 : (code == 15) ≡ false
  n16 : (code == 16) ≡ false
  n19 : (code == 19) ≡ false
  n30 : (code == 30) ≡ false
  n31 : (code == 31) ≡ false
  n32 : (code == 32) ≡ false
  n33 : (code == 33) ≡ false

record Unknown (code : ℕ) : Type 0 where
  not_read : NotRead code
  n34 : (code == 34) ≡ false
  n38 : (code == 38) ≡ false
  n39 : (code == 39) ≡ false
  n40 : (code == 40) ≡ false

unknown : (code : ℕ) → is_one_of known_codes code ≡ false → Unknown code
unknown code is =
    let a2 = or_parts (code == 2) _ is in
    let a3 = or_parts (code == 3) _ a2.1 in
    let a4 = or_parts (code == 4) _ a3.1 in
    let a15 = or_parts (code == 15) _ a4.1 in
    let a16 = or_parts (code == 16) _ a15.1 in
    let a19 = or_parts (code == 19) _ a16.1 in
    let a27 = or_parts (code == 27) _ a19.1 in
    let a28 = or_parts (code == 28) _ a27.1 in
    let a29 = or_parts (code == 29) _ a28.1 in
    let a30 = or_parts (code == 30) _ a29.1 in
    let a31 = or_parts (code == 31) _ a30.1 in
    let a32 = or_parts (code == 32) _ a31.1 in
    let a33 = or_parts (code == 33) _ a32.1 in
    let a34 = or_parts (code == 34) _ a33.1 in
    let a35 = or_parts (code == 35) _ a34.1 in
    let a38 = or_parts (code == 38) _ a35.1 in
    let a39 = or_parts (code == 39) _ a38.1 in
    let a40 = or_parts (code == 40) _ a39.1 in
    record {
      not_read = record { n2 = a2.0; n3 = a3.0; n4 = a4.0; n15 = a15.0; n16 = a16.0; n19 = a19.0; n30 = a30.0; n31 = a31.0; n32 = a32.0; n33 = a33.0 };
      n34 = a34.0;
      n38 = a38.0;
      n39 = a39.0;
      n40 = a40.0;
    }

-- what holds of each neutral type
of_each : (P : ℕ → Type 0) → P 27 → P 28 → P 29 → P 35 → (code : ℕ) → is_one_of neutral_codes code ≡ true → P code
of_each P p27 p28 p29 p35 code is =
    elim (cases_eq code 27) as (λ _. P code) [
      | inl e ↦ subst P (sym e) p27
      | inr n27 ↦ elim (cases_eq code 28) as (λ _. P code) [
        | inl e ↦ subst P (sym e) p28
        | inr n28 ↦ elim (cases_eq code 29) as (λ _. P code) [
          | inl e ↦ subst P (sym e) p29
          | inr n29 ↦ elim (cases_eq code 35) as (λ _. P code) [
            | inl e ↦ subst P (sym e) p35
            | inr n35 ↦
                let none : is_one_of neutral_codes code ≡ false = rw (ne_eqb code 27 n27, ne_eqb code 28 n28, ne_eqb code 29 n29, ne_eqb code 35 n35) refl in
                absurd (false≢true (sym none ∙ is))
          ]
        ]
      ]
    ]

neutral_not_read : (code : ℕ) (may_ignore : Bool) → IsNeutral code may_ignore → NotRead code
neutral_not_read code may_ignore (inl is) = of_each NotRead
    (record { n2 = refl; n3 = refl; n4 = refl; n15 = refl; n16 = refl; n19 = refl; n30 = refl; n31 = refl; n32 = refl; n33 = refl })
    (record { n2 = refl; n3 = refl; n4 = refl; n15 = refl; n16 = refl; n19 = refl; n30 = refl; n31 = refl; n32 = refl; n33 = refl })
    (record { n2 = refl; n3 = refl; n4 = refl; n15 = refl; n16 = refl; n19 = refl; n30 = refl; n31 = refl; n32 = refl; n33 = refl })
    (record { n2 = refl; n3 = refl; n4 = refl; n15 = refl; n16 = refl; n19 = refl; n30 = refl; n31 = refl; n32 = refl; n33 = refl })
    code is
neutral_not_read code may_ignore (inr (is, unkept)) = (unknown code is).not_read

neutral_type : (code : ℕ) (may_ignore : Bool) → IsNeutral code may_ignore → type_fault code may_ignore ≡ None
neutral_type code may_ignore (inl is) = of_each (λ c. type_fault c may_ignore ≡ None) refl refl refl refl code is
neutral_type code may_ignore (inr (is, unkept)) = let u = unknown code is in rw (is, u.n34, u.n38, u.n39, u.n40, unkept) refl

unmarked : (m : Bool) → (true && not m) ≡ false → m ≡ true
unmarked true is = refl
unmarked false is = absurd cc

is_neutral : (code : ℕ) (may_ignore : Bool) → NotRead code → type_fault code may_ignore ≡ None → IsNeutral code may_ignore
is_neutral code may_ignore n none =
    let p1 = passes (refuse (code == 34) Anonymous 4) _ none in
    let p2 = passes (refuse (is_one_of refused_codes code) (TypeCode code) 4) _ p1.1 in
    let p3 = passes (refuse (not (is_one_of known_codes code) && not may_ignore) (TypeCode code) 4) _ p2.1 in
    let n34 = not_refused (code == 34) Anonymous 4 p1.0 in
    let refused = not_refused (is_one_of refused_codes code) (TypeCode code) 4 p2.0 in
    let a38 = or_parts (code == 38) _ refused in
    let a39 = or_parts (code == 39) _ a38.1 in
    let a40 = or_parts (code == 40) _ a39.1 in
    let unknown_marked = not_refused (not (is_one_of known_codes code) && not may_ignore) (TypeCode code) 4 p3.0 in
    elim (cases_Bool (is_one_of known_codes code)) as (λ _. IsNeutral code may_ignore) [
      | inl known ↦
          let same : is_one_of known_codes code ≡ is_one_of neutral_codes code = rw (n.n2, n.n3, n.n4, n.n15, n.n16, n.n19, n.n30, n.n31, n.n32, n.n33, n34, a38.0, a39.0, a40.0) refl in
          inl (sym same ∙ known)
      | inr not_known ↦ inr (not_known, unmarked may_ignore (ap (λ b. not b && not may_ignore) (sym not_known) ∙ unknown_marked))
    ]

-- ---- What the bytes of a type say.

abbrev query_at : List ℕ → EventValue
query_at bytes = if bytes_eq (drop (text_place bytes) bytes) (codes "BEGIN") then begin else commit

abbrev table_at : List ℕ → TableValue
table_at bytes = record { id = number_at 6 bytes 19; schema = named_schema bytes; table = named_table bytes; columns = columns_at bytes (terminator_place bytes + 1) }

abbrev map_at : Names → List ℕ → EventValue
map_at names bytes = if is_read names (named_schema bytes) (named_table bytes) then table_map (table_at bytes) else other_map (number_at 6 bytes 19)

abbrev event_at : Names → List ℕ → ℕ → EventValue
event_at names bytes code =
    if code == 2 then query_at bytes
    else if code == 3 then stop
    else if code == 4 then rotate (number_at 8 bytes 19) (drop 27 bytes)
    else if code == 15 then format
    else if code == 16 then xid (number_at 8 bytes 19)
    else if code == 19 then map_at names bytes
    else if code == 30 then rows (stated Write bytes)
    else if code == 31 then rows (stated Update bytes)
    else if code == 32 then rows (stated Delete bytes)
    else if code == 33 then gtid (take 16 (drop 20 bytes)) (number_at 8 bytes 36)
    else neutral

rows_said : (names : Names) (kind : RowsKind) (r : RowsValue) (code : ℕ) (bytes : List ℕ) → code ≡ rows_code kind → stated kind bytes ≡ r → event_at names bytes code ≡ rows r
rows_said names Write r code bytes is said = ap (event_at names bytes) is ∙ ap rows said
rows_said names Update r code bytes is said = ap (event_at names bytes) is ∙ ap rows said
rows_said names Delete r code bytes is said = ap (event_at names bytes) is ∙ ap rows said

columns_said : (t : TableValue) (rest bytes : List ℕ) → IsNamed t.id t.schema t.table rest (drop 19 bytes) → AreColumns t.columns rest → table_at bytes ≡ t
columns_said t rest bytes named are =
    let n = names_reported t.id t.schema t.table rest bytes named in
    let columns = columns_reported t.columns bytes (terminator_place bytes + 1) (subst (AreColumns t.columns) (sym n.rest_is) are) in
    λ i. record { id = n.id_is i; schema = n.schema_is i; table = n.table_is i; columns = columns.columns i }

said : (names : Names) (e : EventValue) (code : ℕ) (may_ignore : Bool) (bytes : List ℕ) → HasBody names e code may_ignore (drop 19 bytes) → event_at names bytes code ≡ e
said names format code may_ignore bytes (is, body) = ap (event_at names bytes) is
said names begin code may_ignore bytes (is, body) = ap (event_at names bytes) is ∙ ap (λ t. if bytes_eq t (codes "BEGIN") then begin else commit) (query_reported (statement Begin) bytes body).text_is
said names commit code may_ignore bytes (is, body) = ap (event_at names bytes) is ∙ ap (λ t. if bytes_eq t (codes "BEGIN") then begin else commit) (query_reported (statement Commit) bytes body).text_is
said names neutral code may_ignore bytes is = let n = neutral_not_read code may_ignore is in rw (n.n2, n.n3, n.n4, n.n15, n.n16, n.n19, n.n30, n.n31, n.n32, n.n33) refl
said names stop code may_ignore bytes is = ap (event_at names bytes) is
said names (rotate position name) code may_ignore bytes (is, body) = let r = rotate_one position name bytes body in ap (event_at names bytes) is ∙ (λ i. rotate (r.0 i) (r.1 i))
said names (gtid source number) code may_ignore bytes (is, body) = let t = gtid_reported source number bytes body in ap (event_at names bytes) is ∙ (λ i. gtid (t.source_is i) (t.number_is i))
said names (table_map t) code may_ignore bytes (is, body, admitted) =
    let n = names_reported t.id t.schema t.table body.rest bytes body.named in
    let taken : is_read names (named_schema bytes) (named_table bytes) ≡ true = (λ i. is_read names (n.schema_is i) (n.table_is i)) ∙ admitted in
    ap (event_at names bytes) is ∙ ap (λ b. if b then table_map (table_at bytes) else other_map (number_at 6 bytes 19)) taken ∙ ap table_map (columns_said t body.rest bytes body.named body.columns)
said names (other_map id) code may_ignore bytes (is, body) =
    let n = names_reported id body.schema body.table body.rest bytes body.named in
    let left : is_read names (named_schema bytes) (named_table bytes) ≡ false = (λ i. is_read names (n.schema_is i) (n.table_is i)) ∙ body.other in
    ap (event_at names bytes) is ∙ ap (λ b. if b then table_map (table_at bytes) else other_map (number_at 6 bytes 19)) left ∙ ap other_map n.id_is
said names (rows r) code may_ignore bytes (is, body) = rows_said names r.kind r code bytes is (rows_reported r bytes body).is
said names (xid number) code may_ignore bytes (is, body) = ap (event_at names bytes) is ∙ ap xid (xid_one number bytes body)

-- no bytes are two events
pub one_event : (names : Names) (a b : EventValue) (bytes : List ℕ) → IsEvent names a bytes → IsEvent names b bytes → a ≡ b
one_event names a b bytes is also =
    let t = headers.reported is.code is.may_ignore is.body bytes is.framed in
    let t' = headers.reported also.code also.may_ignore also.body bytes also.framed in
    let body = subst (HasBody names a is.code is.may_ignore) t.body_is is.has_body in
    let body' = subst (HasBody names b also.code also.may_ignore) t'.body_is also.has_body in
    sym (said names a is.code is.may_ignore bytes body) ∙ ap (event_at names bytes) (t.code_is ∙ sym t'.code_is) ∙ said names b also.code also.may_ignore bytes body'

-- ---- Events are not refused.

abbrev IsFine : Names → List ℕ → Bool → ℕ → Type 0
IsFine names bytes may_ignore code = (type_fault code may_ignore ≡ None) × (body_fault names code bytes ≡ None)

rows_fine : (names : Names) (kind : RowsKind) (code : ℕ) (may_ignore : Bool) (bytes : List ℕ) → code ≡ rows_code kind → rows_fault kind bytes ≡ None → IsFine names bytes may_ignore code
unfolding body_fault
rows_fine names Write code may_ignore bytes is none = subst (IsFine names bytes may_ignore) (sym is) (refl, none)
rows_fine names Update code may_ignore bytes is none = subst (IsFine names bytes may_ignore) (sym is) (refl, none)
rows_fine names Delete code may_ignore bytes is none = subst (IsFine names bytes may_ignore) (sym is) (refl, none)

map_not_refused : (names : Names) (bytes : List ℕ) (columns : Bool) → names_fault bytes ≡ None → is_read names (named_schema bytes) (named_table bytes) ≡ columns →
    (columns ≡ true → columns_fault bytes (terminator_place bytes + 1) ≡ None) → table_map_fault names bytes ≡ None
unfolding table_map_fault
map_not_refused names bytes true none admitted fine = rw (none, admitted, fine refl) refl
map_not_refused names bytes false none admitted fine = rw (none, admitted) refl

fine : (names : Names) (e : EventValue) (code : ℕ) (may_ignore : Bool) (bytes : List ℕ) → HasBody names e code may_ignore (drop 19 bytes) → IsFine names bytes may_ignore code
unfolding body_fault
fine names format code may_ignore bytes (is, body) = subst (IsFine names bytes may_ignore) (sym is) (refl, format_not_refused bytes body)
fine names begin code may_ignore bytes (is, body) = subst (IsFine names bytes may_ignore) (sym is) (refl, query_not_refused Begin bytes body)
fine names commit code may_ignore bytes (is, body) = subst (IsFine names bytes may_ignore) (sym is) (refl, query_not_refused Commit bytes body)
fine names neutral code may_ignore bytes is = let n = neutral_not_read code may_ignore is in (neutral_type code may_ignore is, rw (n.n2, n.n4, n.n15, n.n16, n.n19, n.n30, n.n31, n.n32, n.n33) refl)
fine names stop code may_ignore bytes is = subst (IsFine names bytes may_ignore) (sym is) (refl, refl)
fine names (rotate position name) code may_ignore bytes (is, body) = subst (IsFine names bytes may_ignore) (sym is) (refl, rotate_not_refused position name bytes body)
fine names (gtid source number) code may_ignore bytes (is, body) = subst (IsFine names bytes may_ignore) (sym is) (refl, gtid_not_refused source number bytes body)
fine names (table_map t) code may_ignore bytes (is, body, admitted) =
    let n = names_reported t.id t.schema t.table body.rest bytes body.named in
    let taken : is_read names (named_schema bytes) (named_table bytes) ≡ true = (λ i. is_read names (n.schema_is i) (n.table_is i)) ∙ admitted in
    let columns = columns_not_refused t.columns bytes (terminator_place bytes + 1) (subst (AreColumns t.columns) (sym n.rest_is) body.columns) in
    subst (IsFine names bytes may_ignore) (sym is) (refl, map_not_refused names bytes true (names_not_refused t.id t.schema t.table body.rest bytes body.named) taken (λ _. columns))
fine names (other_map id) code may_ignore bytes (is, body) =
    let n = names_reported id body.schema body.table body.rest bytes body.named in
    let left : is_read names (named_schema bytes) (named_table bytes) ≡ false = (λ i. is_read names (n.schema_is i) (n.table_is i)) ∙ body.other in
    subst (IsFine names bytes may_ignore) (sym is) (refl, map_not_refused names bytes false (names_not_refused id body.schema body.table body.rest bytes body.named) left (λ no. absurd (false≢true no)))
fine names (rows r) code may_ignore bytes (is, body) = rows_fine names r.kind code may_ignore bytes is (rows_not_refused r.kind bytes (rows_reported r bytes body).are)
fine names (xid number) code may_ignore bytes (is, body) = subst (IsFine names bytes may_ignore) (sym is) (refl, xid_not_refused number bytes body)

-- the faults after a header that is there
pub after_header : (names : Names) (code : ℕ) (may_ignore : Bool) (body bytes : List ℕ) → IsFramed code may_ignore body bytes →
    event_fault names bytes ≡ first_of (type_fault code may_ignore ∷ body_fault names code bytes ∷ [])
unfolding event_fault
after_header names code may_ignore body bytes framed =
    let t = headers.reported code may_ignore body bytes framed in
    (λ i. first_of (headers.no_fault code may_ignore body bytes framed i ∷ type_fault (sym t.code_is i) (sym t.mark_is i) ∷ body_fault names (sym t.code_is i) bytes ∷ []))

pub event_not_refused : (names : Names) (e : EventValue) (bytes : List ℕ) → IsEvent names e bytes → event_fault names bytes ≡ None
event_not_refused names e bytes is =
    let t = headers.reported is.code is.may_ignore is.body bytes is.framed in
    let f = fine names e is.code is.may_ignore bytes (subst (HasBody names e is.code is.may_ignore) t.body_is is.has_body) in
    after_header names is.code is.may_ignore is.body bytes is.framed ∙ (λ i. first_of (f.0 i ∷ f.1 i ∷ []))

-- ---- Bytes without a refusal are an event.

record HasSome (names : Names) (code : ℕ) (may_ignore : Bool) (body : List ℕ) : Type 0 where
  event : EventValue
  has_body : HasBody names event code may_ignore body

some_query : (names : Names) (code : ℕ) (may_ignore : Bool) (bytes : List ℕ) → code ≡ 2 → (query : Query) → IsQuery (statement query) (drop 19 bytes) → HasSome names code may_ignore (drop 19 bytes)
some_query names code may_ignore bytes is Begin body = record { event = begin; has_body = (is, body) }
some_query names code may_ignore bytes is Commit body = record { event = commit; has_body = (is, body) }

some_map : (names : Names) (code : ℕ) (may_ignore : Bool) (bytes : List ℕ) → IsBytes bytes → code ≡ 19 → table_map_fault names bytes ≡ None → HasSome names code may_ignore (drop 19 bytes)
unfolding table_map_fault
some_map names code may_ignore bytes fits is none =
    let p1 = passes (names_fault bytes) _ none in
    let p2 = passes (if is_read names (named_schema bytes) (named_table bytes) then columns_fault bytes (terminator_place bytes + 1) else None) [] p1.1 in
    let h = has_names bytes fits p1.0 in
    let n = names_reported h.id h.schema h.table h.rest bytes h.named in
    elim (cases_Bool (is_read names (named_schema bytes) (named_table bytes))) as (λ _. HasSome names code may_ignore (drop 19 bytes)) [
      | inl taken ↦
          let fine = ap (λ b. if b then columns_fault bytes (terminator_place bytes + 1) else None) (sym taken) ∙ p2.0 in
          let c = has_columns bytes (terminator_place bytes + 1) fits fine in
          record {
            event = table_map (record { id = h.id; schema = h.schema; table = h.table; columns = c.columns });
            has_body = (is, record { rest = h.rest; named = h.named; columns = subst (AreColumns c.columns) n.rest_is c.are_columns }, (λ i. is_read names (sym n.schema_is i) (sym n.table_is i)) ∙ taken);
          }
      | inr left ↦ record {
        event = other_map h.id;
        has_body = (is, record { schema = h.schema; table = h.table; rest = h.rest; named = h.named; other = (λ i. is_read names (sym n.schema_is i) (sym n.table_is i)) ∙ left });
      }
    ]

some_body : (names : Names) (code : ℕ) (may_ignore : Bool) (bytes : List ℕ) → IsBytes bytes → type_fault code may_ignore ≡ None → body_fault names code bytes ≡ None → HasSome names code may_ignore (drop 19 bytes)
unfolding body_fault
some_body names code may_ignore bytes fits typed none =
    let at : (c : ℕ) → code ≡ c → body_fault names c bytes ≡ None = λ c e. subst (λ k. body_fault names k bytes ≡ None) e none in
    elim (cases_eq code 2) as (λ _. HasSome names code may_ignore (drop 19 bytes)) [
      | inl e ↦ (let q = query_some bytes fits (at 2 e) in some_query names code may_ignore bytes e q.query q.is_query)
      | inr n2 ↦ elim (cases_eq code 3) as (λ _. HasSome names code may_ignore (drop 19 bytes)) [
        | inl e ↦ record { event = stop; has_body = e }
        | inr n3 ↦ elim (cases_eq code 4) as (λ _. HasSome names code may_ignore (drop 19 bytes)) [
          | inl e ↦ record { event = rotate (number_at 8 bytes 19) (drop 27 bytes); has_body = (e, rotate_some bytes fits (at 4 e)) }
          | inr n4 ↦ elim (cases_eq code 15) as (λ _. HasSome names code may_ignore (drop 19 bytes)) [
            | inl e ↦ record { event = format; has_body = (e, format_some bytes fits (at 15 e)) }
            | inr n15 ↦ elim (cases_eq code 16) as (λ _. HasSome names code may_ignore (drop 19 bytes)) [
              | inl e ↦ record { event = xid (number_at 8 bytes 19); has_body = (e, xid_some bytes fits (at 16 e)) }
              | inr n16 ↦ elim (cases_eq code 19) as (λ _. HasSome names code may_ignore (drop 19 bytes)) [
                | inl e ↦ some_map names code may_ignore bytes fits e (at 19 e)
                | inr n19 ↦ elim (cases_eq code 30) as (λ _. HasSome names code may_ignore (drop 19 bytes)) [
                  | inl e ↦ record { event = rows (stated Write bytes); has_body = (e, is_rows Write bytes fits (parts_of Write bytes fits (at 30 e))) }
                  | inr n30 ↦ elim (cases_eq code 31) as (λ _. HasSome names code may_ignore (drop 19 bytes)) [
                    | inl e ↦ record { event = rows (stated Update bytes); has_body = (e, is_rows Update bytes fits (parts_of Update bytes fits (at 31 e))) }
                    | inr n31 ↦ elim (cases_eq code 32) as (λ _. HasSome names code may_ignore (drop 19 bytes)) [
                      | inl e ↦ record { event = rows (stated Delete bytes); has_body = (e, is_rows Delete bytes fits (parts_of Delete bytes fits (at 32 e))) }
                      | inr n32 ↦ elim (cases_eq code 33) as (λ _. HasSome names code may_ignore (drop 19 bytes)) [
                        | inl e ↦ record { event = gtid (take 16 (drop 20 bytes)) (number_at 8 bytes 36); has_body = (e, gtid_some bytes fits (at 33 e)) }
                        | inr n33 ↦
                            let n : NotRead code = record { n2 = ne_eqb code 2 n2; n3 = ne_eqb code 3 n3; n4 = ne_eqb code 4 n4; n15 = ne_eqb code 15 n15; n16 = ne_eqb code 16 n16; n19 = ne_eqb code 19 n19; n30 = ne_eqb code 30 n30; n31 = ne_eqb code 31 n31; n32 = ne_eqb code 32 n32; n33 = ne_eqb code 33 n33 } in
                            record { event = neutral; has_body = is_neutral code may_ignore n typed }
                      ]
                    ]
                  ]
                ]
              ]
            ]
          ]
        ]
      ]
    ]

has_body : (names : Names) (bytes : List ℕ) → IsBytes bytes → HasFrame bytes → event_fault names bytes ≡ None → HasEvent names bytes
has_body names bytes fits h none =
    let t = headers.reported h.code h.may_ignore h.body bytes h.framed in
    let p1 = passes (type_fault h.code h.may_ignore) _ (sym (after_header names h.code h.may_ignore h.body bytes h.framed) ∙ none) in
    let p2 = passes (body_fault names h.code bytes) _ p1.1 in
    let s = some_body names h.code h.may_ignore bytes fits p1.0 p2.0 in
    record { event = s.event; is_event = record { code = h.code; may_ignore = h.may_ignore; body = h.body; framed = h.framed; has_body = subst (HasBody names s.event h.code h.may_ignore) (sym t.body_is) s.has_body } }

has_frame : (bytes : List ℕ) → IsBytes bytes → header_fault bytes ≡ None → HasFrame bytes
has_frame bytes fits none = let s = headers.stated bytes none in record { code = get_or bytes 4 0; may_ignore = nat_le 128 (get_or bytes 17 0); body = drop 19 bytes; framed = headers.is_framed bytes fits s.0 s.1 }

pub has_event : (names : Names) (bytes : List ℕ) → IsBytes bytes → event_fault names bytes ≡ None → HasEvent names bytes
unfolding event_fault
has_event names bytes fits none = has_body names bytes fits (has_frame bytes fits (passes (header_fault bytes) _ none).0) none

-- ---- What every reader of an event keeps to.

pub header_refused : (names : Names) (bytes : List ℕ) (fault : EventFault) → header_fault bytes ≡ Some fault → event_fault names bytes ≡ Some fault
unfolding event_fault
header_refused names bytes fault is = ap (λ line. first_of (line ∷ type_fault (code_of bytes) (may_ignore_of bytes) ∷ body_fault names (code_of bytes) bytes ∷ [])) is

pub answered : {X : Type 0} (names : Names) (bytes : List ℕ) (value : X → EventValue) (result : Result X EventFault) → IfOk result (λ x. IsEvent names (value x) bytes) →
    IfErr result (λ fault. event_fault names bytes ≡ Some fault) → (e : EventValue) → IsEvent names e bytes → MatchResult result (λ x. value x ≡ e) (λ _. ⊥)
answered names bytes value (Ok x) found fault e is = one_event names (value x) e bytes found is
answered names bytes value (Err f) found fault e is = absurd (none-some _ (sym (event_not_refused names e bytes is) ∙ fault))

-- what is wrong after a header
pub if_err_by : {X : Type 0} (result : Result X EventFault) (a b : Option EventFault) → a ≡ b → IfErr result (λ fault. b ≡ Some fault) → IfErr result (λ fault. a ≡ Some fault)
if_err_by (Ok x) a b same fault = tt
if_err_by (Err f) a b same fault = same ∙ fault

pub if_event : {X : Type 0} (names : Names) (value : X → EventValue) (result : Result X EventFault) (code : ℕ) (may_ignore : Bool) (bytes : List ℕ) → IsFramed code may_ignore (drop 19 bytes) bytes →
    IfOk result (λ x. HasBody names (value x) code may_ignore (drop 19 bytes)) → IfOk result (λ x. IsEvent names (value x) bytes)
if_event names value (Ok x) code may_ignore bytes framed found = record { code = code; may_ignore = may_ignore; body = drop 19 bytes; framed = framed; has_body = found }
if_event names value (Err f) code may_ignore bytes framed found = tt
