-- Bodies other than table maps and rows have a value or a refusal, and one.
use Rattle.binlog.proofs.Names.{◌≡◌, ℕ, ◌+◌, ◌-◌, ◌≤◌, ◌^◌, ◌==◌, ◌&&◌, true, List, [], ◌∷◌, ◌++◌, length, get_or, take, codes, Option, Some, None, refl, sym, ap, subst, ◌∙◌, arith, inl, inr, nat_lt, nat_le, bytes_eq, drop_of_length-le, length-append, length-drop, get_or-drop, append-nil, le-ltb, le-leb, ltb-false, leb-true, eqb-true, and_parts, not-false, bytes_eq-Decides, little_bytes, little_number, little_number-reads_back, little_from-lt, refuse, needs, number_at, IsFormat, IsGtidBody, IsQuery, text_place, read_lengths, length_refusals, Query, Begin, Commit, EventFault, IsBytes, drop_drop}
use Rattle.std.proofs.Common.{drop}
use Rattle.std.specs.Prelude.{not}
use Rattle.std.proofs.lemmas.Bool.{or_cases}
use Rattle.binlog.specs.Fault.{first_of}
use Rattle.binlog.specs.Body.{IsRotate, IsXid, statement, is_statement, format_fault, rotate_fault, xid_fault, gtid_fault, query_fault}
use Rattle.binlog.specs.declared.fault.EventFaultKind.TheVariants.{FormatVersion, HeaderLengths, Checksum, Statement, Trailing, Number}
use Rattle.wire.proofs.Cuts.{after}
use Rattle.binlog.proofs.Tables.{passes, not_refused, is_there}
use Rattle.binlog.proofs.Bodies.{long_number, is_gtid, gtid_reported, is_query}
use Rattle.binlog.proofs.Formats.{first_after, are_lengths, none_wrong, is_format, format_reported, format_then}

-- ---- Tables of refusals.

both_pass : (front rest : List (Option EventFault)) → first_of (front ++ rest) ≡ None → (first_of front ≡ None) × (first_of rest ≡ None)
both_pass [] rest none = (refl, none)
both_pass (None ∷ front) rest none = both_pass front rest none
both_pass (Some fault ∷ front) rest none = absurd cc

-- ---- Format descriptions.

pub format_not_refused : (bytes : List ℕ) → IsFormat (drop 19 bytes) → format_fault bytes ≡ None
format_not_refused bytes is =
    let t = format_reported bytes is in
    format_then bytes t.long t.version t.header ∙ first_after (length_refusals bytes read_lengths) _ (none_wrong bytes t.are) ∙ rw t.algorithm refl

pub format_some : (bytes : List ℕ) → IsBytes bytes → format_fault bytes ≡ None → IsFormat (drop 19 bytes)
unfolding format_fault
format_some bytes fits none =
    let algorithm = length bytes - 5 in
    let p1 = passes (needs bytes 19 2) _ none in
    let p2 = passes (needs bytes 21 50) _ p1.1 in
    let p3 = passes (needs bytes 71 4) _ p2.1 in
    let p4 = passes (needs bytes 75 1) _ p3.1 in
    let p5 = passes (needs bytes 76 1) _ p4.1 in
    let p6 = passes (needs bytes 77 4) _ p5.1 in
    let p7 = passes (refuse (not (number_at 2 bytes 19 == 4)) FormatVersion 19) _ p6.1 in
    let p8 = passes (refuse (not (get_or bytes 75 0 == 19)) HeaderLengths 75) _ p7.1 in
    let p9 = passes (refuse (nat_lt (length bytes) (81 + 35)) HeaderLengths 76) _ p8.1 in
    let ends = both_pass (length_refusals bytes read_lengths) (refuse (not (get_or bytes algorithm 0 == 0)) (Checksum (get_or bytes algorithm 0)) algorithm ∷ []) p9.1 in
    let last = passes (refuse (not (get_or bytes algorithm 0 == 0)) (Checksum (get_or bytes algorithm 0)) algorithm) [] ends.1 in
    is_format bytes fits
    (ltb-false _ _ (not_refused (nat_lt (length bytes) (81 + 35)) HeaderLengths 76 p9.0))
    (eqb-true _ _ (not-false _ (not_refused (not (number_at 2 bytes 19 == 4)) FormatVersion 19 p7.0)))
    (eqb-true _ _ (not-false _ (not_refused (not (get_or bytes 75 0 == 19)) HeaderLengths 75 p8.0)))
    (are_lengths bytes ends.0)
    (eqb-true _ _ (not-false _ (not_refused (not (get_or bytes algorithm 0 == 0)) (Checksum (get_or bytes algorithm 0)) algorithm last.0)))

-- ---- Rotations.

pub rotate_not_refused : (position : ℕ) (name bytes : List ℕ) → IsRotate position name (drop 19 bytes) → rotate_fault bytes ≡ None
unfolding rotate_fault
rotate_not_refused position name bytes is =
    let long : 19 + 8 ≤ length bytes = omega (arith, ap length is.1, length-drop 19 bytes, length-append (little_bytes 8 position) name) in
    rw (le-ltb _ _ long) refl

pub rotate_some : (bytes : List ℕ) → IsBytes bytes → rotate_fault bytes ≡ None → IsRotate (number_at 8 bytes 19) (drop 27 bytes) (drop 19 bytes)
unfolding rotate_fault
rotate_some bytes fits none = (little_from-lt 0 8 (drop 19 bytes) (λ i. rw get_or-drop (fits (19 + i))), long_number bytes fits (is_there bytes 19 8 none))

pub rotate_one : (position : ℕ) (name bytes : List ℕ) → IsRotate position name (drop 19 bytes) → (number_at 8 bytes 19 ≡ position) × (drop 27 bytes ≡ name)
rotate_one position name bytes is = (
  ap (little_number 8) is.1 ∙ little_number-reads_back 8 position name is.0,
  sym (drop_drop 19 8 bytes) ∙ ap (drop 8) is.1 ∙ after 8 0 (little_bytes 8 position) name refl,
)

-- ---- Ends of transactions.

pub xid_not_refused : (number : ℕ) (bytes : List ℕ) → IsXid number (drop 19 bytes) → xid_fault bytes ≡ None
unfolding xid_fault
xid_not_refused number bytes is =
    let size : length bytes ≡ 27 = omega (arith, ap length is.1, length-drop 19 bytes) in
    let long : 19 + 8 ≤ length bytes = omega (arith, size) in
    let short : length bytes ≤ 27 = omega (arith, size) in
    rw (le-ltb _ _ long, le-ltb _ _ short) refl

pub xid_some : (bytes : List ℕ) → IsBytes bytes → xid_fault bytes ≡ None → IsXid (number_at 8 bytes 19) (drop 19 bytes)
unfolding xid_fault
xid_some bytes fits none =
    let p1 = passes (needs bytes 19 8) _ none in
    let p2 = passes (refuse (nat_lt 27 (length bytes)) Trailing 27) _ p1.1 in
    let short = ltb-false _ _ (not_refused (nat_lt 27 (length bytes)) Trailing 27 p2.0) in
    let nothing : drop 27 bytes ≡ [] = drop_of_length-le bytes short in (
      little_from-lt 0 8 (drop 19 bytes) (λ i. rw get_or-drop (fits (19 + i))),
      long_number bytes fits (is_there bytes 19 8 p1.0) ∙ ap (λ l. little_bytes 8 (number_at 8 bytes 19) ++ l) nothing ∙ append-nil (little_bytes 8 (number_at 8 bytes 19)),
    )

pub xid_one : (number : ℕ) (bytes : List ℕ) → IsXid number (drop 19 bytes) → number_at 8 bytes 19 ≡ number
xid_one number bytes is = ap (little_number 8) is.1 ∙ little_number-reads_back 8 number [] is.0

-- ---- Identifiers of transactions.

gtid_long : (source : List ℕ) (number : ℕ) (bytes : List ℕ) → IsGtidBody source number (drop 19 bytes) → 44 ≤ length bytes
gtid_long source number bytes is = omega (arith, ap length is.body_is, length-drop 19 bytes, length-append (is.flags ∷ source ++ little_bytes 8 number) is.ignored, length-append (is.flags ∷ source) (little_bytes 8 number), is.source_length)

pub gtid_not_refused : (source : List ℕ) (number : ℕ) (bytes : List ℕ) → IsGtidBody source number (drop 19 bytes) → gtid_fault bytes ≡ None
unfolding gtid_fault
gtid_not_refused source number bytes is =
    let long = gtid_long source number bytes is in
    let h20 : 20 ≤ length bytes = omega (arith, long) in
    let h36 : 36 ≤ length bytes = omega (arith, long) in
    let h44 : 44 ≤ length bytes = long in
    rw (le-ltb _ _ h20, le-ltb _ _ h36, le-ltb _ _ h44, (gtid_reported source number bytes is).number_is, le-leb _ _ is.in_range.0, le-leb _ _ is.in_range.1) refl

pub gtid_some : (bytes : List ℕ) → IsBytes bytes → gtid_fault bytes ≡ None → IsGtidBody (take 16 (drop 20 bytes)) (number_at 8 bytes 36) (drop 19 bytes)
unfolding gtid_fault
gtid_some bytes fits none =
    let number = number_at 8 bytes 36 in
    let p1 = passes (needs bytes 19 1) _ none in
    let p2 = passes (needs bytes 20 16) _ p1.1 in
    let p3 = passes (needs bytes 36 8) _ p2.1 in
    let p4 = passes (refuse (not (nat_le 1 number && nat_le number (2 ^ 63 - 2))) Number 36) _ p3.1 in
    let range = and_parts (nat_le 1 number) (nat_le number (2 ^ 63 - 2)) (not-false _ (not_refused (not (nat_le 1 number && nat_le number (2 ^ 63 - 2))) Number 36 p4.0)) in
    is_gtid bytes fits (is_there bytes 36 8 p3.0) (leb-true _ _ range.0) (leb-true _ _ range.1)

-- ---- Queries.

-- a query of one of the statements
pub record HasQuery (bytes : List ℕ) : Type 0 where
  pub query : Query
  pub is_query : IsQuery (statement query) (drop 19 bytes)

of_text : (text bytes : List ℕ) → IsQuery text (drop 19 bytes) → is_statement text ≡ true → HasQuery bytes
of_text text bytes is one =
    elim (or_cases (bytes_eq text (codes "BEGIN")) (bytes_eq text (codes "COMMIT")) one) as (λ _. HasQuery bytes) [
      | inl begin ↦ record { query = Begin; is_query = subst (λ t. IsQuery t (drop 19 bytes)) ((bytes_eq-Decides text (codes "BEGIN")).0 begin) is }
      | inr commit ↦ record { query = Commit; is_query = subst (λ t. IsQuery t (drop 19 bytes)) ((bytes_eq-Decides text (codes "COMMIT")).0 commit) is }
    ]

pub query_some : (bytes : List ℕ) → IsBytes bytes → query_fault bytes ≡ None → HasQuery bytes
unfolding query_fault
query_some bytes fits none =
    let status_size = number_at 2 bytes 30 in
    let schema_size = get_or bytes 27 0 in
    let p1 = passes (needs bytes 19 4) _ none in
    let p2 = passes (needs bytes 23 4) _ p1.1 in
    let p3 = passes (needs bytes 27 1) _ p2.1 in
    let p4 = passes (needs bytes 28 2) _ p3.1 in
    let p5 = passes (needs bytes 30 2) _ p4.1 in
    let p6 = passes (needs bytes 32 status_size) _ p5.1 in
    let p7 = passes (needs bytes (32 + status_size) schema_size) _ p6.1 in
    let p8 = passes (needs bytes (32 + status_size + schema_size) 1) _ p7.1 in
    let p9 = passes (refuse (not (is_statement (drop (text_place bytes) bytes))) Statement (text_place bytes)) _ p8.1 in
    let text = drop (text_place bytes) bytes in
    of_text text bytes (is_query bytes fits (is_there bytes (32 + status_size + schema_size) 1 p8.0)) (not-false _ (not_refused (not (is_statement text)) Statement (text_place bytes) p9.0))
