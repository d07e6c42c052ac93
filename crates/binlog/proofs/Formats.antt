-- Format descriptions, by the whole event.
use Rattle.binlog.proofs.Names.{◌≡◌, ℕ, zero, suc, ◌+◌, ◌-◌, ◌<◌, ◌≤◌, ◌==◌, not, List, [], ◌∷◌, ◌++◌, length, get_or, take, Option, Some, None, refl, sym, ap, ◌∙◌, arith, le-ltb, eqb-true, not-false, length-append, length-drop, length-take, get_or-drop, little_bytes, little_number, little_number-reads_back, refuse, number_at, IsFormat, read_lengths, length_refusals, EventFault, IsBytes, first_left, drop_drop, drop_front}
use Rattle.std.proofs.Common.{drop}
use Rattle.std.proofs.lemmas.List.{get_or-take}
use Rattle.binlog.specs.Fault.{first_of}
use Rattle.binlog.specs.Body.{length_refusal, format_fault}
use Rattle.binlog.specs.declared.fault.EventFaultKind.TheVariants.{HeaderLengths, Checksum}
use Rattle.binlog.proofs.Tables.{passes, not_refused}
use Rattle.wire.proofs.Cuts.{number_at_front, cut, one, after, right_5}

-- ---- Tables one after the other.

pub first_front : (front rest : List (Option EventFault)) (fault : EventFault) → first_of front ≡ Some fault → first_of (front ++ rest) ≡ Some fault
first_front [] rest fault is = absurd cc
first_front (Some f ∷ front) rest fault is = is
first_front (None ∷ front) rest fault is = first_front front rest fault is

pub first_after : (front rest : List (Option EventFault)) → first_of front ≡ None → first_of (front ++ rest) ≡ first_of rest
first_after [] rest none = refl
first_after (Some f ∷ front) rest none = absurd cc
first_after (None ∷ front) rest none = first_after front rest none

-- ---- The lengths of the types that are read.

pub record AreLengths (bytes : List ℕ) : Type 0 where
  pub query : get_or bytes 77 0 ≡ 13
  pub rotate : get_or bytes 79 0 ≡ 8
  pub table_map : get_or bytes 94 0 ≡ 8
  pub write : get_or bytes 105 0 ≡ 10
  pub update : get_or bytes 106 0 ≡ 10
  pub delete : get_or bytes 107 0 ≡ 10

right_length : (bytes : List ℕ) (code wanted : ℕ) → length_refusal bytes (code, wanted) ≡ None → get_or bytes (75 + code) 0 ≡ wanted
right_length bytes code wanted none = eqb-true _ _ (not-false (get_or bytes (75 + code) 0 == wanted) (not_refused (not (get_or bytes (75 + code) 0 == wanted)) HeaderLengths (75 + code) none))

pub are_lengths : (bytes : List ℕ) → first_of (length_refusals bytes read_lengths) ≡ None → AreLengths bytes
are_lengths bytes none =
    let a = passes (length_refusal bytes (2, 13)) _ none in
    let b = passes (length_refusal bytes (4, 8)) _ a.1 in
    let c = passes (length_refusal bytes (19, 8)) _ b.1 in
    let d = passes (length_refusal bytes (30, 10)) _ c.1 in
    let e = passes (length_refusal bytes (31, 10)) _ d.1 in
    let f = passes (length_refusal bytes (32, 10)) _ e.1 in
    record {
      query = right_length bytes 2 13 a.0;
      rotate = right_length bytes 4 8 b.0;
      table_map = right_length bytes 19 8 c.0;
      write = right_length bytes 30 10 d.0;
      update = right_length bytes 31 10 e.0;
      delete = right_length bytes 32 10 f.0;
    }

pub none_wrong : (bytes : List ℕ) → AreLengths bytes → first_of (length_refusals bytes read_lengths) ≡ None
none_wrong bytes are = rw (are.query, are.rotate, are.table_map, are.write, are.update, are.delete) refl

-- ---- The whole.

-- a length, as one of all of them
among : (bytes : List ℕ) (size i wanted : ℕ) → i < size → get_or bytes (76 + i) 0 ≡ wanted → get_or (take size (drop 76 bytes)) i 0 ≡ wanted
among bytes size i wanted short is = get_or-take size (drop 76 bytes) i 0 short ∙ get_or-drop 76 bytes i 0 ∙ is

pub is_format : (bytes : List ℕ) → IsBytes bytes → 116 ≤ length bytes → number_at 2 bytes 19 ≡ 4 → get_or bytes 75 0 ≡ 19 → AreLengths bytes → get_or bytes (length bytes - 5) 0 ≡ 0 → IsFormat (drop 19 bytes)
is_format bytes fits long version header are algorithm =
    let size = length bytes - 81 in
    let lengths = take size (drop 76 bytes) in
    let end : 76 + size ≡ length bytes - 5 = omega (arith, long) in
    let short : length bytes - 5 < length bytes = omega (arith, long) in
    let c4 : drop (76 + size) bytes ≡ 0 ∷ drop (suc (length bytes - 5)) bytes = ap (λ k. drop k bytes) end ∙ one (length bytes - 5) bytes short ∙ ap (λ b. b ∷ drop (suc (length bytes - 5)) bytes) algorithm in
    let c76 = cut 76 size bytes ∙ ap (λ t. lengths ++ t) c4 in
    let c75 : drop 75 bytes ≡ 19 ∷ (lengths ++ 0 ∷ drop (suc (length bytes - 5)) bytes) = one 75 bytes (omega (arith, long)) ∙ (λ i. header i ∷ c76 i) in
    let c71 = cut 71 4 bytes ∙ ap (λ t. take 4 (drop 71 bytes) ++ t) c75 in
    let c21 = cut 21 50 bytes ∙ ap (λ t. take 50 (drop 21 bytes) ++ t) c71 in
    let enough : 2 ≤ length (drop 19 bytes) = omega (arith, long, length-drop 19 bytes) in
    let from_19 : IsBytes (drop 19 bytes) = λ i. rw get_or-drop (fits (19 + i)) in
    let c19 = number_at_front 2 (drop 19 bytes) enough from_19 ∙ (λ i. little_bytes 2 (version i) ++ drop_drop 19 2 bytes i) ∙ ap (λ t. little_bytes 2 4 ++ t) c21 in
    record {
      server_version = take 50 (drop 21 bytes);
      time = take 4 (drop 71 bytes);
      lengths = lengths;
      unread = drop (suc (length bytes - 5)) bytes;
      body_is = c19 ∙ sym (right_5 (little_bytes 2 4) (take 50 (drop 21 bytes)) (take 4 (drop 71 bytes)) (19 ∷ lengths) (0 ∷ drop (suc (length bytes - 5)) bytes));
      sizes = (
        omega (arith, long, length-take 50 (drop 21 bytes), length-drop 21 bytes),
        omega (arith, long, length-take 4 (drop 71 bytes), length-drop 71 bytes),
        omega (arith, long, length-drop (suc (length bytes - 5)) bytes),
        omega (arith, long, length-take size (drop 76 bytes), length-drop 76 bytes),
      );
      query = among bytes size 1 13 (omega (arith, long)) are.query;
      rotate = among bytes size 3 8 (omega (arith, long)) are.rotate;
      table_map = among bytes size 18 8 (omega (arith, long)) are.table_map;
      rows = (among bytes size 29 10 (omega (arith, long)) are.write, among bytes size 30 10 (omega (arith, long)) are.update, among bytes size 31 10 (omega (arith, long)) are.delete);
    }

pub record ReportedFormat (bytes : List ℕ) : Type 0 where
  pub long : 116 ≤ length bytes
  pub version : number_at 2 bytes 19 ≡ 4
  pub header : get_or bytes 75 0 ≡ 19
  pub are : AreLengths bytes
  pub algorithm : get_or bytes (length bytes - 5) 0 ≡ 0

get_front : (a b : List ℕ) (i : ℕ) → i < length a → get_or (a ++ b) i 0 ≡ get_or a i 0
get_front [] b i short = absurd (omega (arith, short))
get_front (x ∷ a) b zero short = refl
get_front (x ∷ a) b (suc i) short = get_front a b i (omega (arith, short))

pub format_reported : (bytes : List ℕ) → IsFormat (drop 19 bytes) → ReportedFormat bytes
format_reported bytes is =
    let r4 = 0 ∷ is.unread in
    let r3 = 19 ∷ (is.lengths ++ r4) in
    let r2 = is.time ++ r3 in
    let r1 = is.server_version ++ r2 in
    let body : drop 19 bytes ≡ little_bytes 2 4 ++ r1 = is.body_is ∙ right_5 (little_bytes 2 4) is.server_version is.time (19 ∷ is.lengths) r4 in
    let d21 : drop 21 bytes ≡ r1 = sym (drop_drop 19 2 bytes) ∙ ap (drop 2) body in
    let d71 : drop 71 bytes ≡ r2 = sym (drop_drop 21 50 bytes) ∙ ap (drop 50) d21 ∙ after 50 0 is.server_version r2 is.sizes.0 in
    let d75 : drop 75 bytes ≡ r3 = sym (drop_drop 71 4 bytes) ∙ ap (drop 4) d71 ∙ after 4 0 is.time r3 is.sizes.1 in
    let d76 : drop 76 bytes ≡ is.lengths ++ r4 = sym (drop_drop 75 1 bytes) ∙ ap (drop 1) d75 in
    let whole : length bytes ≡ 81 + length is.lengths = omega (arith, ap length d76, length-drop 76 bytes, length-append is.lengths r4, is.sizes.2) in
    let long : 116 ≤ length bytes = omega (arith, whole, is.sizes.3) in
    let each : (i wanted : ℕ) → i < length is.lengths → get_or is.lengths i 0 ≡ wanted → get_or bytes (76 + i) 0 ≡ wanted =
    λ i wanted short e. sym (get_or-drop 76 bytes i 0) ∙ ap (λ l. get_or l i 0) d76 ∙ get_front is.lengths r4 i short ∙ e in
    let end : length bytes - 5 ≡ 76 + length is.lengths = omega (arith, whole) in
    let last : drop (length bytes - 5) bytes ≡ r4 = ap (λ k. drop k bytes) end ∙ sym (drop_drop 76 (length is.lengths) bytes) ∙ ap (drop (length is.lengths)) d76 ∙ drop_front is.lengths r4 in
    record {
      long = long;
      version = ap (little_number 2) body ∙ little_number-reads_back 2 4 r1 (omega arith);
      header = first_left 75 19 bytes (is.lengths ++ r4) d75;
      are = record {
        query = each 1 13 (omega (arith, is.sizes.3)) is.query;
        rotate = each 3 8 (omega (arith, is.sizes.3)) is.rotate;
        table_map = each 18 8 (omega (arith, is.sizes.3)) is.table_map;
        write = each 29 10 (omega (arith, is.sizes.3)) is.rows.0;
        update = each 30 10 (omega (arith, is.sizes.3)) is.rows.1;
        delete = each 31 10 (omega (arith, is.sizes.3)) is.rows.2;
      };
      algorithm = first_left (length bytes - 5) 0 bytes is.unread last;
    }

-- the remaining faults after the version, the header's length and the number of lengths
pub format_then : (bytes : List ℕ) → 116 ≤ length bytes → number_at 2 bytes 19 ≡ 4 → get_or bytes 75 0 ≡ 19 →
    format_fault bytes ≡ first_of (length_refusals bytes read_lengths ++ refuse (not (get_or bytes (length bytes - 5) 0 == 0)) (Checksum (get_or bytes (length bytes - 5) 0)) (length bytes - 5) ∷ [])
unfolding format_fault
format_then bytes long version header =
    let h21 : 21 ≤ length bytes = omega (arith, long) in
    let h71 : 71 ≤ length bytes = omega (arith, long) in
    let h75 : 75 ≤ length bytes = omega (arith, long) in
    let h76 : 76 ≤ length bytes = omega (arith, long) in
    let h77 : 77 ≤ length bytes = omega (arith, long) in
    let h81 : 81 ≤ length bytes = omega (arith, long) in
    rw (le-ltb _ _ h21, le-ltb _ _ h71, le-ltb _ _ h75, le-ltb _ _ h76, le-ltb _ _ h77, le-ltb _ _ h81, version, header, le-ltb _ _ long) refl
