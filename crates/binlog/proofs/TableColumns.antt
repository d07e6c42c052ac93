-- The columns of table maps.
use Rattle.binlog.proofs.Names.{◌≡◌, ℕ, zero, suc, ◌+◌, ◌-◌, ◌*◌, ◌<◌, ◌≤◌, ◌==◌, false, not, List, [], ◌∷◌, ◌++◌, length, get_or, take, Option, Some, None, refl, sym, ap, ◌∙◌, arith, inl, inr, le-ltb, lt-ltb, le-leb, lt-leb, ne_eqb, eq-eqb, cases_lt, length-drop, get_or-drop, take_at, refuse, needs, type_code, metadata, IsColumn, column_fault, count_width, count_at, bitmap_size, is_column_count, metadata_length, ColumnKind, EventFault, EventFaultKind, Truncated, Columns, Metadata, drop_front}
use Rattle.std.proofs.Common.{drop}
use Rattle.std.specs.Prelude.{sum_by, is_none, unwrap_or}
use Rattle.std.proofs.lemmas.List.{drop_all}
use Rattle.std.proofs.lemmas.List.Sums.{sum_by-cons}
use Rattle.binlog.specs.Fault.{first_of}
use Rattle.binlog.specs.Column.{metadata_size, metadata_fault}
use Rattle.binlog.specs.Count.{no_count}
use Rattle.binlog.specs.Table.{types_fault, at_place, all_metadata_fault, columns_fault}
use Rattle.binlog.specs.Columns.{kind_of, column_front, columns_of}
use Rattle.binlog.specs.declared.fault.EventFaultKind.TheVariants.{ColumnType as UnknownColumn}
use Rattle.binlog.proofs.Tables.{passes, not_refused}
use Rattle.wire.proofs.Cuts.{one}
use Rattle.binlog.proofs.Columns.{kind_is, known, at_most_two, lawful_size, no_fault, fault_of}

-- ---- One column.

same_kind : (kind : ColumnKind) (code : ℕ) (rest bytes : List ℕ) → IsColumn kind code rest bytes → kind_of code (get_or bytes 0 0) (get_or bytes 1 0) ≡ kind
same_kind kind code rest bytes is = (λ i. kind_of (is.code_is i) (get_or (is.bytes_are i) 0 0) (get_or (is.bytes_are i) 1 0)) ∙ kind_is kind rest is.lawful

-- its metadata has the length that its type byte says
pub metadata_long : (kind : ColumnKind) → metadata_length (type_code kind) ≡ length (metadata kind)
metadata_long kind = ap (λ (size : Option ℕ). unwrap_or size 0) (lawful_size kind)

pub after_metadata : (kind : ColumnKind) (code : ℕ) (rest bytes : List ℕ) → IsColumn kind code rest bytes → drop (metadata_length code) bytes ≡ rest
after_metadata kind code rest bytes is = (λ i. drop (metadata_length (is.code_is i)) (is.bytes_are i)) ∙ ap (λ n. drop n (metadata kind ++ rest)) (metadata_long kind) ∙ drop_front (metadata kind) rest

pub before_metadata : (kind : ColumnKind) (code : ℕ) (rest bytes : List ℕ) → IsColumn kind code rest bytes → take (metadata_length code) bytes ≡ metadata kind
before_metadata kind code rest bytes is = (λ i. take (metadata_length (is.code_is i)) (is.bytes_are i)) ∙ take_at (metadata kind) rest (metadata_length (type_code kind)) (sym (metadata_long kind))

-- the columns of type bytes that begin with a column's
pub column_first : (kind : ColumnKind) (code : ℕ) (codes rest bytes : List ℕ) → IsColumn kind code rest bytes → columns_of (code ∷ codes) bytes ≡ kind ∷ columns_of codes rest
column_first kind code codes rest bytes is =
    (λ i. column_front (no_fault kind code rest bytes is i) (same_kind kind code rest bytes is i) (columns_of codes (after_metadata kind code rest bytes is i)))

pub fewer : (s t : List ColumnKind) (x : ColumnKind) → s ≡ x ∷ t → length t < length s
fewer s t x e = omega (arith, ap length e)

-- ---- Tables of refusals, line by line.

pub first_none : (line : Option EventFault) (lines : List (Option EventFault)) → line ≡ None → first_of (line ∷ lines) ≡ first_of lines
first_none line lines is = ap (λ l. first_of (l ∷ lines)) is

pub first_some : (line : Option EventFault) (lines : List (Option EventFault)) (fault : EventFault) → line ≡ Some fault → first_of (line ∷ lines) ≡ Some fault
first_some line lines fault is = ap (λ l. first_of (l ∷ lines)) is

pub only_line : (line : Option EventFault) → first_of (line ∷ []) ≡ line
only_line None = refl
only_line (Some fault) = refl

-- ---- Type bytes, one after another.

pub type_passes_at : (code size place : ℕ) (others : List ℕ) → metadata_size code ≡ Some size → types_fault place (code ∷ others) ≡ types_fault (suc place) others
type_passes_at code size place others has =
    first_none (refuse (is_none (metadata_size code)) (UnknownColumn code) place) (types_fault (suc place) others ∷ []) (ap (λ (s : Option ℕ). refuse (is_none s) (UnknownColumn code) place) has)
    ∙ only_line (types_fault (suc place) others)

pub type_passes : (codes : List ℕ) (place i size : ℕ) → i < length codes → metadata_size (get_or codes i 0) ≡ Some size →
    types_fault (place + i) (drop i codes) ≡ types_fault (place + (i + 1)) (drop (i + 1) codes)
type_passes codes place i size short has =
    let next : suc (place + i) ≡ place + (i + 1) = omega arith in
    let e : suc i ≡ i + 1 = omega arith in
    ap (types_fault (place + i)) (one i codes short) ∙ type_passes_at (get_or codes i 0) size (place + i) (drop (suc i) codes) has ∙ (λ j. types_fault (next j) (drop (e j) codes))

pub type_stops : (codes : List ℕ) (place i : ℕ) → i < length codes → metadata_size (get_or codes i 0) ≡ None →
    types_fault (place + i) (drop i codes) ≡ Some (record { kind = UnknownColumn (get_or codes i 0); at = place + i })
type_stops codes place i short none = ap (types_fault (place + i)) (one i codes short)
    ∙ first_some (refuse (is_none (metadata_size (get_or codes i 0))) (UnknownColumn (get_or codes i 0)) (place + i)) _ _
    (ap (λ (s : Option ℕ). refuse (is_none s) (UnknownColumn (get_or codes i 0)) (place + i)) none)

-- a type byte that is read
pub record Sized (code : ℕ) : Type 0 where
  pub size : ℕ
  pub has : metadata_size code ≡ Some size

sized_by : (o : Option ℕ) (code : ℕ) → metadata_size code ≡ o → is_none o ≡ false → Sized code
sized_by None code is some = absurd cc
sized_by (Some size) code is some = record { size = size; has = is }

pub first_sized : (code place : ℕ) (others : List ℕ) → types_fault place (code ∷ others) ≡ None → Sized code
first_sized code place others none =
    sized_by (metadata_size code) code refl (not_refused (is_none (metadata_size code)) (UnknownColumn code) place (passes (refuse (is_none (metadata_size code)) (UnknownColumn code) place) _ none).0)

pub others_read : (code place : ℕ) (others : List ℕ) → types_fault place (code ∷ others) ≡ None → types_fault (suc place) others ≡ None
others_read code place others none =
    let s = first_sized code place others none in
    sym (type_passes_at code s.size place others s.has) ∙ none

pub read_anywhere : (codes : List ℕ) (p q : ℕ) → types_fault p codes ≡ None → types_fault q codes ≡ None
read_anywhere [] p q none = refl
read_anywhere (code ∷ others) p q none =
    let s = first_sized code p others none in
    type_passes_at code s.size q others s.has ∙ read_anywhere others (suc p) (suc q) (others_read code p others none)

pub sized_at : (codes : List ℕ) (place i : ℕ) → types_fault place codes ≡ None → i < length codes → Sized (get_or codes i 0)
sized_at [] place i none short = absurd (omega (arith, short))
sized_at (code ∷ others) place zero none short = first_sized code place others none
sized_at (code ∷ others) place (suc i) none short = sized_at others (suc place) i (others_read code place others none) (omega (arith, short))

pub length_is : (code size : ℕ) → metadata_size code ≡ Some size → metadata_length code ≡ size
length_is code size has = ap (λ (s : Option ℕ). unwrap_or s 0) has

-- ---- Metadata, one column after another.

pub record Checked (bytes codes : List ℕ) (start i place : ℕ) : Type 0 where
  pub left : all_metadata_fault bytes start codes ≡ all_metadata_fault bytes place (drop i codes)
  pub fits : place + sum_by metadata_length (drop i codes) ≤ length bytes

-- what is wrong with the metadata at an offset is what is wrong with the column there
pub fault_there : (bytes : List ℕ) (code size place : ℕ) → metadata_size code ≡ Some size → place + size ≤ length bytes →
    column_fault code (drop place bytes) ≡ metadata_fault code (get_or bytes place 0) (get_or bytes (place + 1) 0)
fault_there bytes code size place has long =
    let e : place + 0 ≡ place = omega arith in
    let first : get_or (drop place bytes) 0 0 ≡ get_or bytes place 0 = get_or-drop place bytes 0 0 ∙ ap (λ k. get_or bytes k 0) e in
    let second : get_or (drop place bytes) 1 0 ≡ get_or bytes (place + 1) 0 = get_or-drop place bytes 1 0 in
    fault_of code size (drop place bytes) _ has (omega (arith, long, length-drop place bytes)) (λ i. metadata_fault code (first i) (second i))

pub column_passes_at : (bytes : List ℕ) (code place : ℕ) (others : List ℕ) → metadata_fault code (get_or bytes place 0) (get_or bytes (place + 1) 0) ≡ None →
    all_metadata_fault bytes place (code ∷ others) ≡ all_metadata_fault bytes (place + metadata_length code) others
column_passes_at bytes code place others none =
    first_none (at_place (metadata_fault code (get_or bytes place 0) (get_or bytes (place + 1) 0)) place) (all_metadata_fault bytes (place + metadata_length code) others ∷ []) (ap (λ f. at_place f place) none)
    ∙ only_line (all_metadata_fault bytes (place + metadata_length code) others)

pub first_checked : (bytes codes : List ℕ) (start : ℕ) → start + sum_by metadata_length codes ≤ length bytes → Checked bytes codes start 0 start
first_checked bytes codes start long = record { left = refl; fits = long }

pub column_passes : (bytes codes rest : List ℕ) (start i place : ℕ) (kind : ColumnKind) → Checked bytes codes start i place → i < length codes → types_fault 0 codes ≡ None →
    IsColumn kind (get_or codes i 0) rest (drop place bytes) → Checked bytes codes start (i + 1) (length bytes - length rest)
column_passes bytes codes rest start i place kind checked short none is =
    let code = get_or codes i 0 in
    let s = sized_at codes 0 i none short in
    let e : suc i ≡ i + 1 = omega arith in
    let stands : drop i codes ≡ code ∷ drop (i + 1) codes = one i codes short ∙ ap (λ k. code ∷ drop k codes) e in
    let sum : sum_by metadata_length (drop i codes) ≡ metadata_length code + sum_by metadata_length (drop (i + 1) codes) = ap (sum_by metadata_length) stands ∙ sum_by-cons metadata_length code (drop (i + 1) codes) in
    let fits = checked.fits in
    let size : metadata_length code ≡ s.size = length_is code s.size s.has in
    let long : place + s.size ≤ length bytes = omega (arith, fits, sum, size) in
    let sound : metadata_fault code (get_or bytes place 0) (get_or bytes (place + 1) 0) ≡ None = sym (fault_there bytes code s.size place s.has long) ∙ no_fault kind code rest (drop place bytes) is in
    let rest_is : drop (metadata_length code) (drop place bytes) ≡ rest = after_metadata kind code rest (drop place bytes) is in
    let rest_long : length rest ≡ length bytes - place - metadata_length code = sym (ap length rest_is) ∙ length-drop (metadata_length code) (drop place bytes) ∙ ap (λ n. n - metadata_length code) (length-drop place bytes) in
    let there : place + metadata_length code ≡ length bytes - length rest = omega (arith, long, size, rest_long) in
    record {
      left = checked.left ∙ ap (all_metadata_fault bytes place) stands ∙ column_passes_at bytes code place (drop (i + 1) codes) sound ∙ ap (λ p. all_metadata_fault bytes p (drop (i + 1) codes)) there;
      fits = omega (arith, fits, sum, there);
    }

pub column_stops : (bytes codes : List ℕ) (start i place : ℕ) (kind : EventFaultKind) → Checked bytes codes start i place → i < length codes → types_fault 0 codes ≡ None →
    column_fault (get_or codes i 0) (drop place bytes) ≡ Some kind → all_metadata_fault bytes start codes ≡ Some (record { kind = kind; at = place })
column_stops bytes codes start i place kind checked short none is =
    let code = get_or codes i 0 in
    let s = sized_at codes 0 i none short in
    let stands = one i codes short in
    let sum : sum_by metadata_length (drop i codes) ≡ metadata_length code + sum_by metadata_length (drop (suc i) codes) = ap (sum_by metadata_length) stands ∙ sum_by-cons metadata_length code (drop (suc i) codes) in
    let fits = checked.fits in
    let size : metadata_length code ≡ s.size = length_is code s.size s.has in
    let long : place + s.size ≤ length bytes = omega (arith, fits, sum, size) in
    let wrong = sym (fault_there bytes code s.size place s.has long) ∙ is in
    checked.left ∙ ap (all_metadata_fault bytes place) stands ∙ first_some (at_place (metadata_fault code (get_or bytes place 0) (get_or bytes (place + 1) 0)) place) _ _ (ap (λ f. at_place f place) wrong)

pub last_checked : (bytes codes : List ℕ) (start i place : ℕ) → Checked bytes codes start i place → length codes ≤ i → all_metadata_fault bytes start codes ≡ None
last_checked bytes codes start i place checked long = checked.left ∙ ap (all_metadata_fault bytes place) (drop_all i codes long)

-- ---- The sum of the lengths of metadata, so far.

pub record Summed (codes : List ℕ) (place i sum : ℕ) : Type 0 where
  pub left : types_fault place codes ≡ types_fault (place + i) (drop i codes)
  pub total : sum + sum_by metadata_length (drop i codes) ≡ sum_by metadata_length codes
  pub small : sum ≤ 2 * i

pub first_summed : (codes : List ℕ) (place : ℕ) → Summed codes place 0 0
first_summed codes place = let e : place ≡ place + 0 = omega arith in record { left = ap (λ p. types_fault p codes) e; total = omega arith; small = omega arith }

pub next_summed : (codes : List ℕ) (place i sum size : ℕ) → Summed codes place i sum → i < length codes → metadata_size (get_or codes i 0) ≡ Some size → Summed codes place (i + 1) (sum + size)
next_summed codes place i sum size summed short has =
    let code = get_or codes i 0 in
    let e : suc i ≡ i + 1 = omega arith in
    let stands : drop i codes ≡ code ∷ drop (i + 1) codes = one i codes short ∙ ap (λ k. code ∷ drop k codes) e in
    let parts : sum_by metadata_length (drop i codes) ≡ metadata_length code + sum_by metadata_length (drop (i + 1) codes) = ap (sum_by metadata_length) stands ∙ sum_by-cons metadata_length code (drop (i + 1) codes) in
    let is : metadata_length code ≡ size = length_is code size has in
    let few = at_most_two code size (known code size has) in
    let total = summed.total in
    let small = summed.small in
    record {
      left = summed.left ∙ type_passes codes place i size short has;
      total = omega (arith, total, parts, is);
      small = omega (arith, small, few);
    }

pub last_summed : (codes : List ℕ) (place i sum : ℕ) → Summed codes place i sum → length codes ≤ i → (sum ≡ sum_by metadata_length codes) × (types_fault place codes ≡ None)
last_summed codes place i sum summed long =
    let none = drop_all i codes long in
    let total = summed.total in
    let rest : sum_by metadata_length (drop i codes) ≡ 0 = ap (sum_by metadata_length) none in
    (omega (arith, total, rest), summed.left ∙ ap (types_fault (place + i)) none)

-- ---- The table of refusals by what the code has read: the number of columns and the bytes that it takes, the length of
-- all metadata as it is stated and the bytes that it takes, the type bytes, and the length that they have.

abbrev pub table : List ℕ → ℕ → ℕ → ℕ → ℕ → ℕ → List ℕ → ℕ → Option EventFault
table bytes at n w m v codes size = first_of (
    no_count bytes at Columns
    ∷ refuse (not (is_column_count n)) Columns at
    ∷ needs bytes (at + w) n
    ∷ types_fault (at + w) codes
    ∷ no_count bytes (at + w + n) Metadata
    ∷ refuse (not (m == size)) Metadata (at + w + n)
    ∷ needs bytes (at + w + n + v) size
    ∷ all_metadata_fault bytes (at + w + n + v) codes
    ∷ needs bytes (at + w + n + v + size) (bitmap_size n)
    ∷ [])

pub record Opened (bytes : List ℕ) (at n w : ℕ) (codes : List ℕ) (size : ℕ) : Type 0 where
  pub n_is : n ≡ count_at bytes at
  pub w_is : w ≡ count_width bytes at
  pub codes_are : codes ≡ take n (drop (at + w) bytes)
  pub size_is : size ≡ sum_by metadata_length codes

table_of_opened : (bytes : List ℕ) (at n w : ℕ) (codes : List ℕ) (size : ℕ) → Opened bytes at n w codes size →
    columns_fault bytes at ≡ table bytes at n w (count_at bytes (at + w + n)) (count_width bytes (at + w + n)) codes size
unfolding columns_fault
table_of_opened bytes at n w codes size is =
    let n_is = sym is.n_is in
    let w_is = sym is.w_is in
    let codes_are = sym is.codes_are in
    (λ i. table bytes at (n_is i) (w_is i) (count_at bytes (at + w_is i + n_is i)) (count_width bytes (at + w_is i + n_is i)) (take (n_is i) (drop (at + w_is i) bytes)) (sum_by metadata_length (take (n_is i) (drop (at + w_is i) bytes))))
    ∙ (λ i. table bytes at n w (count_at bytes (at + w + n)) (count_width bytes (at + w + n)) (codes_are i) (sum_by metadata_length (codes_are i)))
    ∙ ap (table bytes at n w (count_at bytes (at + w + n)) (count_width bytes (at + w + n)) codes) (sym is.size_is)

pub table_is : (bytes : List ℕ) (at n w m v : ℕ) (codes : List ℕ) (size : ℕ) → Opened bytes at n w codes size → m ≡ count_at bytes (at + w + n) → v ≡ count_width bytes (at + w + n) →
    columns_fault bytes at ≡ table bytes at n w m v codes size
table_is bytes at n w m v codes size is m_is v_is = table_of_opened bytes at n w codes size is ∙ (λ i. table bytes at n w (sym m_is i) (sym v_is i) codes size)

pub codes_cut : (bytes : List ℕ) (p n : ℕ) → take (p + n - p) (drop p bytes) ≡ take n (drop p bytes)
codes_cut bytes p n = let e : p + n - p ≡ n = omega arith in ap (λ k. take k (drop p bytes)) e

-- The refusals at each line.

pub no_number : (bytes : List ℕ) (at : ℕ) (fault : EventFault) → no_count bytes at Columns ≡ Some fault → columns_fault bytes at ≡ Some fault
unfolding columns_fault
no_number bytes at fault is = rw is refl

pub wrong_number : (bytes : List ℕ) (at n : ℕ) → no_count bytes at Columns ≡ None → n ≡ count_at bytes at → (1 ≤ n → n ≤ 4096 → ⊥) →
    columns_fault bytes at ≡ Some (record { kind = Columns; at = at })
unfolding columns_fault
wrong_number bytes at n l1 is not_in =
    let outside : is_column_count (count_at bytes at) ≡ false = ap is_column_count (sym is) ∙ (elim (cases_lt n 1) as (λ _. is_column_count n ≡ false) [
      | inl below ↦ rw (lt-leb _ _ below) refl
      | inr some ↦ elim (cases_lt 4096 n) as (λ _. is_column_count n ≡ false) [
        | inl many ↦ rw (le-leb _ _ some, lt-leb _ _ many) refl
        | inr few ↦ absurd (not_in some few)
      ]
    ]) in
    rw (l1, outside) refl

pub record Counts (bytes : List ℕ) (at n w : ℕ) (codes : List ℕ) (size : ℕ) : Type 0 where
  pub opened : Opened bytes at n w codes size
  pub l1 : no_count bytes at Columns ≡ None
  pub some : 1 ≤ n
  pub few : n ≤ 4096

-- the type codes, as the code cuts them out
abbrev pub codes_in : List ℕ → ℕ → ℕ → List ℕ
codes_in bytes place n = take (place + n - place) (drop place bytes)

pub counts_of : (bytes : List ℕ) (at n w size : ℕ) → (n ≡ count_at bytes at) × (w ≡ count_width bytes at) → no_count bytes at Columns ≡ None → (1 ≤ n) × (n ≤ 4096) →
    size ≡ sum_by metadata_length (codes_in bytes (at + w) n) → Counts bytes at n w (codes_in bytes (at + w) n) size
counts_of bytes at n w size value whole range sum = record {
  opened = record { n_is = value.0; w_is = value.1; codes_are = codes_cut bytes (at + w) n; size_is = sum };
  l1 = whole;
  some = range.0;
  few = range.1;
}

pub short_types : (bytes : List ℕ) (at n w : ℕ) (codes : List ℕ) (size : ℕ) → Counts bytes at n w codes size → length bytes < at + w + n →
    columns_fault bytes at ≡ Some (record { kind = Truncated; at = at + w })
short_types bytes at n w codes size c short = table_of_opened bytes at n w codes size c.opened ∙ rw (c.l1, le-leb _ _ c.some, le-leb _ _ c.few, lt-ltb _ _ short) refl

pub wrong_type : (bytes : List ℕ) (at n w : ℕ) (codes : List ℕ) (size : ℕ) (fault : EventFault) → Counts bytes at n w codes size → at + w + n ≤ length bytes →
    types_fault (at + w) codes ≡ Some fault → columns_fault bytes at ≡ Some fault
wrong_type bytes at n w codes size fault c long l4 = table_of_opened bytes at n w codes size c.opened ∙ rw (c.l1, le-leb _ _ c.some, le-leb _ _ c.few, le-ltb _ _ long, l4) refl

pub no_measure : (bytes : List ℕ) (at n w : ℕ) (codes : List ℕ) (size : ℕ) (fault : EventFault) → Counts bytes at n w codes size → at + w + n ≤ length bytes →
    types_fault (at + w) codes ≡ None → no_count bytes (at + w + n) Metadata ≡ Some fault → columns_fault bytes at ≡ Some fault
no_measure bytes at n w codes size fault c long l4 l5 = table_of_opened bytes at n w codes size c.opened ∙ rw (c.l1, le-leb _ _ c.some, le-leb _ _ c.few, le-ltb _ _ long, l4, l5) refl

pub record Measured (bytes : List ℕ) (at n w m v : ℕ) (codes : List ℕ) (size : ℕ) : Type 0 where
  pub counts : Counts bytes at n w codes size
  pub long : at + w + n ≤ length bytes
  pub l4 : types_fault (at + w) codes ≡ None
  pub l5 : no_count bytes (at + w + n) Metadata ≡ None
  pub m_is : m ≡ count_at bytes (at + w + n)
  pub v_is : v ≡ count_width bytes (at + w + n)

pub measured_of : (bytes : List ℕ) (at n w m v size : ℕ) → Counts bytes at n w (codes_in bytes (at + w) n) size → at + w + n ≤ length bytes → types_fault (at + w) (codes_in bytes (at + w) n) ≡ None →
    no_count bytes (at + w + n) Metadata ≡ None → (m ≡ count_at bytes (at + w + n)) × (v ≡ count_width bytes (at + w + n)) → Measured bytes at n w m v (codes_in bytes (at + w) n) size
measured_of bytes at n w m v size counts long types whole value = record { counts = counts; long = long; l4 = types; l5 = whole; m_is = value.0; v_is = value.1 }

lines_6 : (bytes : List ℕ) (at n w m v : ℕ) (codes : List ℕ) (size : ℕ) → Measured bytes at n w m v codes size → columns_fault bytes at ≡ first_of (
    refuse (not (m == size)) Metadata (at + w + n)
    ∷ needs bytes (at + w + n + v) size
    ∷ all_metadata_fault bytes (at + w + n + v) codes
    ∷ needs bytes (at + w + n + v + size) (bitmap_size n)
    ∷ [])
lines_6 bytes at n w m v codes size c = table_is bytes at n w m v codes size c.counts.opened c.m_is c.v_is
    ∙ rw (c.counts.l1, le-leb _ _ c.counts.some, le-leb _ _ c.counts.few, le-ltb _ _ c.long, c.l4, c.l5) refl

pub wrong_measure : (bytes : List ℕ) (at n w m v : ℕ) (codes : List ℕ) (size : ℕ) → Measured bytes at n w m v codes size → (m ≡ size → ⊥) →
    columns_fault bytes at ≡ Some (record { kind = Metadata; at = at + w + n })
wrong_measure bytes at n w m v codes size c other = lines_6 bytes at n w m v codes size c ∙ rw (ne_eqb _ _ other) refl

pub short_metadata : (bytes : List ℕ) (at n w m v : ℕ) (codes : List ℕ) (size : ℕ) → Measured bytes at n w m v codes size → m ≡ size → length bytes < at + w + n + v + size →
    columns_fault bytes at ≡ Some (record { kind = Truncated; at = at + w + n + v })
short_metadata bytes at n w m v codes size c same short = lines_6 bytes at n w m v codes size c ∙ rw (eq-eqb _ _ same, lt-ltb _ _ short) refl

pub wrong_metadata : (bytes : List ℕ) (at n w m v : ℕ) (codes : List ℕ) (size : ℕ) (fault : EventFault) → Measured bytes at n w m v codes size → m ≡ size → at + w + n + v + size ≤ length bytes →
    all_metadata_fault bytes (at + w + n + v) codes ≡ Some fault → columns_fault bytes at ≡ Some fault
wrong_metadata bytes at n w m v codes size fault c same long l8 = lines_6 bytes at n w m v codes size c ∙ rw (eq-eqb _ _ same, le-ltb _ _ long, l8) refl

pub short_bitmap : (bytes : List ℕ) (at n w m v : ℕ) (codes : List ℕ) (size : ℕ) → Measured bytes at n w m v codes size → m ≡ size → at + w + n + v + size ≤ length bytes →
    all_metadata_fault bytes (at + w + n + v) codes ≡ None → length bytes < at + w + n + v + size + bitmap_size n → columns_fault bytes at ≡ Some (record { kind = Truncated; at = at + w + n + v + size })
short_bitmap bytes at n w m v codes size c same long l8 short = lines_6 bytes at n w m v codes size c ∙ rw (eq-eqb _ _ same, le-ltb _ _ long, l8, lt-ltb _ _ short) refl

pub no_line : (bytes : List ℕ) (at n w m v : ℕ) (codes : List ℕ) (size : ℕ) → Measured bytes at n w m v codes size → m ≡ size → at + w + n + v + size ≤ length bytes →
    all_metadata_fault bytes (at + w + n + v) codes ≡ None → at + w + n + v + size + bitmap_size n ≤ length bytes → columns_fault bytes at ≡ None
no_line bytes at n w m v codes size c same long l8 enough = lines_6 bytes at n w m v codes size c ∙ rw (eq-eqb _ _ same, le-ltb _ _ long, l8, le-ltb _ _ enough) refl
