-- Column types and their bytes.
use Rattle.binlog.proofs.Names.{◌≡◌, ℕ, zero, suc, ◌+◌, ◌-◌, ◌*◌, ◌/◌, ◌%◌, ◌<◌, ◌≤◌, Bool, true, false, ◌==◌, ◌&&◌, not, List, [], ◌∷◌, ◌++◌, length, get_or, Option, Some, None, Result, Ok, Err, refl, sym, ap, subst, ◌∙◌, arith, inl, inr, nat_le, cases_eq, ne_eqb, eqb-true, leb-true, ltb-true, le-leb, le-ltb, lt-ltb, and_parts, cases_lt, length-append, type_code, metadata, is_lawful, IsColumn, column_fault, EventFaultKind, Truncated, Metadata, ColumnKind, ColumnType, Long, Varchar, Blob, Bit, Char, Enum, Set, IsBytes, drop_front}
use Rattle.std.proofs.Common.{drop, IsTrue, IfOk, IfErr, bit_and, bit_or, add-zero}
use Rattle.std.specs.Prelude.{bit_xor}
use Rattle.binlog.specs.Column.{string_metadata, HasColumn, metadata_size, metadata_fault, is_between, string_fault, when}
use Rattle.binlog.specs.declared.fault.EventFaultKind.TheVariants.{ColumnType as UnknownColumn}
use Rattle.binlog.specs.declared.column.kind.ColumnKind.TheVariants.{Tiny, Short, Int24, LongLong, NewDecimal, Float, Double, Date, Year, Timestamp2, Datetime2, Time2}
use Rattle.binlog.specs.Columns.{kind_of}

-- ---- The types that are read, by their bytes.

pub data Known : ℕ → ℕ → Type 0 where
  is_tiny : Known 1 0
  is_short : Known 2 0
  is_long : Known 3 0
  is_long_long : Known 8 0
  is_int24 : Known 9 0
  is_date : Known 10 0
  is_year : Known 13 0
  is_float : Known 4 1
  is_double : Known 5 1
  is_timestamp : Known 17 1
  is_datetime : Known 18 1
  is_time : Known 19 1
  is_blob : Known 252 1
  is_varchar : Known 15 2
  is_bit : Known 16 2
  is_decimal : Known 246 2
  is_string : Known 254 2

of_code : (k s code size : ℕ) → Known k s → metadata_size k ≡ Some s → code ≡ k → metadata_size code ≡ Some size → Known code size
of_code k s code size known is e has =
    let same : s ≡ size = cc in
    subst (λ (p : ℕ × ℕ). Known p.0 p.1) (λ i. (sym e i, same i)) known

pub known : (code size : ℕ) → metadata_size code ≡ Some size → Known code size
unfolding metadata_size
known code size has =
    elim (cases_eq code 1) as (λ _. Known code size) [
      | inl e ↦ of_code 1 0 code size is_tiny refl e has
      | inr n1 ↦
          elim (cases_eq code 2) as (λ _. Known code size) [
            | inl e ↦ of_code 2 0 code size is_short refl e has
            | inr n2 ↦
                elim (cases_eq code 3) as (λ _. Known code size) [
                  | inl e ↦ of_code 3 0 code size is_long refl e has
                  | inr n3 ↦
                      elim (cases_eq code 8) as (λ _. Known code size) [
                        | inl e ↦ of_code 8 0 code size is_long_long refl e has
                        | inr n8 ↦
                            elim (cases_eq code 9) as (λ _. Known code size) [
                              | inl e ↦ of_code 9 0 code size is_int24 refl e has
                              | inr n9 ↦
                                  elim (cases_eq code 10) as (λ _. Known code size) [
                                    | inl e ↦ of_code 10 0 code size is_date refl e has
                                    | inr n10 ↦
                                        elim (cases_eq code 13) as (λ _. Known code size) [
                                          | inl e ↦ of_code 13 0 code size is_year refl e has
                                          | inr n13 ↦
                                              elim (cases_eq code 4) as (λ _. Known code size) [
                                                | inl e ↦ of_code 4 1 code size is_float refl e has
                                                | inr n4 ↦
                                                    elim (cases_eq code 5) as (λ _. Known code size) [
                                                      | inl e ↦ of_code 5 1 code size is_double refl e has
                                                      | inr n5 ↦
                                                          elim (cases_eq code 17) as (λ _. Known code size) [
                                                            | inl e ↦ of_code 17 1 code size is_timestamp refl e has
                                                            | inr n17 ↦
                                                                elim (cases_eq code 18) as (λ _. Known code size) [
                                                                  | inl e ↦ of_code 18 1 code size is_datetime refl e has
                                                                  | inr n18 ↦
                                                                      elim (cases_eq code 19) as (λ _. Known code size) [
                                                                        | inl e ↦ of_code 19 1 code size is_time refl e has
                                                                        | inr n19 ↦
                                                                            elim (cases_eq code 252) as (λ _. Known code size) [
                                                                              | inl e ↦ of_code 252 1 code size is_blob refl e has
                                                                              | inr n252 ↦
                                                                                  elim (cases_eq code 15) as (λ _. Known code size) [
                                                                                    | inl e ↦ of_code 15 2 code size is_varchar refl e has
                                                                                    | inr n15 ↦
                                                                                        elim (cases_eq code 16) as (λ _. Known code size) [
                                                                                          | inl e ↦ of_code 16 2 code size is_bit refl e has
                                                                                          | inr n16 ↦
                                                                                              elim (cases_eq code 246) as (λ _. Known code size) [
                                                                                                | inl e ↦ of_code 246 2 code size is_decimal refl e has
                                                                                                | inr n246 ↦
                                                                                                    elim (cases_eq code 254) as (λ _. Known code size) [
                                                                                                      | inl e ↦ of_code 254 2 code size is_string refl e has
                                                                                                      | inr n254 ↦
                                                                                                          let none : metadata_size code ≡ None = rw (ne_eqb code 1 n1, ne_eqb code 2 n2, ne_eqb code 3 n3, ne_eqb code 8 n8, ne_eqb code 9 n9, ne_eqb code 10 n10, ne_eqb code 13 n13, ne_eqb code 4 n4, ne_eqb code 5 n5, ne_eqb code 17 n17, ne_eqb code 18 n18, ne_eqb code 19 n19, ne_eqb code 252 n252, ne_eqb code 15 n15, ne_eqb code 16 n16, ne_eqb code 246 n246, ne_eqb code 254 n254) refl in
                                                                                                          absurd cc
                                                                                                    ]
                                                                                              ]
                                                                                        ]
                                                                                  ]
                                                                            ]
                                                                      ]
                                                                ]
                                                          ]
                                                    ]
                                              ]
                                        ]
                                  ]
                            ]
                      ]
                ]
          ]
    ]

-- no other type has this many bytes of metadata
pub no_more_0 : (code : ℕ) → Known code 0 → (code ≡ 1 → ⊥) → (code ≡ 2 → ⊥) → (code ≡ 3 → ⊥) → (code ≡ 8 → ⊥) → (code ≡ 9 → ⊥) → (code ≡ 10 → ⊥) → (code ≡ 13 → ⊥) → ⊥
no_more_0 _ is_tiny a b c d e f g = a refl
no_more_0 _ is_short a b c d e f g = b refl
no_more_0 _ is_long a b c d e f g = c refl
no_more_0 _ is_long_long a b c d e f g = d refl
no_more_0 _ is_int24 a b c d e f g = e refl
no_more_0 _ is_date a b c d e f g = f refl
no_more_0 _ is_year a b c d e f g = g refl

pub no_more_1 : (code : ℕ) → Known code 1 → (code ≡ 4 → ⊥) → (code ≡ 5 → ⊥) → (code ≡ 17 → ⊥) → (code ≡ 18 → ⊥) → (code ≡ 19 → ⊥) → (code ≡ 252 → ⊥) → ⊥
no_more_1 _ is_float a b c d e f = a refl
no_more_1 _ is_double a b c d e f = b refl
no_more_1 _ is_timestamp a b c d e f = c refl
no_more_1 _ is_datetime a b c d e f = d refl
no_more_1 _ is_time a b c d e f = e refl
no_more_1 _ is_blob a b c d e f = f refl

pub no_more_2 : (code : ℕ) → Known code 2 → (code ≡ 15 → ⊥) → (code ≡ 16 → ⊥) → (code ≡ 246 → ⊥) → (code ≡ 254 → ⊥) → ⊥
no_more_2 _ is_varchar a b c d = a refl
no_more_2 _ is_bit a b c d = b refl
no_more_2 _ is_decimal a b c d = c refl
no_more_2 _ is_string a b c d = d refl

pub at_most_two : (code size : ℕ) → Known code size → size ≤ 2
at_most_two _ _ is_tiny = omega arith
at_most_two _ _ is_short = omega arith
at_most_two _ _ is_long = omega arith
at_most_two _ _ is_long_long = omega arith
at_most_two _ _ is_int24 = omega arith
at_most_two _ _ is_date = omega arith
at_most_two _ _ is_year = omega arith
at_most_two _ _ is_float = omega arith
at_most_two _ _ is_double = omega arith
at_most_two _ _ is_timestamp = omega arith
at_most_two _ _ is_datetime = omega arith
at_most_two _ _ is_time = omega arith
at_most_two _ _ is_blob = omega arith
at_most_two _ _ is_varchar = omega arith
at_most_two _ _ is_bit = omega arith
at_most_two _ _ is_decimal = omega arith
at_most_two _ _ is_string = omega arith

-- ---- The real type and the length of a string.

abbrev flipped : ℕ → ℕ
flipped first = bit_xor (bit_and first 48) 48

abbrev all_below : ℕ → (ℕ → Bool) → Bool
all_below zero p = true
all_below (suc n) p = p n && all_below n p

all_below-at : (n : ℕ) (p : ℕ → Bool) → all_below n p ≡ true → (k : ℕ) → k < n → p k ≡ true
all_below-at zero p all k short = absurd (omega (arith, short))
all_below-at (suc n) p all k short =
    let parts = and_parts (p n) (all_below n p) all in
    elim (cases_eq k n) as (λ _. p k ≡ true) [ inl e ↦ ap p e ∙ parts.0 | inr other ↦ all_below-at n p parts.1 k (omega (arith, short, other)) ]

abbrev is_flip : ℕ → Bool
is_flip first = (flipped first % 16 == 0) && (nat_le (flipped first) 48 && (first + flipped first == bit_or first 48))

every_byte : all_below 256 is_flip ≡ true
every_byte = refl

pub record Flip (first : ℕ) : Type 0 where
  pub whole : flipped first % 16 ≡ 0
  pub small : flipped first ≤ 48
  pub sum : first + flipped first ≡ bit_or first 48

pub flip : (first : ℕ) → first < 256 → Flip first
flip first byte =
    let all = all_below-at 256 is_flip every_byte first byte in
    let p = and_parts (flipped first % 16 == 0) (nat_le (flipped first) 48 && (first + flipped first == bit_or first 48)) all in
    let q = and_parts (nat_le (flipped first) 48) (first + flipped first == bit_or first 48) p.1 in
    record { whole = eqb-true _ _ p.0; small = leb-true _ _ q.0; sum = eqb-true _ _ q.1 }

-- the bytes of a string of this real type and length
pub string_bytes : (real first second size : ℕ) → first < 256 → second < 256 → bit_or first 48 ≡ real → size ≡ second + 16 * flipped first →
    string_metadata real size ≡ first ∷ second ∷ []
string_bytes real first second size byte byte' is e =
    let f = flip first byte in
    let whole = f.whole in
    let sum = f.sum in
    let high : real - 16 * (size / 256) ≡ first = omega arith in
    let low : size % 256 ≡ second = omega arith in
    λ i. high i ∷ low i ∷ []

pub string_small : (first second : ℕ) → first < 256 → second < 256 → second + 16 * flipped first < 1024
string_small first second byte byte' = let f = flip first byte in let small = f.small in omega arith

-- ---- What is wrong with a type and its metadata.

pub fault_of : (code size : ℕ) (bytes : List ℕ) (fault : Option EventFaultKind) → metadata_size code ≡ Some size → size ≤ length bytes →
    metadata_fault code (get_or bytes 0 0) (get_or bytes 1 0) ≡ fault → column_fault code bytes ≡ fault
fault_of code size bytes fault has long is = rw (has, le-ltb _ _ long) is

pub too_short : (code size : ℕ) (bytes : List ℕ) → metadata_size code ≡ Some size → length bytes < size → column_fault code bytes ≡ Some Truncated
too_short code size bytes has short = rw (has, lt-ltb _ _ short) refl

pub not_read : (code : ℕ) (bytes : List ℕ) → metadata_size code ≡ None → column_fault code bytes ≡ Some (UnknownColumn code)
not_read code bytes none = rw none refl

pub each_second : {X : Type 0} (r : Result X EventFaultKind) (lawful : Bool) (code first : ℕ) →
    ((second : ℕ) → metadata_fault code first second ≡ when (not lawful) Metadata) → IfErr r (λ fault. when (not lawful) Metadata ≡ Some fault) →
    IfErr r (λ fault. (second : ℕ) → metadata_fault code first second ≡ Some fault)
each_second (Ok x) lawful code first is err = tt
each_second (Err f) lawful code first is err = λ second. is second ∙ err

-- ---- A lawful type is not refused.

length_at_least : (front rest : List ℕ) (n : ℕ) → length front ≡ n → n ≤ length (front ++ rest)
length_at_least front rest n e = omega (arith, e, length-append front rest)

string_first : (k : ℕ) → k < 4 → (bit_or (254 - 16 * k) 48 ≡ 254) × (flipped (254 - 16 * k) ≡ 16 * k)
string_first zero small = (refl, refl)
string_first (suc zero) small = (refl, refl)
string_first (suc (suc zero)) small = (refl, refl)
string_first (suc (suc (suc zero))) small = (refl, refl)
string_first (suc (suc (suc (suc k)))) small = absurd (omega (arith, small))

pub lawful_size : (kind : ColumnKind) → metadata_size (type_code kind) ≡ Some (length (metadata kind))
unfolding metadata_size
lawful_size Tiny = refl
lawful_size _ = refl

-- the metadata of a lawful type has no fault
lawful_metadata : (kind : ColumnKind) (rest : List ℕ) → IsTrue (is_lawful kind) →
    metadata_fault (type_code kind) (get_or (metadata kind ++ rest) 0 0) (get_or (metadata kind ++ rest) 1 0) ≡ None
unfolding metadata_fault
lawful_metadata (Blob prefix) rest lawful = rw lawful refl
lawful_metadata (Bit bits) rest lawful =
    let e : 8 * (bits / 8) + bits % 8 ≡ bits = omega arith in
    let small : bits % 8 ≤ 7 = omega arith in
    rw (le-leb _ _ small, e, lawful) refl
lawful_metadata (NewDecimal precision scale) rest lawful = rw lawful refl
lawful_metadata (Timestamp2 fraction) rest lawful = rw lawful refl
lawful_metadata (Datetime2 fraction) rest lawful = rw lawful refl
lawful_metadata (Time2 fraction) rest lawful = rw lawful refl
lawful_metadata (Char maximum) rest lawful =
    let small = ltb-true _ _ lawful in
    let k : maximum / 256 < 4 = omega arith in
    let f = string_first (maximum / 256) k in
    rw (f.0) refl
lawful_metadata (Enum width) rest lawful =
    let p = and_parts (nat_le 1 width) (nat_le width 2) lawful in
    let small = leb-true _ _ p.1 in
    let high : width / 256 ≡ 0 = omega arith in
    let low : width % 256 ≡ width = omega arith in
    rw (high, low, add-zero width, lawful) refl
lawful_metadata (Set width) rest lawful =
    let p = and_parts (nat_le 1 width) (nat_le width 8) lawful in
    let small = leb-true _ _ p.1 in
    let high : width / 256 ≡ 0 = omega arith in
    let low : width % 256 ≡ width = omega arith in
    rw (high, low, add-zero width, lawful) refl
lawful_metadata _ rest lawful = refl

pub no_fault : (kind : ColumnKind) (code : ℕ) (rest bytes : List ℕ) → IsColumn kind code rest bytes → column_fault code bytes ≡ None
no_fault kind code rest bytes is =
    (λ i. column_fault (is.code_is i) (is.bytes_are i))
    ∙ fault_of (type_code kind) (length (metadata kind)) (metadata kind ++ rest) None (lawful_size kind) (length_at_least (metadata kind) rest _ refl) (lawful_metadata kind rest is.lawful)

-- ---- A type is determined by its bytes.

pub kind_is : (kind : ColumnKind) (rest : List ℕ) → IsTrue (is_lawful kind) →
    kind_of (type_code kind) (get_or (metadata kind ++ rest) 0 0) (get_or (metadata kind ++ rest) 1 0) ≡ kind
unfolding kind_of
kind_is (Varchar maximum) rest lawful =
    let small = ltb-true _ _ lawful in
    let e : maximum % 256 + 256 * (maximum / 256 % 256) ≡ maximum = omega arith in
    ap (λ (m : ℕ). Varchar m) e
kind_is (Bit bits) rest lawful = let e : 8 * (bits / 8) + bits % 8 ≡ bits = omega arith in ap (λ (m : ℕ). Bit m) e
kind_is (Char maximum) rest lawful =
    let small = ltb-true _ _ lawful in
    let k : maximum / 256 < 4 = omega arith in
    let f = string_first (maximum / 256) k in
    let e : maximum % 256 + 16 * (16 * (maximum / 256)) ≡ maximum = omega arith in
    rw (f.0, f.1, e) refl
kind_is (Enum width) rest lawful =
    let p = and_parts (nat_le 1 width) (nat_le width 2) lawful in
    let small = leb-true _ _ p.1 in
    let high : width / 256 ≡ 0 = omega arith in
    let low : width % 256 ≡ width = omega arith in
    rw (high, low) refl
kind_is (Set width) rest lawful =
    let p = and_parts (nat_le 1 width) (nat_le width 8) lawful in
    let small = leb-true _ _ p.1 in
    let high : width / 256 ≡ 0 = omega arith in
    let low : width % 256 ≡ width = omega arith in
    rw (high, low) refl
kind_is _ rest lawful = refl

pub one_column : (code : ℕ) (a b : ColumnKind) (x y bytes : List ℕ) → IsColumn a code x bytes → IsColumn b code y bytes → (a ≡ b) × (x ≡ y)
one_column code a b x y bytes is_a is_b =
    let p : kind_of code (get_or bytes 0 0) (get_or bytes 1 0) ≡ a = (λ i. kind_of (is_a.code_is i) (get_or (is_a.bytes_are i) 0 0) (get_or (is_a.bytes_are i) 1 0)) ∙ kind_is a x is_a.lawful in
    let q : kind_of code (get_or bytes 0 0) (get_or bytes 1 0) ≡ b = (λ i. kind_of (is_b.code_is i) (get_or (is_b.bytes_are i) 0 0) (get_or (is_b.bytes_are i) 1 0)) ∙ kind_is b y is_b.lawful in
    let same : a ≡ b = sym p ∙ q in
    (same, sym (drop_front (metadata a) x) ∙ ap (drop (length (metadata a))) (sym is_a.bytes_are ∙ is_b.bytes_are) ∙ ap (λ k. drop (length (metadata k)) (metadata b ++ y)) same ∙ drop_front (metadata b) y)

pub exactly_two : (code size : ℕ) → metadata_size code ≡ Some size → (size ≡ 0 → ⊥) → (size ≡ 1 → ⊥) → metadata_size code ≡ Some 2
exactly_two code size has a b = let few = at_most_two code size (known code size has) in let e : size ≡ 2 = omega (arith, few, a, b) in has ∙ ap Some e

pub not_both : (kind : ColumnKind) (code : ℕ) (rest bytes : List ℕ) (fault : EventFaultKind) → IsColumn kind code rest bytes → column_fault code bytes ≡ Some fault → ⊥
not_both kind code rest bytes fault is is_fault = let none = no_fault kind code rest bytes is in absurd cc

pub metadata_of : (r : Result ColumnType EventFaultKind) (kind : ColumnKind) (bytes : List ℕ) → metadata kind ≡ bytes → IfOk r (λ column. column.kind ≡ kind) →
    IfOk r (λ column. metadata column.kind ≡ bytes)
metadata_of (Ok column) kind bytes is ok = ap metadata ok ∙ is
metadata_of (Err fault) kind bytes is ok = tt

-- ---- Metadata without a fault is that of a lawful type.

when_none : (test : Bool) → when (not test) Metadata ≡ None → test ≡ true
when_none true none = refl
when_none false none = absurd cc

long_enough : (code size : ℕ) (bytes : List ℕ) → metadata_size code ≡ Some size → column_fault code bytes ≡ None →
    (size ≤ length bytes) × (metadata_fault code (get_or bytes 0 0) (get_or bytes 1 0) ≡ None)
long_enough code size bytes has none =
    elim (cases_lt (length bytes) size) as (λ _. (size ≤ length bytes) × (metadata_fault code (get_or bytes 0 0) (get_or bytes 1 0) ≡ None)) [
      | inl below ↦ (let is = too_short code size bytes has below in absurd cc)
      | inr long ↦ (long, sym (fault_of code size bytes _ has long refl) ∙ none)
    ]

-- a string: one of the three real types
string_column : (first second : ℕ) (rest : List ℕ) → first < 256 → second < 256 → string_fault (bit_or first 48) (second + 16 * flipped first) ≡ None → HasColumn 254 (first ∷ second ∷ rest)
string_column first second rest byte byte' none =
    let size = second + 16 * flipped first in
    let small = string_small first second byte byte' in
    elim (cases_eq (bit_or first 48) 254) as (λ _. HasColumn 254 (first ∷ second ∷ rest)) [
      | inl char ↦ record {
        kind = Char size;
        rest = rest;
        is_column = record { lawful = lt-ltb _ _ small; code_is = refl; bytes_are = ap (λ m. m ++ rest) (sym (string_bytes 254 first second size byte byte' char refl)) };
      }
      | inr no_char ↦ elim (cases_eq (bit_or first 48) 247) as (λ _. HasColumn 254 (first ∷ second ∷ rest)) [
        | inl enum ↦ (let e : string_fault (bit_or first 48) size ≡ when (not (is_between 1 2 size)) Metadata = rw (enum) refl in
            record {
              kind = Enum size;
              rest = rest;
              is_column = record { lawful = when_none (is_between 1 2 size) (sym e ∙ none); code_is = refl; bytes_are = ap (λ m. m ++ rest) (sym (string_bytes 247 first second size byte byte' enum refl)) };
            })
        | inr no_enum ↦ elim (cases_eq (bit_or first 48) 248) as (λ _. HasColumn 254 (first ∷ second ∷ rest)) [
          | inl set ↦ (let e : string_fault (bit_or first 48) size ≡ when (not (is_between 1 8 size)) Metadata = rw (set) refl in
              record {
                kind = Set size;
                rest = rest;
                is_column = record { lawful = when_none (is_between 1 8 size) (sym e ∙ none); code_is = refl; bytes_are = ap (λ m. m ++ rest) (sym (string_bytes 248 first second size byte byte' set refl)) };
              })
          | inr no_set ↦ (let e : string_fault (bit_or first 48) size ≡ Some (UnknownColumn (bit_or first 48)) = rw (ne_eqb _ _ no_char, ne_eqb _ _ no_enum, ne_eqb _ _ no_set) refl in absurd cc)
        ]
      ]
    ]

plain_column : (kind : ColumnKind) (bytes : List ℕ) → IsTrue (is_lawful kind) → metadata kind ≡ [] → HasColumn (type_code kind) bytes
plain_column kind bytes lawful empty = record { kind = kind; rest = bytes; is_column = record { lawful = lawful; code_is = refl; bytes_are = ap (λ m. m ++ bytes) (sym empty) } }

by_known : (code size : ℕ) → Known code size → (bytes : List ℕ) → IsBytes bytes → size ≤ length bytes → metadata_fault code (get_or bytes 0 0) (get_or bytes 1 0) ≡ None → HasColumn code bytes
unfolding metadata_fault
by_known _ _ is_tiny bytes fits long none = plain_column Tiny bytes refl refl
by_known _ _ is_short bytes fits long none = plain_column Short bytes refl refl
by_known _ _ is_long bytes fits long none = plain_column Long bytes refl refl
by_known _ _ is_long_long bytes fits long none = plain_column LongLong bytes refl refl
by_known _ _ is_int24 bytes fits long none = plain_column Int24 bytes refl refl
by_known _ _ is_date bytes fits long none = plain_column Date bytes refl refl
by_known _ _ is_year bytes fits long none = plain_column Year bytes refl refl
by_known _ _ is_float [] fits long none = absurd (omega (arith, long))
by_known _ _ is_float (a ∷ rest) fits long none = record { kind = Float; rest = rest; is_column = record { lawful = refl; code_is = refl; bytes_are = ap (λ b. b ∷ rest) (eqb-true _ _ (when_none (a == 4) none)) } }
by_known _ _ is_double [] fits long none = absurd (omega (arith, long))
by_known _ _ is_double (a ∷ rest) fits long none = record { kind = Double; rest = rest; is_column = record { lawful = refl; code_is = refl; bytes_are = ap (λ b. b ∷ rest) (eqb-true _ _ (when_none (a == 8) none)) } }
by_known _ _ is_timestamp [] fits long none = absurd (omega (arith, long))
by_known _ _ is_timestamp (a ∷ rest) fits long none = record { kind = Timestamp2 a; rest = rest; is_column = record { lawful = when_none (nat_le a 6) none; code_is = refl; bytes_are = refl } }
by_known _ _ is_datetime [] fits long none = absurd (omega (arith, long))
by_known _ _ is_datetime (a ∷ rest) fits long none = record { kind = Datetime2 a; rest = rest; is_column = record { lawful = when_none (nat_le a 6) none; code_is = refl; bytes_are = refl } }
by_known _ _ is_time [] fits long none = absurd (omega (arith, long))
by_known _ _ is_time (a ∷ rest) fits long none = record { kind = Time2 a; rest = rest; is_column = record { lawful = when_none (nat_le a 6) none; code_is = refl; bytes_are = refl } }
by_known _ _ is_blob [] fits long none = absurd (omega (arith, long))
by_known _ _ is_blob (a ∷ rest) fits long none = record { kind = Blob a; rest = rest; is_column = record { lawful = when_none (is_between 1 4 a) none; code_is = refl; bytes_are = refl } }
by_known _ _ is_varchar [] fits long none = absurd (omega (arith, long))
by_known _ _ is_varchar (a ∷ []) fits long none = absurd (omega (arith, long))
by_known _ _ is_varchar (a ∷ b ∷ rest) fits long none =
    let byte : a < 256 = fits 0 in
    let byte' : b < 256 = fits 1 in
    let small : a + 256 * b < 65536 = omega arith in
    let low : a ≡ (a + 256 * b) % 256 = omega arith in
    let high : b ≡ (a + 256 * b) / 256 % 256 = omega arith in
    record { kind = Varchar (a + 256 * b); rest = rest; is_column = record { lawful = lt-ltb _ _ small; code_is = refl; bytes_are = λ i. low i ∷ high i ∷ rest } }
by_known _ _ is_bit [] fits long none = absurd (omega (arith, long))
by_known _ _ is_bit (a ∷ []) fits long none = absurd (omega (arith, long))
by_known _ _ is_bit (a ∷ b ∷ rest) fits long none =
    let p = and_parts (nat_le a 7) (is_between 1 64 (8 * b + a)) (when_none (nat_le a 7 && is_between 1 64 (8 * b + a)) none) in
    let small = leb-true _ _ p.0 in
    let low : a ≡ (8 * b + a) % 8 = omega arith in
    let high : b ≡ (8 * b + a) / 8 = omega arith in
    record { kind = Bit (8 * b + a); rest = rest; is_column = record { lawful = p.1; code_is = refl; bytes_are = λ i. low i ∷ high i ∷ rest } }
by_known _ _ is_decimal [] fits long none = absurd (omega (arith, long))
by_known _ _ is_decimal (a ∷ []) fits long none = absurd (omega (arith, long))
by_known _ _ is_decimal (a ∷ b ∷ rest) fits long none =
    record { kind = NewDecimal a b; rest = rest; is_column = record { lawful = when_none (is_between 1 65 a && (nat_le b 30 && nat_le b a)) none; code_is = refl; bytes_are = refl } }
by_known _ _ is_string [] fits long none = absurd (omega (arith, long))
by_known _ _ is_string (a ∷ []) fits long none = absurd (omega (arith, long))
by_known _ _ is_string (a ∷ b ∷ rest) fits long none = string_column a b rest (fits 0) (fits 1) none

by_size : (size : Option ℕ) (code : ℕ) (bytes : List ℕ) → metadata_size code ≡ size → IsBytes bytes → column_fault code bytes ≡ None → HasColumn code bytes
by_size None code bytes has fits none = let is = not_read code bytes has in absurd cc
by_size (Some size) code bytes has fits none = let p = long_enough code size bytes has none in by_known code size (known code size has) bytes fits p.0 p.1

pub some_column : (code : ℕ) (bytes : List ℕ) → IsBytes bytes → column_fault code bytes ≡ None → HasColumn code bytes
some_column code bytes fits none = by_size (metadata_size code) code bytes refl fits none
