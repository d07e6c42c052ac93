-- The rows that pairs are written as.
use Rattle.binlog.proofs.Names.{◌≡◌, ℕ, zero, suc, ◌+◌, ◌*◌, ◌/◌, ◌%◌, ◌<◌, ◌≤◌, ◌^◌, ◌==◌, Bool, true, false, ◌&&◌, List, [], ◌∷◌, length, get_or, map, Some, refl, sym, ap, ◌∙◌, arith, inl, inr, nat_lt, and_parts, and_from, eqb-true, eq-eqb, ltb-true, lt-ltb, cases_Bool, false≢true, length-map, length-map-range_with_len, CellValue, null_cell, number_cell, bytes_cell, is_null, owned_value, owned_values, shape, IsValue, kinds, bitmap_size, is_set, AreValues, owned_pairs, bitmap_byte, value_bytes, values_bytes, rows_bytes, value_fits, row_fits, pairs_fit, ColumnKind, ColumnType, RowsKind, Write, Update, Delete, Shape, Number, Fixed, Prefixed}
use Rattle.std.proofs.Common.{drop}
use Rattle.std.specs.Prelude.{slice_get}
use Rattle.std.proofs.Math.Nat.{div-div-eq-div-mul, div-one, pow-suc}
use Rattle.std.proofs.lemmas.List.{drop_all}
use Rattle.std.proofs.lemmas.List.FromFn.{get_or-map-range_with_len}
use Rattle.binlog.specs.Row.{IsRow}
use Rattle.binlog.specs.Rows.{PairValue, inserted, deleted, updated, IsPair, AreRows}
use Rattle.binlog.specs.RowsView.{owned_pair}
use Rattle.binlog.specs.RowsWritten.{HaveRows, digit, bits_number, bitmap_bytes, row_bytes, pair_bytes, pair_fits}
use Rattle.binlog.specs.declared.cell.OwnedCell.{OwnedCell}
use Rattle.binlog.specs.declared.row_pair.OwnedPair.{OwnedPair}

-- ---- Bits.

digit_small : (b : Bool) → digit b ≤ 1
digit_small true = omega arith
digit_small false = omega arith

bit_is : (k m : ℕ) (bit : ℕ → Bool) → m < k → bits_number k bit / 2 ^ m % 2 ≡ digit (bit m)
bit_is zero m bit short = absurd (omega (arith, short))
bit_is (suc k) zero bit short =
    let small = digit_small (bit 0) in
    ap (λ (n : ℕ). n % 2) (div-one (bits_number (suc k) bit)) ∙ (omega (arith, small))
bit_is (suc k) (suc m) bit short =
    let small = digit_small (bit 0) in
    let rest = bits_number k (λ i. bit (suc i)) in
    let half : (digit (bit 0) + 2 * rest) / 2 ≡ rest = omega (arith, small) in
    let power : 2 ^ suc m ≡ 2 * 2 ^ m = pow-suc 2 m ∙ (omega arith) in
    let shift : (digit (bit 0) + 2 * rest) / 2 ^ suc m ≡ rest / 2 ^ m =
    ap (λ p. (digit (bit 0) + 2 * rest) / p) power ∙ sym (div-div-eq-div-mul (digit (bit 0) + 2 * rest) 2 (2 ^ m)) ∙ ap (λ n. n / 2 ^ m) half in
    ap (λ n. n % 2) shift ∙ bit_is k m (λ i. bit (suc i)) (omega (arith, short))

digit_set : (b : Bool) → (digit b == 1) ≡ b
digit_set true = refl
digit_set false = refl

in_bitmap : (n i : ℕ) → i < n → i / 8 < bitmap_size n
in_bitmap n i short = grind (arith, short)

pub set_bit : (bits : List Bool) (i : ℕ) → i < length bits → is_set (bitmap_bytes bits) i ≡ get_or bits i false
set_bit bits i short =
    let own : 0 + i / 8 ≡ i / 8 = omega arith in
    let byte : get_or (bitmap_bytes bits) (i / 8) 0 ≡ bitmap_byte bits (i / 8) = get_or-map-range_with_len (bitmap_byte bits) 0 (bitmap_size (length bits)) (i / 8) (i / 8) 0 (in_bitmap (length bits) i short) own in
    let low : i % 8 < 8 = omega arith in
    let place : 8 * (i / 8) + i % 8 ≡ i = omega arith in
    ap (λ b. b / 2 ^ (i % 8) % 2 == 1) byte ∙ ap (λ d. d == 1) (bit_is 8 (i % 8) (λ j. get_or bits (8 * (i / 8) + j) false) low) ∙ digit_set (get_or bits (8 * (i / 8) + i % 8) false) ∙ ap (λ j. get_or bits j false) place

get_there : (bits : List Bool) (i : ℕ) → i < length bits → slice_get bits i ≡ Some (get_or bits i false)
get_there [] i short = absurd (omega (arith, short))
get_there (b ∷ bits) zero short = refl
get_there (b ∷ bits) (suc i) short = get_there bits i (omega (arith, short))

-- ---- Values.

pub is_value : (s : Shape) (cell : CellValue) → value_fits s cell ≡ true → is_null cell ≡ false → IsValue s cell (value_bytes s cell)
is_value s null_cell fits not_null = absurd cc
is_value (Number width) (number_cell n w) fits not_null = let p = and_parts (w == width) (nat_lt n (256 ^ width)) fits in (eqb-true _ _ p.0, ltb-true _ _ p.1, refl)
is_value (Number width) (bytes_cell value) fits not_null = absurd cc
is_value (Fixed size) (number_cell n w) fits not_null = absurd cc
is_value (Fixed size) (bytes_cell value) fits not_null = (refl, eqb-true _ _ fits)
is_value (Prefixed size) (number_cell n w) fits not_null = absurd cc
is_value (Prefixed size) (bytes_cell value) fits not_null = (ltb-true _ _ fits, refl)

fits_value : (s : Shape) (cell : CellValue) (bytes : List ℕ) → IsValue s cell bytes → value_fits s cell ≡ true
fits_value s null_cell bytes is = refl
fits_value (Number width) (number_cell n w) bytes is = and_from (w == width) (nat_lt n (256 ^ width)) (eq-eqb _ _ is.0) (lt-ltb _ _ is.1)
fits_value (Number width) (bytes_cell value) bytes is = absurd is
fits_value (Fixed size) (number_cell n w) bytes is = absurd is
fits_value (Fixed size) (bytes_cell value) bytes is = eq-eqb _ _ is.1
fits_value (Prefixed size) (number_cell n w) bytes is = absurd is
fits_value (Prefixed size) (bytes_cell value) bytes is = lt-ltb _ _ is.0

pub as_long : (types : List ColumnKind) (cells : List CellValue) → row_fits types cells ≡ true → length cells ≡ length types
as_long [] [] fits = refl
as_long [] (cell ∷ cells) fits = absurd cc
as_long (t ∷ types) [] fits = absurd cc
as_long (t ∷ types) (cell ∷ cells) fits = let p = and_parts (value_fits (shape t) cell) (row_fits types cells) fits in ap suc (as_long types cells p.1)

are_values : (types : List ColumnKind) (cells : List CellValue) → row_fits types cells ≡ true → AreValues types cells (values_bytes types cells)
are_values [] [] fits = refl
are_values [] (cell ∷ cells) fits = absurd cc
are_values (t ∷ types) [] fits = absurd cc
are_values (t ∷ types) (null_cell ∷ cells) fits = are_values types cells (and_parts (value_fits (shape t) null_cell) (row_fits types cells) fits).1
are_values (t ∷ types) (number_cell n w ∷ cells) fits =
    let p = and_parts (value_fits (shape t) (number_cell n w)) (row_fits types cells) fits in
    (value_bytes (shape t) (number_cell n w), values_bytes types cells, refl, is_value (shape t) (number_cell n w) p.0 refl, are_values types cells p.1)
are_values (t ∷ types) (bytes_cell v ∷ cells) fits =
    let p = and_parts (value_fits (shape t) (bytes_cell v)) (row_fits types cells) fits in
    (value_bytes (shape t) (bytes_cell v), values_bytes types cells, refl, is_value (shape t) (bytes_cell v) p.0 refl, are_values types cells p.1)

values_fit : (types : List ColumnKind) (cells : List CellValue) (bytes : List ℕ) → AreValues types cells bytes → row_fits types cells ≡ true
values_fit [] [] bytes are = refl
values_fit [] (cell ∷ cells) bytes are = absurd are
values_fit (t ∷ types) [] bytes are = absurd are
values_fit (t ∷ types) (null_cell ∷ cells) bytes are = and_from (value_fits (shape t) null_cell) (row_fits types cells) refl (values_fit types cells bytes are)
values_fit (t ∷ types) (number_cell n w ∷ cells) bytes are = and_from (value_fits (shape t) (number_cell n w)) (row_fits types cells) (fits_value (shape t) (number_cell n w) are.0 are.3) (values_fit types cells are.1 are.4)
values_fit (t ∷ types) (bytes_cell v ∷ cells) bytes are = and_from (value_fits (shape t) (bytes_cell v)) (row_fits types cells) (fits_value (shape t) (bytes_cell v) are.0 are.3) (values_fit types cells are.1 are.4)

-- ---- Rows.

pub is_row : (types : List ColumnKind) (cells : List CellValue) → row_fits types cells ≡ true → IsRow types cells (row_bytes types cells)
is_row types cells fits =
    let bits = map is_null cells in
    let long = as_long types cells fits in
    let bits_long : length bits ≡ length types = length-map cells is_null ∙ long in
    record {
      bitmap = bitmap_bytes bits;
      values = values_bytes types cells;
      bytes_are = refl;
      bitmap_length = length-map-range_with_len (bitmap_byte bits) 0 (bitmap_size (length bits)) ∙ ap bitmap_size bits_long;
      nulls = λ i short. let there : i < length bits = omega (arith, short, bits_long) in get_there bits i there ∙ ap Some (sym (set_bit bits i there));
      values_are = are_values types cells fits;
    }

pub is_pair : (kind : RowsKind) (types : List ColumnKind) (pair : PairValue) → pair_fits kind types pair ≡ true → IsPair kind types pair (pair_bytes types pair)
is_pair Write types (inserted cells) fits = is_row types cells fits
is_pair Write types (deleted cells) fits = absurd cc
is_pair Write types (updated before after) fits = absurd cc
is_pair Delete types (inserted cells) fits = absurd cc
is_pair Delete types (deleted cells) fits = is_row types cells fits
is_pair Delete types (updated before after) fits = absurd cc
is_pair Update types (inserted cells) fits = absurd cc
is_pair Update types (deleted cells) fits = absurd cc
is_pair Update types (updated before after) fits =
    let p = and_parts (row_fits types before) (row_fits types after) fits in
    (row_bytes types before, row_bytes types after, refl, is_row types before p.0, is_row types after p.1)

fits_pair : (kind : RowsKind) (types : List ColumnKind) (pair : PairValue) (bytes : List ℕ) → IsPair kind types pair bytes → pair_fits kind types pair ≡ true
fits_pair Write types (inserted cells) bytes is = values_fit types cells is.values is.values_are
fits_pair Write types (deleted cells) bytes is = absurd is
fits_pair Write types (updated before after) bytes is = absurd is
fits_pair Delete types (inserted cells) bytes is = absurd is
fits_pair Delete types (deleted cells) bytes is = values_fit types cells is.values is.values_are
fits_pair Delete types (updated before after) bytes is = absurd is
fits_pair Update types (inserted cells) bytes is = absurd is
fits_pair Update types (deleted cells) bytes is = absurd is
fits_pair Update types (updated before after) bytes is =
    and_from (row_fits types before) (row_fits types after) (values_fit types before is.3.values is.3.values_are) (values_fit types after is.4.values is.4.values_are)

-- Pairs that fit are written as their rows,
pub are_written : (kind : RowsKind) (types : List ColumnKind) (pairs : List PairValue) → pairs_fit kind types pairs ≡ true → AreRows kind types pairs (rows_bytes types pairs)
are_written kind types [] fits = refl
are_written kind types (pair ∷ pairs) fits =
    let p = and_parts (pair_fits kind types pair) (pairs_fit kind types pairs) fits in
    (pair_bytes types pair, rows_bytes types pairs, refl, is_pair kind types pair p.0, are_written kind types pairs p.1)

-- and pairs that have rows fit.
pub they_fit : (kind : RowsKind) (types : List ColumnKind) (pairs : List PairValue) (bytes : List ℕ) → AreRows kind types pairs bytes → pairs_fit kind types pairs ≡ true
they_fit kind types [] bytes are = refl
they_fit kind types (pair ∷ pairs) bytes are = and_from (pair_fits kind types pair) (pairs_fit kind types pairs) (fits_pair kind types pair are.0 are.3) (they_fit kind types pairs are.1 are.4)

-- ---- Item by item.

abbrev pub column_kind : ColumnType → ColumnKind
column_kind t = t.kind

first_of : {X Y : Type 0} (f : X → Y) (xs : List X) (i : ℕ) (x : X) → i < length xs → x ≡ get_or xs i x → drop i (map f xs) ≡ f x ∷ drop (suc i) (map f xs)
first_of f [] i x short at = absurd (omega (arith, short))
first_of f (y ∷ xs) zero x short at = ap (λ z. f z ∷ map f xs) (sym at)
first_of f (y ∷ xs) (suc i) x short at = first_of f xs i x (omega (arith, short)) at

first_of_map : {X Y : Type 0} (f : X → Y) (xs : List X) (i : ℕ) (x : X) → i < length xs → x ≡ get_or xs i x → drop i (map f xs) ≡ f x ∷ drop (i + 1) (map f xs)
first_of_map f xs i x short at = let next : suc i ≡ i + 1 = omega arith in first_of f xs i x short at ∙ ap (λ k. f x ∷ drop k (map f xs)) next

pub row_from : (types : List ColumnType) (cells : List OwnedCell) (i : ℕ) (t : ColumnType) (cell : OwnedCell) → i < length types → i < length cells → t ≡ get_or types i t → cell ≡ get_or cells i cell →
    row_fits (drop i (kinds types)) (drop i (owned_values cells)) ≡ (value_fits (shape t.kind) (owned_value cell) && row_fits (drop (i + 1) (kinds types)) (drop (i + 1) (owned_values cells)))
row_from types cells i t cell a b is_t is_cell = λ j. row_fits (first_of_map column_kind types i t a is_t j) (first_of_map owned_value cells i cell b is_cell j)

pub row_over : (types : List ColumnType) (cells : List OwnedCell) (i : ℕ) → length types ≤ i → length cells ≤ i → row_fits (drop i (kinds types)) (drop i (owned_values cells)) ≡ true
row_over types cells i a b =
    let x : drop i (kinds types) ≡ [] = drop_all i (kinds types) (omega (arith, a, length-map types column_kind)) in
    let y : drop i (owned_values cells) ≡ [] = drop_all i (owned_values cells) (omega (arith, b, length-map cells owned_value)) in
    λ j. row_fits (x j) (y j)

pub row_of_others : (types : List ColumnType) (cells : List OwnedCell) → (length types ≡ length cells → ⊥) → row_fits (kinds types) (owned_values cells) ≡ false
row_of_others types cells other = elim (cases_Bool (row_fits (kinds types) (owned_values cells))) as (λ _. row_fits (kinds types) (owned_values cells) ≡ false) [
  | inl fits ↦ absurd (other (omega (arith, as_long (kinds types) (owned_values cells) fits, length-map types column_kind, length-map cells owned_value)))
  | inr not ↦ not
]

pub pairs_from : (kind : RowsKind) (types : List ColumnKind) (pairs : List OwnedPair) (i : ℕ) (pair : OwnedPair) → i < length pairs → pair ≡ get_or pairs i pair →
    pairs_fit kind types (drop i (owned_pairs pairs)) ≡ (pair_fits kind types (owned_pair pair) && pairs_fit kind types (drop (i + 1) (owned_pairs pairs)))
pairs_from kind types pairs i pair short is = ap (pairs_fit kind types) (first_of_map owned_pair pairs i pair short is)

pub pairs_over : (kind : RowsKind) (types : List ColumnKind) (pairs : List OwnedPair) (i : ℕ) → length pairs ≤ i → pairs_fit kind types (drop i (owned_pairs pairs)) ≡ true
pairs_over kind types pairs i long = ap (pairs_fit kind types) (drop_all i (owned_pairs pairs) (omega (arith, long, length-map pairs owned_pair)))

pub have_rows : (kind : RowsKind) (types : List ColumnKind) (pairs : List PairValue) → pairs_fit kind types pairs ≡ true → HaveRows kind types pairs
have_rows kind types pairs fits = record { bytes = rows_bytes types pairs; are_rows = are_written kind types pairs fits }

pub have_no_rows : (kind : RowsKind) (types : List ColumnKind) (pairs : List PairValue) → pairs_fit kind types pairs ≡ false → HaveRows kind types pairs → ⊥
have_no_rows kind types pairs not have = false≢true (sym not ∙ they_fit kind types pairs have.bytes have.are_rows)
