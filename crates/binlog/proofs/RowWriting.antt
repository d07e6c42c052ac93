-- What the writer of rows has written so far.
use Rattle.binlog.proofs.Names.{◌≡◌, ℕ, zero, suc, ◌+◌, ◌-◌, ◌<◌, ◌≤◌, ◌^◌, ◌==◌, true, false, List, [], ◌∷◌, ◌++◌, length, get_or, take, map, sym, ap, subst, ◌∙◌, arith, nat_lt, nat_le, IsTrue, length-map-range_with_len, bitmap_size, and_parts, eqb-true, false≢true, leb-true, length-map, length-append, drop_of_length-le, little_bytes, length-bytes_low_first, CellValue, number_cell, bytes_cell, is_null, owned_value, owned_values, shape, kinds, owned_pairs, bitmap_byte, value_bytes, values_bytes, rows_bytes, value_fits, row_fits, pairs_fit, ColumnKind, ColumnType, RowsKind, Shape, Number, Fixed, Prefixed}
use Rattle.std.proofs.Common.{drop, min}
use Rattle.byteorder.proofs.Bytes.{take-bytes_low_first}
use Rattle.binlog.specs.Shape.{is_readable}
use Rattle.binlog.specs.RowsView.{owned_pair}
use Rattle.binlog.specs.RowsWritten.{bitmap_bytes, pair_bytes, pair_fits}
use Rattle.binlog.proofs.RowBytes.{column_kind, as_long}
use Rattle.binlog.specs.declared.cell.OwnedCell.{OwnedCell}
use Rattle.binlog.specs.declared.row_pair.OwnedPair.{OwnedPair}

-- ---- The bitmap.

pub null_there : (cells : List OwnedCell) (i : ℕ) (cell : OwnedCell) → i < length cells → cell ≡ get_or cells i cell → is_null (owned_value cell) ≡ get_or (map is_null (owned_values cells)) i false
null_there [] i cell short is = absurd (omega (arith, short))
null_there (first ∷ cells) zero cell short is = ap (λ c. is_null (owned_value c)) is
null_there (first ∷ cells) (suc i) cell short is = null_there cells i cell (omega (arith, short)) is

pub bits_length : (cells : List OwnedCell) → length cells ≡ length (map is_null (owned_values cells))
bits_length cells = sym (length-map (owned_values cells) is_null ∙ length-map cells owned_value)

pub bitmap_long : (cells : List OwnedCell) → length (bitmap_bytes (map is_null (owned_values cells))) ≡ bitmap_size (length cells)
bitmap_long cells = length-map-range_with_len (bitmap_byte (map is_null (owned_values cells))) 0 _ ∙ ap bitmap_size (sym (bits_length cells))

-- ---- Values.

low_bytes : (size number : ℕ) → size ≤ 8 → take size (little_bytes 8 number) ≡ little_bytes size number
low_bytes size number short = take-bytes_low_first 0 8 size number short

number_bytes : (s : Shape) (n w : ℕ) → IsTrue (is_readable s) → value_fits s (number_cell n w) ≡ true → take w (little_bytes 8 n) ≡ value_bytes s (number_cell n w)
number_bytes (Number width) n w readable fits =
    let p = and_parts (w == width) (nat_lt n (256 ^ width)) fits in
    let q = and_parts (nat_le 1 width) (nat_le width 8) readable in
    let same = eqb-true w width p.0 in
    ap (λ k. take k (little_bytes 8 n)) same ∙ low_bytes width n (leb-true _ _ q.1)
number_bytes (Fixed size) n w readable fits = absurd cc
number_bytes (Prefixed size) n w readable fits = absurd cc

prefix_short : (size : ℕ) → IsTrue (is_readable (Prefixed size)) → size ≤ 8
prefix_short size readable = let q = and_parts (nat_le 1 size) (nat_le size 4) readable in omega (arith, leb-true _ _ q.1)

pub number_written : (s : Shape) (cell : CellValue) (n w : ℕ) (bytes : List ℕ) → IsTrue (is_readable s) → value_fits s cell ≡ true → cell ≡ number_cell n w → bytes ≡ little_bytes 8 n → take w bytes ≡ value_bytes s cell
number_written s cell n w bytes readable fits is all = ap (take w) all ∙ number_bytes s n w readable (ap (value_fits s) (sym is) ∙ fits) ∙ ap (value_bytes s) (sym is)

-- a value after its length
pub prefixed_written : (s : Shape) (cell : CellValue) (size number : ℕ) (value bytes text : List ℕ) → IsTrue (is_readable s) → s ≡ Prefixed size → cell ≡ bytes_cell value → bytes ≡ little_bytes 8 number → number ≡ length value → text ≡ value →
    take size bytes ++ text ≡ value_bytes s cell
prefixed_written s cell size number value bytes text readable is_s is all long same =
    let short = prefix_short size (subst (λ s. IsTrue (is_readable s)) is_s readable) in
    let front : take size bytes ≡ little_bytes size (length value) = ap (take size) all ∙ low_bytes size number short ∙ ap (little_bytes size) long in
    (λ i. front i ++ same i) ∙ (λ i. value_bytes (sym is_s i) (sym is i))

-- the lengths of values
pub number_long : (s : Shape) (cell : CellValue) (n w : ℕ) → value_fits s cell ≡ true → cell ≡ number_cell n w → length (value_bytes s cell) ≡ w
number_long (Number width) cell n w fits is =
    let p = and_parts (w == width) (nat_lt n (256 ^ width)) (ap (value_fits (Number width)) (sym is) ∙ fits) in
    ap (λ v. length (value_bytes (Number width) v)) is ∙ length-bytes_low_first 0 width n ∙ sym (eqb-true w width p.0)
number_long (Fixed size) cell n w fits is = absurd (false≢true (ap (value_fits (Fixed size)) (sym is) ∙ fits))
number_long (Prefixed size) cell n w fits is = absurd (false≢true (ap (value_fits (Prefixed size)) (sym is) ∙ fits))

pub prefixed_long : (s : Shape) (size : ℕ) (cell : CellValue) (value : List ℕ) → s ≡ Prefixed size → cell ≡ bytes_cell value → length (value_bytes s cell) ≡ size + length value
prefixed_long s size cell value is_s is =
    let bytes : value_bytes s cell ≡ little_bytes size (length value) ++ value = λ i. value_bytes (is_s i) (is i) in
    omega (arith, ap length bytes, length-append (little_bytes size (length value)) value, length-bytes_low_first 0 size (length value))

-- ---- Cells and pairs, item by item.

pub as_many : (types : List ColumnType) (cells : List OwnedCell) → row_fits (kinds types) (owned_values cells) ≡ true → length cells ≡ length types
as_many types cells fits = omega (arith, as_long (kinds types) (owned_values cells) fits, length-map types column_kind, length-map cells owned_value)

pub value_there : (types : List ColumnType) (cells : List OwnedCell) (i : ℕ) (t : ColumnType) (cell : OwnedCell) → row_fits (kinds types) (owned_values cells) ≡ true → i < length types → t ≡ get_or types i t → cell ≡ get_or cells i cell →
    value_fits (shape t.kind) (owned_value cell) ≡ true
value_there [] cells i t cell fits short is_t is = absurd (omega (arith, short))
value_there (u ∷ types) [] i t cell fits short is_t is = absurd cc
value_there (u ∷ types) (c ∷ cells) zero t cell fits short is_t is =
    let p = and_parts (value_fits (shape u.kind) (owned_value c)) (row_fits (kinds types) (owned_values cells)) fits in
    (λ j. value_fits (shape (is_t j).kind) (owned_value (is j))) ∙ p.0
value_there (u ∷ types) (c ∷ cells) (suc i) t cell fits short is_t is =
    let p = and_parts (value_fits (shape u.kind) (owned_value c)) (row_fits (kinds types) (owned_values cells)) fits in
    value_there types cells i t cell p.1 (omega (arith, short)) is_t is

-- the values from one on
abbrev pub values_from : List ColumnType → List OwnedCell → ℕ → List ℕ
values_from types cells i = values_bytes (drop i (kinds types)) (drop i (owned_values cells))

next_value : (types : List ColumnType) (cells : List OwnedCell) (i : ℕ) (t : ColumnType) (cell : OwnedCell) → i < length types → i < length cells → t ≡ get_or types i t → cell ≡ get_or cells i cell →
    values_from types cells i ≡ value_bytes (shape t.kind) (owned_value cell) ++ values_from types cells (suc i)
next_value [] cells i t cell a b is_t is = absurd (omega (arith, a))
next_value (u ∷ types) [] i t cell a b is_t is = absurd (omega (arith, b))
next_value (u ∷ types) (c ∷ cells) zero t cell a b is_t is = λ j. value_bytes (shape (sym is_t j).kind) (owned_value (sym is j)) ++ values_bytes (kinds types) (owned_values cells)
next_value (u ∷ types) (c ∷ cells) (suc i) t cell a b is_t is = next_value types cells i t cell (omega (arith, a)) (omega (arith, b)) is_t is

pub value_next : (types : List ColumnType) (cells : List OwnedCell) (i : ℕ) (t : ColumnType) (cell : OwnedCell) → length cells ≡ length types → i < length types → t ≡ get_or types i t → cell ≡ get_or cells i cell →
    values_from types cells i ≡ value_bytes (shape t.kind) (owned_value cell) ++ values_from types cells (i + 1)
value_next types cells i t cell long short is_t is =
    let more : suc i ≡ i + 1 = omega arith in
    next_value types cells i t cell short (omega (arith, short, long)) is_t is ∙ ap (λ k. value_bytes (shape t.kind) (owned_value cell) ++ values_from types cells k) more

pub values_end : (types : List ColumnType) (cells : List OwnedCell) (i : ℕ) → length cells ≡ length types → length types ≤ i → values_from types cells i ≡ []
values_end types cells i long past =
    let a : drop i (kinds types) ≡ [] = drop_of_length-le (kinds types) (omega (arith, past, length-map types column_kind)) in
    ap (λ k. values_bytes k (drop i (owned_values cells))) a

pub pair_there : (kind : RowsKind) (types : List ColumnKind) (pairs : List OwnedPair) (i : ℕ) (pair : OwnedPair) → pairs_fit kind types (owned_pairs pairs) ≡ true → i < length pairs → pair ≡ get_or pairs i pair → pair_fits kind types (owned_pair pair) ≡ true
pair_there kind types [] i pair fits short is = absurd (omega (arith, short))
pair_there kind types (first ∷ pairs) zero pair fits short is =
    let p = and_parts (pair_fits kind types (owned_pair first)) (pairs_fit kind types (owned_pairs pairs)) fits in
    ap (λ q. pair_fits kind types (owned_pair q)) is ∙ p.0
pair_there kind types (first ∷ pairs) (suc i) pair fits short is =
    let p = and_parts (pair_fits kind types (owned_pair first)) (pairs_fit kind types (owned_pairs pairs)) fits in
    pair_there kind types pairs i pair p.1 (omega (arith, short)) is

-- the rows from one pair on
abbrev pub rows_from : List ColumnKind → List OwnedPair → ℕ → List ℕ
rows_from types pairs i = rows_bytes types (drop i (owned_pairs pairs))

next_pair : (types : List ColumnKind) (pairs : List OwnedPair) (i : ℕ) (pair : OwnedPair) → i < length pairs → pair ≡ get_or pairs i pair → rows_from types pairs i ≡ pair_bytes types (owned_pair pair) ++ rows_from types pairs (suc i)
next_pair types [] i pair short is = absurd (omega (arith, short))
next_pair types (first ∷ pairs) zero pair short is = ap (λ q. pair_bytes types (owned_pair q) ++ rows_bytes types (owned_pairs pairs)) (sym is)
next_pair types (first ∷ pairs) (suc i) pair short is = next_pair types pairs i pair (omega (arith, short)) is

pub pair_next : (types : List ColumnKind) (pairs : List OwnedPair) (i : ℕ) (pair : OwnedPair) → i < length pairs → pair ≡ get_or pairs i pair → rows_from types pairs i ≡ pair_bytes types (owned_pair pair) ++ rows_from types pairs (i + 1)
pair_next types pairs i pair short is =
    let more : suc i ≡ i + 1 = omega arith in
    next_pair types pairs i pair short is ∙ ap (λ k. pair_bytes types (owned_pair pair) ++ rows_from types pairs k) more

pub pairs_end : (types : List ColumnKind) (pairs : List OwnedPair) (i : ℕ) → length pairs ≤ i → rows_from types pairs i ≡ []
pairs_end types pairs i past = ap (rows_bytes types) (drop_of_length-le (owned_pairs pairs) (omega (arith, past, length-map pairs owned_pair)))
