-- Rows: where they end and which cells they have.
use Rattle.binlog.proofs.Names.{◌≡◌, ℕ, zero, suc, ◌+◌, ◌-◌, ◌<◌, ◌≤◌, ◌^◌, true, false, List, [], ◌∷◌, ◌++◌, length, get_or, take, map, Some, Result, Ok, Err, refl, sym, ap, subst, ◌∙◌, append_assoc, arith, inl, inr, take-add, le-ltb, lt-ltb, cases_lt, cases_Bool, length-append, length-drop, length-take, length-map, append-nil, take_at, little_bytes, little_number, little_number-reads_back, little_from-lt, length-bytes_low_first, CellValue, null_cell, number_cell, bytes_cell, is_null, shape, IsValue, value_end, cell_of, kinds, bitmap_size, is_set, AreValues, further, ◌>>=◌, values_end, row_cells, ColumnKind, ColumnType, Shape, Number, Fixed, Prefixed, IsBytes, IsBytes-drop, drop_drop, drop_at, drop_front}
use Rattle.std.proofs.Common.{drop, add-one}
use Rattle.std.specs.Prelude.{slice_get}
use Rattle.binlog.specs.Row.{IsRow, row_end, cell_and_others, cells_from}
use Rattle.wire.proofs.Cuts.{take_is_number}

-- ---- A column at a time.

drop_kinds : (i : ℕ) (types : List ColumnType) (t : ColumnType) → i < length types → t ≡ get_or types i t → drop i (kinds types) ≡ t.kind ∷ drop (suc i) (kinds types)
drop_kinds i [] t short at = absurd (omega (arith, short))
drop_kinds zero (x ∷ types) t short at = ap (λ (y : ColumnType). y.kind ∷ kinds types) (sym at)
drop_kinds (suc i) (x ∷ types) t short at = drop_kinds i types t (omega (arith, short)) at

pub null_first : (bitmap values : List ℕ) (types : List ColumnType) (i : ℕ) (t : ColumnType) → i < length types → t ≡ get_or types i t → is_set bitmap i ≡ true →
    cells_from bitmap i (drop i (kinds types)) values ≡ null_cell ∷ cells_from bitmap (i + 1) (drop (i + 1) (kinds types)) values
null_first bitmap values types i t short at set = ap (λ l. cells_from bitmap i l values) (drop_kinds i types t short at) ∙ rw (set, add-one) refl

pub value_first : (bitmap values : List ℕ) (types : List ColumnType) (i size : ℕ) (t : ColumnType) → i < length types → t ≡ get_or types i t → is_set bitmap i ≡ false →
    value_end (shape t.kind) values ≡ Ok size →
    cells_from bitmap i (drop i (kinds types)) values ≡ cell_of (shape t.kind) values ∷ cells_from bitmap (i + 1) (drop (i + 1) (kinds types)) (drop size values)
value_first bitmap values types i size t short at clear is = ap (λ l. cells_from bitmap i l values) (drop_kinds i types t short at) ∙ rw (clear, is, add-one) refl

pub none_first : (bitmap values : List ℕ) (types : List ColumnType) (i place : ℕ) (t : ColumnType) → i < length types → t ≡ get_or types i t → is_set bitmap i ≡ false →
    value_end (shape t.kind) values ≡ Err place → cells_from bitmap i (drop i (kinds types)) values ≡ []
none_first bitmap values types i place t short at clear is = ap (λ l. cells_from bitmap i l values) (drop_kinds i types t short at) ∙ rw (clear, is) refl

-- ---- The end of a row, found column by column.

-- the values of the columns before column i end at this offset
pub record Reached (types : List ColumnType) (bytes bitmap : List ℕ) (i place : ℕ) : Type 0 where
  pub within : place ≤ length bytes
  pub left : further place (values_end bitmap i (drop i (kinds types)) (drop place bytes)) ≡ row_end (kinds types) bytes

pub short_bitmap : (types : List ColumnType) (bytes : List ℕ) → length bytes < bitmap_size (length types) → row_end (kinds types) bytes ≡ Err 0
unfolding row_end
short_bitmap types bytes short = rw (length-map types (λ (t : ColumnType). t.kind), lt-ltb _ _ short) refl

pub first_column : (types : List ColumnType) (bytes : List ℕ) → bitmap_size (length types) ≤ length bytes → Reached types bytes (take (bitmap_size (length types)) bytes) 0 (bitmap_size (length types))
unfolding row_end
first_column types bytes long = record { within = long; left = rw (length-map types (λ (t : ColumnType). t.kind), le-ltb _ _ long) refl }

further_further : (n m : ℕ) (r : Result ℕ ℕ) → further n (further m r) ≡ further (n + m) r
further_further n m (Ok place) = let e : n + (m + place) ≡ n + m + place = omega arith in ap (λ (k : ℕ). Ok k) e
further_further n m (Err place) = let e : n + (m + place) ≡ n + m + place = omega arith in ap (λ (k : ℕ). Err k) e

-- a column there is
some_column : (i : ℕ) (types : List ColumnType) → i < length types → (t : ColumnType) × (t ≡ get_or types i t)
some_column i [] short = absurd (omega (arith, short))
some_column zero (x ∷ types) short = (x, refl)
some_column (suc i) (x ∷ types) short = some_column i types (omega (arith, short))

pub null_column : (types : List ColumnType) (bytes bitmap : List ℕ) (i place : ℕ) → Reached types bytes bitmap i place → i < length types → is_set bitmap i ≡ true → Reached types bytes bitmap (i + 1) place
null_column types bytes bitmap i place reached short set =
    let t = some_column i types short in
    record {
      within = reached.within;
      left = sym (ap (λ l. further place (values_end bitmap i l (drop place bytes))) (drop_kinds i types t.0 short t.1) ∙ rw (set, add-one) refl) ∙ reached.left;
    }

pub value_column : (types : List ColumnType) (bytes bitmap : List ℕ) (i place size : ℕ) (t : ColumnType) → Reached types bytes bitmap i place → i < length types → t ≡ get_or types i t → is_set bitmap i ≡ false →
    value_end (shape t.kind) (drop place bytes) ≡ Ok size → size ≤ length (drop place bytes) → Reached types bytes bitmap (i + 1) (place + size)
value_column types bytes bitmap i place size t reached short at clear is fits = record {
  within = (let inside = reached.within in omega (arith, inside, fits, length-drop place bytes));
  left = sym (ap (λ l. further place (values_end bitmap i l (drop place bytes))) (drop_kinds i types t short at) ∙ rw (clear, is, drop_drop place size bytes, further_further, add-one) refl) ∙ reached.left;
}

pub early_column : (types : List ColumnType) (bytes bitmap : List ℕ) (i place at_value : ℕ) (t : ColumnType) → Reached types bytes bitmap i place → i < length types → t ≡ get_or types i t → is_set bitmap i ≡ false →
    value_end (shape t.kind) (drop place bytes) ≡ Err at_value → row_end (kinds types) bytes ≡ Err (place + at_value)
early_column types bytes bitmap i place at_value t reached short at clear is =
    sym reached.left ∙ ap (λ l. further place (values_end bitmap i l (drop place bytes))) (drop_kinds i types t short at) ∙ rw (clear, is) refl

-- ---- One value.

-- a value is read to its end, whatever follows it,
pub value_is_read : (s : Shape) (cell : CellValue) (first rest : List ℕ) → IsValue s cell first → (value_end s (first ++ rest) ≡ Ok (length first)) × (cell_of s (first ++ rest) ≡ cell)
value_is_read (Number width) null_cell first rest is = absurd is
value_is_read (Number width) (number_cell n w) first rest is =
    let long : length first ≡ width = ap length is.2 ∙ length-bytes_low_first 0 width n in
    let enough : width ≤ length (first ++ rest) = omega (arith, long, length-append first rest) in
    let number : little_number width (first ++ rest) ≡ n = ap (λ f. little_number width (f ++ rest)) is.2 ∙ little_number-reads_back width n rest is.1 in
    (rw (le-ltb _ _ enough) (ap (λ (k : ℕ). Ok k) (sym long)), λ i. number_cell (number i) (sym is.0 i))
value_is_read (Number width) (bytes_cell value) first rest is = absurd is
value_is_read (Fixed size) null_cell first rest is = absurd is
value_is_read (Fixed size) (number_cell n w) first rest is = absurd is
value_is_read (Fixed size) (bytes_cell value) first rest is =
    let long : length first ≡ size = ap length is.0 ∙ is.1 in
    let enough : size ≤ length (first ++ rest) = omega (arith, long, length-append first rest) in
    (rw (le-ltb _ _ enough) (ap (λ (k : ℕ). Ok k) (sym long)), ap bytes_cell (take_at first rest size long ∙ is.0))
value_is_read (Prefixed size) null_cell first rest is = absurd is
value_is_read (Prefixed size) (number_cell n w) first rest is = absurd is
value_is_read (Prefixed size) (bytes_cell value) first rest is =
    let prefix = little_bytes size (length value) in
    let size_is : length prefix ≡ size = length-bytes_low_first 0 size (length value) in
    let cut : first ++ rest ≡ prefix ++ (value ++ rest) = ap (λ f. f ++ rest) is.1 ∙ append_assoc prefix value rest in
    let long : length first ≡ size + length value = ap length is.1 ∙ length-append prefix value ∙ ap (λ (k : ℕ). k + length value) size_is in
    let all : length (first ++ rest) ≡ size + length value + length rest = length-append first rest ∙ ap (λ (k : ℕ). k + length rest) long in
    let number : little_number size (first ++ rest) ≡ length value = ap (little_number size) cut ∙ little_number-reads_back size (length value) (value ++ rest) is.0 in
    let enough : size ≤ length (first ++ rest) = omega (arith, all) in
    let fits : length value ≤ length (first ++ rest) - size = omega (arith, all) in
    let after_prefix : drop size (first ++ rest) ≡ value ++ rest = ap (drop size) cut ∙ drop_at prefix (value ++ rest) size size_is in (
      rw (le-ltb _ _ enough, number, le-ltb _ _ fits) (ap (λ (k : ℕ). Ok k) (sym long)),
      (λ i. bytes_cell (take (number i) (after_prefix i))) ∙ ap bytes_cell (take_at value rest (length value) refl),
    )

-- and what is read is a value.
pub record Valued (s : Shape) (bytes : List ℕ) (size : ℕ) : Type 0 where
  pub within : size ≤ length bytes
  pub is_value : IsValue s (cell_of s bytes) (take size bytes)
  pub not_null : is_null (cell_of s bytes) ≡ false

sized : (s : Shape) (bytes : List ℕ) (a b : ℕ) → a ≡ b → Valued s bytes a → Valued s bytes b
sized s bytes a b e v = subst (λ n. Valued s bytes n) e v

pub value_is_there : (s : Shape) (bytes : List ℕ) (size : ℕ) → IsBytes bytes → value_end s bytes ≡ Ok size → Valued s bytes size
value_is_there (Number width) bytes size fits is =
    elim (cases_lt (length bytes) width) as (λ _. Valued (Number width) bytes size) [
      | inl short ↦ (let e : value_end (Number width) bytes ≡ Err 0 = rw (lt-ltb _ _ short) refl in absurd cc)
      | inr long ↦ (let e : value_end (Number width) bytes ≡ Ok width = rw (le-ltb _ _ long) refl in
          let same : width ≡ size = cc in
          sized (Number width) bytes width size same (record { within = long; is_value = (refl, little_from-lt 0 width bytes fits, take_is_number width bytes long fits); not_null = refl }))
    ]
value_is_there (Fixed count) bytes size fits is =
    elim (cases_lt (length bytes) count) as (λ _. Valued (Fixed count) bytes size) [
      | inl short ↦ (let e : value_end (Fixed count) bytes ≡ Err 0 = rw (lt-ltb _ _ short) refl in absurd cc)
      | inr long ↦ (let e : value_end (Fixed count) bytes ≡ Ok count = rw (le-ltb _ _ long) refl in
          let same : count ≡ size = cc in
          sized (Fixed count) bytes count size same (record { within = long; is_value = (refl, omega (arith, long, length-take count bytes)); not_null = refl }))
    ]
value_is_there (Prefixed prefix) bytes size fits is =
    let n = little_number prefix bytes in
    elim (cases_lt (length bytes) prefix) as (λ _. Valued (Prefixed prefix) bytes size) [
      | inl short ↦ (let e : value_end (Prefixed prefix) bytes ≡ Err 0 = rw (lt-ltb _ _ short) refl in absurd cc)
      | inr long ↦ elim (cases_lt (length bytes - prefix) n) as (λ _. Valued (Prefixed prefix) bytes size) [
        | inl few ↦ (let e : value_end (Prefixed prefix) bytes ≡ Err prefix = rw (le-ltb _ _ long, lt-ltb _ _ few) refl in absurd cc)
        | inr enough ↦ (let e : value_end (Prefixed prefix) bytes ≡ Ok (prefix + n) = rw (le-ltb _ _ long, le-ltb _ _ enough) refl in
            let same : prefix + n ≡ size = cc in
            let value = take n (drop prefix bytes) in
            let value_length : length value ≡ n = omega (arith, enough, length-take n (drop prefix bytes), length-drop prefix bytes) in
            let small : n < 256 ^ prefix = little_from-lt 0 prefix bytes fits in
            let cut : take (prefix + n) bytes ≡ little_bytes prefix (length value) ++ value =
            take-add prefix n bytes ∙ ap (λ f. f ++ value) (take_is_number prefix bytes long fits ∙ ap (little_bytes prefix) (sym value_length)) in
            sized (Prefixed prefix) bytes (prefix + n) size same (record { within = omega (arith, long, enough); is_value = (subst (λ (k : ℕ). k < 256 ^ prefix) (sym value_length) small, cut); not_null = refl }))
      ]
    ]

-- ---- The values of a row.

abbrev pub Nulls : List ℕ → ℕ → ℕ → List CellValue → Type 0
Nulls bitmap i n cells = (k : ℕ) → k < n → slice_get (map is_null cells) k ≡ Some (is_set bitmap (i + k))

pub later : (bitmap : List ℕ) (i n : ℕ) (cell : CellValue) (cells : List CellValue) → Nulls bitmap i (suc n) (cell ∷ cells) → Nulls bitmap (suc i) n cells
later bitmap i n cell cells nulls k below = let e : i + suc k ≡ suc i + k = omega arith in nulls (suc k) (omega (arith, below)) ∙ ap (λ j. Some (is_set bitmap j)) e

pub now : (bitmap : List ℕ) (i n : ℕ) (cell : CellValue) (cells : List CellValue) → Nulls bitmap i (suc n) (cell ∷ cells) → is_set bitmap i ≡ is_null cell
now bitmap i n cell cells nulls = let e : i + 0 ≡ i = omega arith in let same = nulls 0 (omega arith) ∙ ap (λ j. Some (is_set bitmap j)) e in cc

pub earlier : (bitmap : List ℕ) (i n : ℕ) (cell : CellValue) (cells : List CellValue) → is_set bitmap i ≡ is_null cell → Nulls bitmap (suc i) n cells → Nulls bitmap i (suc n) (cell ∷ cells)
earlier bitmap i n cell cells set nulls zero below = let e : i + 0 ≡ i = omega arith in ap Some (sym set) ∙ ap (λ j. Some (is_set bitmap j)) (sym e)
earlier bitmap i n cell cells set nulls (suc k) below = let e : i + suc k ≡ suc i + k = omega arith in nulls k (omega (arith, below)) ∙ ap (λ j. Some (is_set bitmap j)) (sym e)

pub record AreRead (bitmap : List ℕ) (i : ℕ) (types : List ColumnKind) (cells : List CellValue) (values more : List ℕ) : Type 0 where
  pub end : values_end bitmap i types (values ++ more) ≡ Ok (length values)
  pub cells_are : cells_from bitmap i types (values ++ more) ≡ cells

-- a value, and others after it
one_read : (bitmap : List ℕ) (i : ℕ) (t : ColumnKind) (types : List ColumnKind) (cell : CellValue) (cells : List CellValue) (values first others more : List ℕ) →
    is_set bitmap i ≡ false → values ≡ first ++ others → IsValue (shape t) cell first → AreRead bitmap (suc i) types cells others more → AreRead bitmap i (t ∷ types) (cell ∷ cells) values more
one_read bitmap i t types cell cells values first others more clear e is rest =
    let v = value_is_read (shape t) cell first (others ++ more) is in
    let cut : values ++ more ≡ first ++ (others ++ more) = ap (λ l. l ++ more) e ∙ append_assoc first others more in
    let after_first : drop (length first) (first ++ (others ++ more)) ≡ others ++ more = drop_front first (others ++ more) in
    let all : length first + length others ≡ length values = sym (ap length e ∙ length-append first others) in
    record {
      end = ap (values_end bitmap i (t ∷ types)) cut ∙ rw (clear, v.0, after_first, rest.end) (ap (λ (k : ℕ). Ok k) all);
      cells_are = ap (cells_from bitmap i (t ∷ types)) cut ∙ rw (clear, v.0, v.1, after_first, rest.cells_are) refl;
    }

values_are_read : (bitmap : List ℕ) (i : ℕ) (types : List ColumnKind) (cells : List CellValue) (values more : List ℕ) → Nulls bitmap i (length types) cells → AreValues types cells values →
    AreRead bitmap i types cells values more
values_are_read bitmap i [] [] values more nulls are = record { end = ap (λ (k : ℕ). Ok k) (sym (ap length are)); cells_are = refl }
values_are_read bitmap i [] (cell ∷ cells) values more nulls are = absurd are
values_are_read bitmap i (t ∷ types) [] values more nulls are = absurd are
values_are_read bitmap i (t ∷ types) (null_cell ∷ cells) values more nulls are =
    let rest = values_are_read bitmap (suc i) types cells values more (later bitmap i (length types) null_cell cells nulls) are in
    let set = now bitmap i (length types) null_cell cells nulls in
    record { end = rw set rest.end; cells_are = rw set (ap (λ l. null_cell ∷ l) rest.cells_are) }
values_are_read bitmap i (t ∷ types) (number_cell n w ∷ cells) values more nulls are =
    one_read bitmap i t types (number_cell n w) cells values are.0 are.1 more (now bitmap i (length types) (number_cell n w) cells nulls) are.2 are.3
    (values_are_read bitmap (suc i) types cells are.1 more (later bitmap i (length types) (number_cell n w) cells nulls) are.4)
values_are_read bitmap i (t ∷ types) (bytes_cell v ∷ cells) values more nulls are =
    one_read bitmap i t types (bytes_cell v) cells values are.0 are.1 more (now bitmap i (length types) (bytes_cell v) cells nulls) are.2 are.3
    (values_are_read bitmap (suc i) types cells are.1 more (later bitmap i (length types) (bytes_cell v) cells nulls) are.4)

pub record AreThere (bitmap : List ℕ) (i : ℕ) (types : List ColumnKind) (cells : List CellValue) (bytes : List ℕ) (size : ℕ) : Type 0 where
  pub within : size ≤ length bytes
  pub values_are : AreValues types cells (take size bytes)
  pub nulls : Nulls bitmap i (length types) cells

pub are_values : (t : ColumnKind) (types : List ColumnKind) (cell : CellValue) (cells : List CellValue) (bytes first others : List ℕ) → is_null cell ≡ false → bytes ≡ first ++ others →
    IsValue (shape t) cell first → AreValues types cells others → AreValues (t ∷ types) (cell ∷ cells) bytes
are_values t types null_cell cells bytes first others not_null e is are = absurd cc
are_values t types (number_cell n w) cells bytes first others not_null e is are = (first, others, e, is, are)
are_values t types (bytes_cell v) cells bytes first others not_null e is are = (first, others, e, is, are)

-- the rest of the values, if the first ends at an offset
one_there : (bitmap : List ℕ) (i : ℕ) (t : ColumnKind) (types : List ColumnKind) (bytes : List ℕ) (size first : ℕ) (rest : Result ℕ ℕ) → is_set bitmap i ≡ false → value_end (shape t) bytes ≡ Ok first →
    IsBytes bytes → further first rest ≡ Ok size → ((n : ℕ) → rest ≡ Ok n → AreThere bitmap (suc i) types (cells_from bitmap (suc i) types (drop first bytes)) (drop first bytes) n) →
    AreThere bitmap i (t ∷ types) (cell_of (shape t) bytes ∷ cells_from bitmap (suc i) types (drop first bytes)) bytes size
one_there bitmap i t types bytes size first (Err place) clear is fits total others = absurd cc
one_there bitmap i t types bytes size first (Ok n) clear is fits total others =
    let v = value_is_there (shape t) bytes first fits is in
    let o = others n refl in
    let same : first + n ≡ size = cc in
    subst (λ k. AreThere bitmap i (t ∷ types) (cell_of (shape t) bytes ∷ cells_from bitmap (suc i) types (drop first bytes)) bytes k) same
    (record {
      within = (let a = v.within in let b = o.within in omega (arith, a, b, length-drop first bytes));
      values_are = are_values t types (cell_of (shape t) bytes) (cells_from bitmap (suc i) types (drop first bytes)) (take (first + n) bytes) (take first bytes) (take n (drop first bytes)) v.not_null
          (take-add first n bytes) v.is_value o.values_are;
      nulls = earlier bitmap i (length types) (cell_of (shape t) bytes) (cells_from bitmap (suc i) types (drop first bytes)) (clear ∙ sym v.not_null) o.nulls;
    })

-- depending on the value of the first column
by_value : (bitmap : List ℕ) (i : ℕ) (t : ColumnKind) (types : List ColumnKind) (bytes : List ℕ) (size : ℕ) (end : Result ℕ ℕ) → is_set bitmap i ≡ false → value_end (shape t) bytes ≡ end → IsBytes bytes →
    (end >>= (λ n. values_end bitmap (suc i) types (drop n bytes))) ≡ Ok size →
    ((first n : ℕ) → values_end bitmap (suc i) types (drop first bytes) ≡ Ok n → AreThere bitmap (suc i) types (cells_from bitmap (suc i) types (drop first bytes)) (drop first bytes) n) →
    AreThere bitmap i (t ∷ types) (cell_and_others end (cell_of (shape t) bytes) (λ n. cells_from bitmap (suc i) types (drop n bytes))) bytes size
by_value bitmap i t types bytes size (Err place) clear is fits total others = absurd cc
by_value bitmap i t types bytes size (Ok first) clear is fits total others = one_there bitmap i t types bytes size first (values_end bitmap (suc i) types (drop first bytes)) clear is fits total (others first)

values_are_there : (bitmap : List ℕ) (i : ℕ) (types : List ColumnKind) (bytes : List ℕ) (size : ℕ) → IsBytes bytes → values_end bitmap i types bytes ≡ Ok size →
    AreThere bitmap i types (cells_from bitmap i types bytes) bytes size
values_are_there bitmap i [] bytes size fits is =
    let none : 0 ≡ size = cc in
    subst (λ k. AreThere bitmap i [] [] bytes k) none (record { within = omega arith; values_are = refl; nulls = λ k below. absurd (omega (arith, below)) })
values_are_there bitmap i (t ∷ types) bytes size fits is = elim (cases_Bool (is_set bitmap i)) as (λ _. AreThere bitmap i (t ∷ types) (cells_from bitmap i (t ∷ types) bytes) bytes size) [
  | inl set ↦ (
      let o = values_are_there bitmap (suc i) types bytes size fits (rw set at is) in
      let e : cells_from bitmap i (t ∷ types) bytes ≡ null_cell ∷ cells_from bitmap (suc i) types bytes = rw set refl in
      subst (λ l. AreThere bitmap i (t ∷ types) l bytes size) (sym e)
      (record { within = o.within; values_are = o.values_are; nulls = earlier bitmap i (length types) null_cell (cells_from bitmap (suc i) types bytes) set o.nulls }))
  | inr clear ↦ (
      let e : cells_from bitmap i (t ∷ types) bytes ≡ cell_and_others (value_end (shape t) bytes) (cell_of (shape t) bytes) (λ n. cells_from bitmap (suc i) types (drop n bytes)) = rw clear refl in
      subst (λ l. AreThere bitmap i (t ∷ types) l bytes size) (sym e)
      (by_value bitmap i t types bytes size (value_end (shape t) bytes) clear refl fits (rw clear at is) (λ first n rest. values_are_there bitmap (suc i) types (drop first bytes) n (IsBytes-drop first bytes fits) rest)))
]

-- ---- A row.

-- A row is read to its end, whatever follows it,
pub row_is_read : (types : List ColumnKind) (cells : List CellValue) (first rest : List ℕ) → IsRow types cells first → (row_end types (first ++ rest) ≡ Ok (length first)) × (row_cells types (first ++ rest) ≡ cells)
unfolding row_end
row_is_read types cells first rest is =
    let size = bitmap_size (length types) in
    let cut : first ++ rest ≡ is.bitmap ++ (is.values ++ rest) = ap (λ l. l ++ rest) is.bytes_are ∙ append_assoc is.bitmap is.values rest in
    let front : take size (first ++ rest) ≡ is.bitmap = ap (take size) cut ∙ take_at is.bitmap (is.values ++ rest) size is.bitmap_length in
    let back : drop size (first ++ rest) ≡ is.values ++ rest = ap (drop size) cut ∙ drop_at is.bitmap (is.values ++ rest) size is.bitmap_length in
    let nulls : Nulls is.bitmap 0 (length types) cells = λ k below. let e : k ≡ 0 + k = omega arith in is.nulls k below ∙ ap (λ j. Some (is_set is.bitmap j)) e in
    let read = values_are_read is.bitmap 0 types cells is.values rest nulls is.values_are in
    let long : size + length is.values ≡ length first = sym (ap length is.bytes_are ∙ length-append is.bitmap is.values ∙ ap (λ (k : ℕ). k + length is.values) is.bitmap_length) in
    let enough : size ≤ length (first ++ rest) = omega (arith, long, length-append first rest) in (
      rw (le-ltb _ _ enough) (ap (further size) ((λ i. values_end (front i) 0 types (back i)) ∙ read.end) ∙ ap (λ (k : ℕ). Ok k) long),
      (λ i. cells_from (front i) 0 types (back i)) ∙ read.cells_are,
    )

pub split_end : (size end : ℕ) (r : Result ℕ ℕ) → further size r ≡ Ok end → (n : ℕ) × (r ≡ Ok n) × (size + n ≡ end)
split_end size end (Ok n) is = let e : size + n ≡ end = cc in (n, refl, e)
split_end size end (Err place) is = absurd cc

-- and what is read is a row.
pub row_is_there : (types : List ColumnKind) (bytes : List ℕ) (end : ℕ) → IsBytes bytes → row_end types bytes ≡ Ok end → (end ≤ length bytes) × IsRow types (row_cells types bytes) (take end bytes)
unfolding row_end
row_is_there types bytes end fits is = elim (cases_lt (length bytes) (bitmap_size (length types))) as (λ _. (end ≤ length bytes) × IsRow types (row_cells types bytes) (take end bytes)) [
  | inl short ↦ (let e : row_end types bytes ≡ Err 0 = rw (lt-ltb _ _ short) refl in absurd cc)
  | inr long ↦ (
      let size = bitmap_size (length types) in
      let e : row_end types bytes ≡ further size (values_end (take size bytes) 0 types (drop size bytes)) = rw (le-ltb _ _ long) refl in
      let s = split_end size end (values_end (take size bytes) 0 types (drop size bytes)) (sym e ∙ is) in
      let there = values_are_there (take size bytes) 0 types (drop size bytes) s.0 (IsBytes-drop size bytes fits) s.1 in
      let within = there.within in
      let total = s.2 in (
        omega (arith, within, total, long, length-drop size bytes),
        record {
          bitmap = take size bytes;
          values = take s.0 (drop size bytes);
          bytes_are = ap (λ n. take n bytes) (sym total) ∙ take-add size s.0 bytes;
          bitmap_length = omega (arith, long, length-take size bytes);
          nulls = λ k below. let e : 0 + k ≡ k = omega arith in there.nulls k below ∙ ap (λ j. Some (is_set (take size bytes) j)) e;
          values_are = there.values_are;
        },
      ))
]

-- A row has one list of cells, and none is a proper prefix of another one.
pub one_row : (types : List ColumnKind) (a b : List CellValue) (first second x y : List ℕ) → IsRow types a first → IsRow types b second → first ++ x ≡ second ++ y → (a ≡ b) × (first ≡ second)
one_row types a b first second x y is_a is_b same =
    let p = row_is_read types a first x is_a in
    let q = row_is_read types b second y is_b in
    let end : ◌≡◌ {A = Result ℕ ℕ} (Ok (length first)) (Ok (length second)) = sym p.0 ∙ ap (row_end types) same ∙ q.0 in
    let long : length first ≡ length second = cc in
    (sym p.1 ∙ ap (row_cells types) same ∙ q.1, sym (take_at first x (length first) refl) ∙ (λ i. take (long i) (same i)) ∙ take_at second y (length second) refl)

-- The cells of a row's own bytes.
pub own_cells : (types : List ColumnKind) (cells : List CellValue) (bytes : List ℕ) → IsRow types cells bytes → row_cells types bytes ≡ cells
own_cells types cells bytes is = ap (row_cells types) (sym (append-nil bytes)) ∙ (row_is_read types cells bytes [] is).1

-- ---- A row as the code holds it.

pub holds_bitmap : (types : List ColumnType) (cells : List CellValue) (bytes : List ℕ) → IsRow (kinds types) cells bytes → bitmap_size (length types) ≤ length bytes
holds_bitmap types cells bytes is =
    let columns = length-map types (λ (t : ColumnType). t.kind) in
    let size : bitmap_size (length (kinds types)) ≡ bitmap_size (length types) = ap bitmap_size columns in
    omega (arith, size, is.bitmap_length, ap length is.bytes_are, length-append is.bitmap is.values)

pub split_cells : (types : List ColumnType) (size : ℕ) (row front back : List ℕ) → size ≡ bitmap_size (length types) → front ≡ take size row → back ≡ drop size row →
    cells_from front 0 (kinds types) back ≡ row_cells (kinds types) row
split_cells types size row front back e is_front is_back =
    let size_is : size ≡ bitmap_size (length (kinds types)) = e ∙ ap bitmap_size (sym (length-map types (λ (t : ColumnType). t.kind))) in
    λ i. cells_from ((is_front ∙ ap (λ k. take k row) size_is) i) 0 (kinds types) ((is_back ∙ ap (λ k. drop k row) size_is) i)

pub fewer : (s t : List CellValue) (x : CellValue) → s ≡ x ∷ t → length t < length s
fewer s t x e = omega (arith, ap length e)
