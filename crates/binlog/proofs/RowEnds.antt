-- Bytes that end before a row or a pair does: the relation, and the recursion that finds its place.
use Rattle.binlog.proofs.Names.{◌≡◌, ℕ, suc, ◌+◌, ◌-◌, ◌≤◌, false, List, [], ◌∷◌, ◌++◌, length, take, Some, Result, Ok, Err, refl, sym, ap, ◌∙◌, append_assoc, arith, inl, inr, le-ltb, lt-ltb, cases_lt, cases_Bool, length-append, length-take, take-append-drop, take_at, little_number, CellValue, null_cell, number_cell, bytes_cell, shape, IsValue, value_end, cell_of, bitmap_size, is_set, AreValues, further, ◌>>=◌, values_end, row_cells, pair_end, ColumnKind, RowsKind, Write, Update, Delete, Shape, Number, Fixed, Prefixed, IsBytes, IsBytes-drop, drop_front, drop_at}
use Rattle.std.proofs.Common.{drop}
use Rattle.binlog.specs.Shape.{EndsInValue}
use Rattle.binlog.specs.Row.{EndsInRow, row_end}
use Rattle.binlog.specs.Rows.{EndsInPair}
use Rattle.binlog.proofs.RowCells.{value_is_read, value_is_there, row_is_read, row_is_there, Nulls, now, later, earlier, are_values}

pub split_err : (n place : ℕ) (r : Result ℕ ℕ) → further n r ≡ Err place → (p : ℕ) × (r ≡ Err p) × (n + p ≡ place)
split_err n place (Ok m) is = absurd cc
split_err n place (Err p) is = let e : n + p ≡ place = cc in (p, refl, e)

-- ---- A value.

value_stops : (s : Shape) (bytes : List ℕ) (place : ℕ) → value_end s bytes ≡ Err place → EndsInValue s bytes place
value_stops (Number width) bytes place is = elim (cases_lt (length bytes) width) as (λ _. EndsInValue (Number width) bytes place) [
  | inl short ↦ (let e : value_end (Number width) bytes ≡ Err 0 = rw (lt-ltb _ _ short) refl in let same : 0 ≡ place = cc in (sym same, short))
  | inr long ↦ (let e : value_end (Number width) bytes ≡ Ok width = rw (le-ltb _ _ long) refl in absurd cc)
]
value_stops (Fixed size) bytes place is = elim (cases_lt (length bytes) size) as (λ _. EndsInValue (Fixed size) bytes place) [
  | inl short ↦ (let e : value_end (Fixed size) bytes ≡ Err 0 = rw (lt-ltb _ _ short) refl in let same : 0 ≡ place = cc in (sym same, short))
  | inr long ↦ (let e : value_end (Fixed size) bytes ≡ Ok size = rw (le-ltb _ _ long) refl in absurd cc)
]
value_stops (Prefixed size) bytes place is =
    let n = little_number size bytes in
    elim (cases_lt (length bytes) size) as (λ _. EndsInValue (Prefixed size) bytes place) [
      | inl short ↦ (let e : value_end (Prefixed size) bytes ≡ Err 0 = rw (lt-ltb _ _ short) refl in let same : 0 ≡ place = cc in inl (sym same, short))
      | inr long ↦ elim (cases_lt (length bytes - size) n) as (λ _. EndsInValue (Prefixed size) bytes place) [
        | inl few ↦ (let e : value_end (Prefixed size) bytes ≡ Err size = rw (le-ltb _ _ long, lt-ltb _ _ few) refl in let same : size ≡ place = cc in inr (sym same, long, few))
        | inr enough ↦ (let e : value_end (Prefixed size) bytes ≡ Ok (size + n) = rw (le-ltb _ _ long, le-ltb _ _ enough) refl in absurd cc)
      ]
    ]

value_stopped : (s : Shape) (bytes : List ℕ) (place : ℕ) → EndsInValue s bytes place → value_end s bytes ≡ Err place
value_stopped (Number width) bytes place ends = rw (lt-ltb _ _ ends.1) (ap (λ (k : ℕ). Err k) (sym ends.0))
value_stopped (Fixed size) bytes place ends = rw (lt-ltb _ _ ends.1) (ap (λ (k : ℕ). Err k) (sym ends.0))
value_stopped (Prefixed size) bytes place (inl ends) = rw (lt-ltb _ _ ends.1) (ap (λ (k : ℕ). Err k) (sym ends.0))
value_stopped (Prefixed size) bytes place (inr ends) = rw (le-ltb _ _ ends.1, lt-ltb _ _ ends.2) (ap (λ (k : ℕ). Err k) (sym ends.0))

-- ---- Values.

pub record Stops (bitmap : List ℕ) (i : ℕ) (types : List ColumnKind) (bytes : List ℕ) (place : ℕ) : Type 0 where
  pub values : List ℕ
  pub rest : List ℕ
  pub before : List ColumnKind
  pub kind : ColumnKind
  pub after : List ColumnKind
  pub cells : List CellValue
  pub part : ℕ
  pub bytes_are : bytes ≡ values ++ rest
  pub types_are : types ≡ before ++ kind ∷ after
  pub nulls : Nulls bitmap i (length before) cells
  pub values_are : AreValues before cells values
  pub not_null : is_set bitmap (i + length before) ≡ false
  pub ends : EndsInValue (shape kind) rest part
  pub place_is : place ≡ length values + part

-- the first value stops, or one after it
stops_later : (bitmap : List ℕ) (i : ℕ) (t : ColumnKind) (types : List ColumnKind) (bytes : List ℕ) (place size early : ℕ) → is_set bitmap i ≡ false → IsBytes bytes → value_end (shape t) bytes ≡ Ok size →
    size + early ≡ place → Stops bitmap (suc i) types (drop size bytes) early → Stops bitmap i (t ∷ types) bytes place
stops_later bitmap i t types bytes place size early clear fits is total o =
    let v = value_is_there (shape t) bytes size fits is in
    let within = v.within in
    let place_is = o.place_is in
    let at : suc i + length o.before ≡ i + suc (length o.before) = omega arith in
    record {
      values = take size bytes ++ o.values;
      rest = o.rest;
      before = t ∷ o.before;
      kind = o.kind;
      after = o.after;
      cells = cell_of (shape t) bytes ∷ o.cells;
      part = o.part;
      bytes_are = sym (take-append-drop size bytes) ∙ ap (λ l. take size bytes ++ l) o.bytes_are ∙ sym (append_assoc (take size bytes) o.values o.rest);
      types_are = ap (λ l. t ∷ l) o.types_are;
      nulls = earlier bitmap i (length o.before) (cell_of (shape t) bytes) o.cells (clear ∙ sym v.not_null) o.nulls;
      values_are = are_values t o.before (cell_of (shape t) bytes) o.cells (take size bytes ++ o.values) (take size bytes) o.values v.not_null refl v.is_value o.values_are;
      not_null = ap (is_set bitmap) (sym at) ∙ o.not_null;
      ends = o.ends;
      place_is = omega (arith, total, place_is, within, length-append (take size bytes) o.values, length-take size bytes);
    }

stops_by : (bitmap : List ℕ) (i : ℕ) (t : ColumnKind) (types : List ColumnKind) (bytes : List ℕ) (place : ℕ) (end : Result ℕ ℕ) → is_set bitmap i ≡ false → IsBytes bytes → value_end (shape t) bytes ≡ end →
    (end >>= (λ n. values_end bitmap (suc i) types (drop n bytes))) ≡ Err place →
    ((size early : ℕ) → values_end bitmap (suc i) types (drop size bytes) ≡ Err early → Stops bitmap (suc i) types (drop size bytes) early) → Stops bitmap i (t ∷ types) bytes place
stops_by bitmap i t types bytes place (Err p) clear fits is total others =
    let same : p ≡ place = cc in
    let at : i + 0 ≡ i = omega arith in
    record {
      values = [];
      rest = bytes;
      before = [];
      kind = t;
      after = types;
      cells = [];
      part = p;
      bytes_are = refl;
      types_are = refl;
      nulls = λ k below. absurd (omega (arith, below));
      values_are = refl;
      not_null = ap (is_set bitmap) at ∙ clear;
      ends = value_stops (shape t) bytes p is;
      place_is = omega (arith, same);
    }
stops_by bitmap i t types bytes place (Ok size) clear fits is total others =
    let s = split_err size place (values_end bitmap (suc i) types (drop size bytes)) total in
    stops_later bitmap i t types bytes place size s.0 clear fits is s.2 (others size s.0 s.1)

values_stop : (bitmap : List ℕ) (i : ℕ) (types : List ColumnKind) (bytes : List ℕ) (place : ℕ) → IsBytes bytes → values_end bitmap i types bytes ≡ Err place → Stops bitmap i types bytes place
values_stop bitmap i [] bytes place fits is = absurd cc
values_stop bitmap i (t ∷ types) bytes place fits is = elim (cases_Bool (is_set bitmap i)) as (λ _. Stops bitmap i (t ∷ types) bytes place) [
  | inl set ↦ (
      let o = values_stop bitmap (suc i) types bytes place fits (rw set at is) in
      let at : suc i + length o.before ≡ i + suc (length o.before) = omega arith in
      record {
        values = o.values;
        rest = o.rest;
        before = t ∷ o.before;
        kind = o.kind;
        after = o.after;
        cells = null_cell ∷ o.cells;
        part = o.part;
        bytes_are = o.bytes_are;
        types_are = ap (λ l. t ∷ l) o.types_are;
        nulls = earlier bitmap i (length o.before) null_cell o.cells set o.nulls;
        values_are = o.values_are;
        not_null = ap (is_set bitmap) (sym at) ∙ o.not_null;
        ends = o.ends;
        place_is = o.place_is;
      })
  | inr clear ↦ stops_by bitmap i t types bytes place (value_end (shape t) bytes) clear fits refl (rw clear at is) (λ size early rest. values_stop bitmap (suc i) types (drop size bytes) early (IsBytes-drop size bytes fits) rest)
]

-- the columns before are read, and the next one stops
stopped_after : (bitmap : List ℕ) (i : ℕ) (t : ColumnKind) (types : List ColumnKind) (cell : CellValue) (values first others rest : List ℕ) (part : ℕ) → is_set bitmap i ≡ false → values ≡ first ++ others →
    IsValue (shape t) cell first → values_end bitmap (suc i) types (others ++ rest) ≡ Err (length others + part) → values_end bitmap i (t ∷ types) (values ++ rest) ≡ Err (length values + part)
stopped_after bitmap i t types cell values first others rest part clear e is stopped =
    let v = value_is_read (shape t) cell first (others ++ rest) is in
    let cut : values ++ rest ≡ first ++ (others ++ rest) = ap (λ l. l ++ rest) e ∙ append_assoc first others rest in
    let after_first : drop (length first) (first ++ (others ++ rest)) ≡ others ++ rest = drop_front first (others ++ rest) in
    let all : length first + (length others + part) ≡ length values + part = omega (arith, ap length e, length-append first others) in
    ap (values_end bitmap i (t ∷ types)) cut ∙ rw (clear, v.0, after_first, stopped) (ap (λ (k : ℕ). Err k) all)

values_stopped : (bitmap : List ℕ) (i : ℕ) (before : List ColumnKind) (kind : ColumnKind) (after : List ColumnKind) (cells : List CellValue) (values rest : List ℕ) (part : ℕ) → Nulls bitmap i (length before) cells →
    AreValues before cells values → is_set bitmap (i + length before) ≡ false → EndsInValue (shape kind) rest part → values_end bitmap i (before ++ kind ∷ after) (values ++ rest) ≡ Err (length values + part)
values_stopped bitmap i [] kind after [] values rest part nulls are clear ends =
    let at : i + 0 ≡ i = omega arith in
    let here : is_set bitmap i ≡ false = ap (is_set bitmap) (sym at) ∙ clear in
    let none : part ≡ length values + part = omega (arith, ap length are) in
    ap (λ l. values_end bitmap i (kind ∷ after) (l ++ rest)) are ∙ rw (here, value_stopped (shape kind) rest part ends) (ap (λ (k : ℕ). Err k) none)
values_stopped bitmap i [] kind after (cell ∷ cells) values rest part nulls are clear ends = absurd are
values_stopped bitmap i (t ∷ before) kind after [] values rest part nulls are clear ends = absurd are
values_stopped bitmap i (t ∷ before) kind after (null_cell ∷ cells) values rest part nulls are clear ends =
    let at : suc i + length before ≡ i + suc (length before) = omega arith in
    let set = now bitmap i (length before) null_cell cells nulls in
    rw set (values_stopped bitmap (suc i) before kind after cells values rest part (later bitmap i (length before) null_cell cells nulls) are (ap (is_set bitmap) at ∙ clear) ends)
values_stopped bitmap i (t ∷ before) kind after (number_cell n w ∷ cells) values rest part nulls are clear ends =
    let at : suc i + length before ≡ i + suc (length before) = omega arith in
    stopped_after bitmap i t (before ++ kind ∷ after) (number_cell n w) values are.0 are.1 rest part (now bitmap i (length before) (number_cell n w) cells nulls) are.2 are.3
    (values_stopped bitmap (suc i) before kind after cells are.1 rest part (later bitmap i (length before) (number_cell n w) cells nulls) are.4 (ap (is_set bitmap) at ∙ clear) ends)
values_stopped bitmap i (t ∷ before) kind after (bytes_cell v ∷ cells) values rest part nulls are clear ends =
    let at : suc i + length before ≡ i + suc (length before) = omega arith in
    stopped_after bitmap i t (before ++ kind ∷ after) (bytes_cell v) values are.0 are.1 rest part (now bitmap i (length before) (bytes_cell v) cells nulls) are.2 are.3
    (values_stopped bitmap (suc i) before kind after cells are.1 rest part (later bitmap i (length before) (bytes_cell v) cells nulls) are.4 (ap (is_set bitmap) at ∙ clear) ends)

-- ---- A row.

pub row_stops : (types : List ColumnKind) (bytes : List ℕ) (place : ℕ) → IsBytes bytes → row_end types bytes ≡ Err place → EndsInRow types bytes place
unfolding row_end
row_stops types bytes place fits is =
    let size = bitmap_size (length types) in
    elim (cases_lt (length bytes) size) as (λ _. EndsInRow types bytes place) [
      | inl short ↦ (let e : row_end types bytes ≡ Err 0 = rw (lt-ltb _ _ short) refl in let same : 0 ≡ place = cc in inl (sym same, short))
      | inr long ↦ (
          let bitmap = take size bytes in
          let e : row_end types bytes ≡ further size (values_end bitmap 0 types (drop size bytes)) = rw (le-ltb _ _ long) refl in
          let s = split_err size place (values_end bitmap 0 types (drop size bytes)) (sym e ∙ is) in
          let o = values_stop bitmap 0 types (drop size bytes) s.0 (IsBytes-drop size bytes fits) s.1 in
          let bitmap_length : length bitmap ≡ size = omega (arith, long, length-take size bytes) in
          let total = s.2 in
          let place_is = o.place_is in
          inr (record {
            bitmap = bitmap;
            values = o.values;
            rest = o.rest;
            before = o.before;
            kind = o.kind;
            after = o.after;
            cells = o.cells;
            part = o.part;
            bytes_are = sym (take-append-drop size bytes) ∙ ap (λ l. bitmap ++ l) o.bytes_are;
            bitmap_length = bitmap_length;
            types_are = o.types_are;
            nulls = λ k below. let e : 0 + k ≡ k = omega arith in o.nulls k below ∙ ap (λ j. Some (is_set bitmap j)) e;
            values_are = o.values_are;
            not_null = (let e : length o.before ≡ 0 + length o.before = omega arith in ap (is_set bitmap) e ∙ o.not_null);
            ends = o.ends;
            place_is = omega (arith, total, place_is, bitmap_length);
          }))
    ]

pub row_stopped : (types : List ColumnKind) (bytes : List ℕ) (place : ℕ) → EndsInRow types bytes place → row_end types bytes ≡ Err place
unfolding row_end
row_stopped types bytes place (inl ends) = rw (lt-ltb _ _ ends.1) (ap (λ (k : ℕ). Err k) (sym ends.0))
row_stopped types bytes place (inr r) =
    let size = bitmap_size (length types) in
    let front : take size bytes ≡ r.bitmap = ap (take size) r.bytes_are ∙ take_at r.bitmap (r.values ++ r.rest) size r.bitmap_length in
    let back : drop size bytes ≡ r.values ++ r.rest = ap (drop size) r.bytes_are ∙ drop_at r.bitmap (r.values ++ r.rest) size r.bitmap_length in
    let nulls : Nulls r.bitmap 0 (length r.before) r.cells = λ k below. let e : k ≡ 0 + k = omega arith in r.nulls k below ∙ ap (λ j. Some (is_set r.bitmap j)) e in
    let columns : 0 + length r.before ≡ length r.before = omega arith in
    let not_null : is_set r.bitmap (0 + length r.before) ≡ false = ap (is_set r.bitmap) columns ∙ r.not_null in
    let stopped = values_stopped r.bitmap 0 r.before r.kind r.after r.cells r.values r.rest r.part nulls r.values_are not_null r.ends in
    let enough : size ≤ length bytes = omega (arith, r.bitmap_length, ap length r.bytes_are, length-append r.bitmap (r.values ++ r.rest)) in
    let total : size + (length r.values + r.part) ≡ place = omega (arith, r.bitmap_length, r.place_is) in
    rw (le-ltb _ _ enough) (ap (further size) ((λ i. values_end (front i) 0 (r.types_are i) (back i)) ∙ stopped) ∙ ap (λ (k : ℕ). Err k) total)

-- ---- A pair.

update_stops : (types : List ColumnKind) (bytes : List ℕ) (place : ℕ) (end : Result ℕ ℕ) → IsBytes bytes → row_end types bytes ≡ end → (end >>= (λ n. row_end types (drop n bytes))) ≡ Err place → EndsInPair Update types bytes place
update_stops types bytes place (Err p) fits is total = let same : p ≡ place = cc in inl (row_stops types bytes place fits (is ∙ ap (λ (k : ℕ). Err k) same))
update_stops types bytes place (Ok n) fits is total =
    let s = split_err n place (row_end types (drop n bytes)) total in
    let there = row_is_there types bytes n fits is in
    let within = there.0 in
    let sum = s.2 in
    inr (record {
      first = take n bytes;
      rest = drop n bytes;
      before = row_cells types bytes;
      part = s.0;
      bytes_are = sym (take-append-drop n bytes);
      is_row = there.1;
      ends = row_stops types (drop n bytes) s.0 (IsBytes-drop n bytes fits) s.1;
      place_is = omega (arith, sum, within, length-take n bytes);
    })

-- Where the end of a pair is not found, the bytes end in it,
pub pair_stops : (kind : RowsKind) (types : List ColumnKind) (bytes : List ℕ) (place : ℕ) → IsBytes bytes → pair_end kind types bytes ≡ Err place → EndsInPair kind types bytes place
pair_stops Write types bytes place fits is = row_stops types bytes place fits is
pair_stops Delete types bytes place fits is = row_stops types bytes place fits is
pair_stops Update types bytes place fits is = update_stops types bytes place (row_end types bytes) fits refl is

update_stopped : (types : List ColumnKind) (bytes : List ℕ) (place : ℕ) → EndsInPair Update types bytes place → pair_end Update types bytes ≡ Err place
update_stopped types bytes place (inl ends) = ap (λ e. e >>= (λ n. row_end types (drop n bytes))) (row_stopped types bytes place ends)
update_stopped types bytes place (inr r) =
    let read = ap (row_end types) r.bytes_are ∙ (row_is_read types r.before r.first r.rest r.is_row).0 in
    let beyond : drop (length r.first) bytes ≡ r.rest = ap (drop (length r.first)) r.bytes_are ∙ drop_front r.first r.rest in
    ap (λ e. e >>= (λ n. row_end types (drop n bytes))) read ∙ ap (λ l. further (length r.first) (row_end types l)) beyond ∙ ap (further (length r.first)) (row_stopped types r.rest r.part r.ends) ∙ ap (λ (k : ℕ). Err k) (sym r.place_is)

-- and where they do, it is not found.
pub pair_stopped : (kind : RowsKind) (types : List ColumnKind) (bytes : List ℕ) (place : ℕ) → EndsInPair kind types bytes place → pair_end kind types bytes ≡ Err place
pair_stopped Write types bytes place ends = row_stopped types bytes place ends
pair_stopped Delete types bytes place ends = row_stopped types bytes place ends
pair_stopped Update types bytes place ends = update_stopped types bytes place ends
