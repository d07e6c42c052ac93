-- The rows of a rows event.
use Rattle.binlog.proofs.Names.{◌≡◌, ℕ, zero, suc, ◌+◌, ◌-◌, ◌<◌, ◌≤◌, List, [], ◌∷◌, ◌++◌, length, take, map, Result, Ok, Err, refl, sym, ap, subst, ◌∙◌, append_assoc, arith, inl, inr, take-add, le-ltb, lt-ltb, cases_lt, cases_Bool, length-append, length-drop, length-take, take-append-drop, append-nil, little_number, CellValue, shape, value_end, bitmap_size, is_set, further, ◌>>=◌, values_end, row_cells, pair_end, items_of, ColumnKind, EventFault, Truncated, RowsKind, Write, Update, Delete, Shape, Number, Fixed, Prefixed, IsBytes, IsBytes-drop, drop_front}
use Rattle.std.proofs.Common.{drop}
use Rattle.binlog.specs.Row.{IsRow, row_end}
use Rattle.binlog.specs.Rows.{PairValue, inserted, deleted, updated, IsPair, AreRows, EndsEarly, AreItemsAt, reached, pair_of, item_front}
use Rattle.binlog.proofs.RowEnds.{split_err, pair_stops, pair_stopped}
use Rattle.binlog.proofs.RowCells.{value_is_there, split_end, row_is_read, row_is_there}

-- ---- The offset of what does not fit is within the bytes.

value_early : (s : Shape) (bytes : List ℕ) (place : ℕ) → value_end s bytes ≡ Err place → place ≤ length bytes
value_early (Number width) bytes place is = elim (cases_lt (length bytes) width) as (λ _. place ≤ length bytes) [
  | inl short ↦ (let e : value_end (Number width) bytes ≡ Err 0 = rw (lt-ltb _ _ short) refl in let same : 0 ≡ place = cc in omega (arith, same))
  | inr long ↦ (let e : value_end (Number width) bytes ≡ Ok width = rw (le-ltb _ _ long) refl in absurd cc)
]
value_early (Fixed size) bytes place is = elim (cases_lt (length bytes) size) as (λ _. place ≤ length bytes) [
  | inl short ↦ (let e : value_end (Fixed size) bytes ≡ Err 0 = rw (lt-ltb _ _ short) refl in let same : 0 ≡ place = cc in omega (arith, same))
  | inr long ↦ (let e : value_end (Fixed size) bytes ≡ Ok size = rw (le-ltb _ _ long) refl in absurd cc)
]
value_early (Prefixed size) bytes place is =
    let n = little_number size bytes in
    elim (cases_lt (length bytes) size) as (λ _. place ≤ length bytes) [
      | inl short ↦ (let e : value_end (Prefixed size) bytes ≡ Err 0 = rw (lt-ltb _ _ short) refl in let same : 0 ≡ place = cc in omega (arith, same))
      | inr long ↦ elim (cases_lt (length bytes - size) n) as (λ _. place ≤ length bytes) [
        | inl few ↦ (let e : value_end (Prefixed size) bytes ≡ Err size = rw (le-ltb _ _ long, lt-ltb _ _ few) refl in let same : size ≡ place = cc in omega (arith, same, long))
        | inr enough ↦ (let e : value_end (Prefixed size) bytes ≡ Ok (size + n) = rw (le-ltb _ _ long, le-ltb _ _ enough) refl in absurd cc)
      ]
    ]

early_by : (end : Result ℕ ℕ) (next : ℕ → Result ℕ ℕ) (long place : ℕ) → ((e : ℕ) → end ≡ Err e → e ≤ long) → ((size e : ℕ) → end ≡ Ok size → next size ≡ Err e → size + e ≤ long) → (end >>= next) ≡ Err place → place ≤ long
early_by (Err e) next long place first beyond is = let same : e ≡ place = cc in subst (λ k. k ≤ long) same (first e refl)
early_by (Ok size) next long place first beyond is = let s = split_err size place (next size) is in subst (λ k. k ≤ long) s.2 (beyond size s.0 refl s.1)

values_early : (bitmap : List ℕ) (i : ℕ) (types : List ColumnKind) (bytes : List ℕ) (place : ℕ) → IsBytes bytes → values_end bitmap i types bytes ≡ Err place → place ≤ length bytes
values_early bitmap i [] bytes place fits is = absurd cc
values_early bitmap i (t ∷ types) bytes place fits is = elim (cases_Bool (is_set bitmap i)) as (λ _. place ≤ length bytes) [
  | inl set ↦ values_early bitmap (suc i) types bytes place fits (rw set at is)
  | inr clear ↦ early_by (value_end (shape t) bytes) (λ size. values_end bitmap (suc i) types (drop size bytes)) (length bytes) place (value_early (shape t) bytes)
      (λ size e h rest. let inside = (value_is_there (shape t) bytes size fits h).within in
      let l = values_early bitmap (suc i) types (drop size bytes) e (IsBytes-drop size bytes fits) rest in
      omega (arith, inside, l, length-drop size bytes))
      (rw clear at is)
]

-- The offset of a part of a row that does not fit is within the bytes.
pub row_early : (types : List ColumnKind) (bytes : List ℕ) (place : ℕ) → IsBytes bytes → row_end types bytes ≡ Err place → place ≤ length bytes
unfolding row_end
row_early types bytes place fits is =
    let size = bitmap_size (length types) in
    elim (cases_lt (length bytes) size) as (λ _. place ≤ length bytes) [
      | inl short ↦ (let e : row_end types bytes ≡ Err 0 = rw (lt-ltb _ _ short) refl in let same : 0 ≡ place = cc in omega (arith, same))
      | inr long ↦ (
          let e : row_end types bytes ≡ further size (values_end (take size bytes) 0 types (drop size bytes)) = rw (le-ltb _ _ long) refl in
          let s = split_err size place (values_end (take size bytes) 0 types (drop size bytes)) (sym e ∙ is) in
          let l = values_early (take size bytes) 0 types (drop size bytes) s.0 (IsBytes-drop size bytes fits) s.1 in
          let total = s.2 in
          omega (arith, l, total, long, length-drop size bytes))
    ]

some_bits : (n : ℕ) → 1 ≤ n → 1 ≤ bitmap_size n
some_bits n some = grind (arith, some)

-- A row is not empty.
pub row_some : (types : List ColumnKind) (bytes : List ℕ) (end : ℕ) → 1 ≤ length types → row_end types bytes ≡ Ok end → 1 ≤ end
unfolding row_end
row_some types bytes end some is =
    let size = bitmap_size (length types) in
    let bits = some_bits (length types) some in
    elim (cases_lt (length bytes) size) as (λ _. 1 ≤ end) [
      | inl short ↦ (let e : row_end types bytes ≡ Err 0 = rw (lt-ltb _ _ short) refl in absurd cc)
      | inr long ↦ (
          let e : row_end types bytes ≡ further size (values_end (take size bytes) 0 types (drop size bytes)) = rw (le-ltb _ _ long) refl in
          let s = split_end size end (values_end (take size bytes) 0 types (drop size bytes)) (sym e ∙ is) in
          let total = s.2 in
          omega (arith, total, bits))
    ]

-- The row that the first bytes are.
pub row_front : (types : List ColumnKind) (cells : List CellValue) (bytes : List ℕ) (n : ℕ) → n ≤ length bytes → IsRow types cells (take n bytes) → (row_end types bytes ≡ Ok n) × (row_cells types bytes ≡ cells)
row_front types cells bytes n within is =
    let read = row_is_read types cells (take n bytes) (drop n bytes) is in
    let whole = take-append-drop n bytes in
    let long : length (take n bytes) ≡ n = omega (arith, within, length-take n bytes) in
    (ap (row_end types) (sym whole) ∙ read.0 ∙ ap (λ (k : ℕ). Ok k) long, ap (row_cells types) (sym whole) ∙ read.1)

-- ---- A pair.

pub record PairThere (kind : RowsKind) (types : List ColumnKind) (pair : PairValue) (bytes : List ℕ) (size : ℕ) : Type 0 where
  pub within : size ≤ length bytes
  pub some : 1 ≤ size
  pub is_pair : IsPair kind types pair (take size bytes)

update_there : (types : List ColumnKind) (bytes : List ℕ) (size : ℕ) (end : Result ℕ ℕ) → IsBytes bytes → 1 ≤ length types → row_end types bytes ≡ end → (end >>= (λ n. row_end types (drop n bytes))) ≡ Ok size →
    PairThere Update types (updated (row_cells types bytes) (row_cells types (drop (reached end) bytes))) bytes size
update_there types bytes size (Err place) fits some is total = absurd cc
update_there types bytes size (Ok n) fits some is total =
    let s = split_end n size (row_end types (drop n bytes)) total in
    let first = row_is_there types bytes n fits is in
    let second = row_is_there types (drop n bytes) s.0 (IsBytes-drop n bytes fits) s.1 in
    let not_none = row_some types bytes n some is in
    let a = first.0 in
    let b = second.0 in
    let sum = s.2 in
    record {
      within = omega (arith, a, b, sum, length-drop n bytes);
      some = omega (arith, not_none, sum);
      is_pair = (take n bytes, take s.0 (drop n bytes), ap (λ k. take k bytes) (sym sum) ∙ take-add n s.0 bytes, first.1, second.1);
    }

-- What is read is a pair,
pub pair_is_there : (kind : RowsKind) (types : List ColumnKind) (bytes : List ℕ) (size : ℕ) → IsBytes bytes → 1 ≤ length types → pair_end kind types bytes ≡ Ok size → PairThere kind types (pair_of kind types bytes) bytes size
pair_is_there Write types bytes size fits some is = let r = row_is_there types bytes size fits is in record { within = r.0; some = row_some types bytes size some is; is_pair = r.1 }
pair_is_there Update types bytes size fits some is = update_there types bytes size (row_end types bytes) fits some refl is
pair_is_there Delete types bytes size fits some is = let r = row_is_there types bytes size fits is in record { within = r.0; some = row_some types bytes size some is; is_pair = r.1 }

-- and a pair is read to its end, whatever follows it.
pub pair_is_read : (kind : RowsKind) (types : List ColumnKind) (pair : PairValue) (first rest : List ℕ) → IsPair kind types pair first → (pair_end kind types (first ++ rest) ≡ Ok (length first)) × (pair_of kind types (first ++ rest) ≡ pair)
pair_is_read Write types (inserted cells) first rest is = let r = row_is_read types cells first rest is in (r.0, ap inserted r.1)
pair_is_read Write types (deleted cells) first rest is = absurd is
pair_is_read Write types (updated before after) first rest is = absurd is
pair_is_read Delete types (inserted cells) first rest is = absurd is
pair_is_read Delete types (deleted cells) first rest is = let r = row_is_read types cells first rest is in (r.0, ap deleted r.1)
pair_is_read Delete types (updated before after) first rest is = absurd is
pair_is_read Update types (inserted cells) first rest is = absurd is
pair_is_read Update types (deleted cells) first rest is = absurd is
pair_is_read Update types (updated before after) first rest is =
    let cut : first ++ rest ≡ is.0 ++ (is.1 ++ rest) = ap (λ l. l ++ rest) is.2 ∙ append_assoc is.0 is.1 rest in
    let a = row_is_read types before is.0 (is.1 ++ rest) is.3 in
    let b = row_is_read types after is.1 rest is.4 in
    let end : row_end types (first ++ rest) ≡ Ok (length is.0) = ap (row_end types) cut ∙ a.0 in
    let beyond : drop (length is.0) (first ++ rest) ≡ is.1 ++ rest = ap (drop (length is.0)) cut ∙ drop_front is.0 (is.1 ++ rest) in
    let long : length is.0 + length is.1 ≡ length first = sym (ap length is.2 ∙ length-append is.0 is.1) in (
      ap (λ e. e >>= (λ n. row_end types (drop n (first ++ rest)))) end ∙ ap (λ l. further (length is.0) (row_end types l)) beyond ∙ ap (further (length is.0)) b.0 ∙ ap (λ (k : ℕ). Ok k) long,
      (λ i. updated (row_cells types (cut i)) (row_cells types (drop (reached (end i)) (first ++ rest)))) ∙ (λ i. updated (a.1 i) (row_cells types (beyond i))) ∙ ap (updated before) b.1,
    )

-- The rows of an update, as they are read.
pub both_rows : (types : List ColumnKind) (before after : List CellValue) (bytes : List ℕ) (n m : ℕ) → n ≤ length bytes → IsRow types before (take n bytes) → m ≤ length (drop n bytes) → IsRow types after (take m (drop n bytes)) →
    (pair_end Update types bytes ≡ Ok (n + m)) × (pair_of Update types bytes ≡ updated before after)
both_rows types before after bytes n m first is_before second is_after =
    let a = row_front types before bytes n first is_before in
    let b = row_front types after (drop n bytes) m second is_after in (
      ap (λ e. e >>= (λ n. row_end types (drop n bytes))) a.0 ∙ ap (further n) b.0,
      (λ i. updated (a.1 i) (row_cells types (drop (reached (a.0 i)) bytes))) ∙ ap (updated before) b.1,
    )

pub early_second : (types : List ColumnKind) (before : List CellValue) (bytes : List ℕ) (n place : ℕ) → n ≤ length bytes → IsRow types before (take n bytes) → row_end types (drop n bytes) ≡ Err place →
    pair_end Update types bytes ≡ Err (n + place)
early_second types before bytes n place first is_before early =
    let a = row_front types before bytes n first is_before in
    ap (λ e. e >>= (λ n. row_end types (drop n bytes))) a.0 ∙ ap (further n) early

pub pair_some : (kind : RowsKind) (types : List ColumnKind) (bytes : List ℕ) (size : ℕ) → 1 ≤ length types → pair_end kind types bytes ≡ Ok size → 1 ≤ size
pair_some Write types bytes size some is = row_some types bytes size some is
pair_some Delete types bytes size some is = row_some types bytes size some is
pair_some Update types bytes size some is = by_end (row_end types bytes) refl is
  where
    by_end : (end : Result ℕ ℕ) → row_end types bytes ≡ end → (end >>= (λ n. row_end types (drop n bytes))) ≡ Ok size → 1 ≤ size
    by_end (Err place) first total = absurd cc
    by_end (Ok n) first total = let s = split_end n size (row_end types (drop n bytes)) total in let sum = s.2 in let a = row_some types bytes n some first in omega (arith, sum, a)

-- ---- The items.

-- enough is enough
same_front : (end : Result ℕ ℕ) (pair : PairValue) (at : ℕ) (f g : ℕ → List (Result PairValue EventFault)) → ((size : ℕ) → end ≡ Ok size → f size ≡ g size) → item_front end pair at f ≡ item_front end pair at g
same_front (Ok size) pair at f g same = ap (λ l. Ok pair ∷ l) (same size refl)
same_front (Err place) pair at f g same = refl

pub enough : (most more : ℕ) (kind : RowsKind) (types : List ColumnKind) (bytes : List ℕ) (at : ℕ) → 1 ≤ length types → length bytes ≤ most → length bytes ≤ more → items_of most kind types bytes at ≡ items_of more kind types bytes at
enough zero zero kind types bytes at some a b = refl
enough zero (suc more) kind types [] at some a b = refl
enough zero (suc more) kind types (x ∷ bytes) at some a b = absurd (omega (arith, a))
enough (suc most) zero kind types [] at some a b = refl
enough (suc most) zero kind types (x ∷ bytes) at some a b = absurd (omega (arith, b))
enough (suc most) (suc more) kind types [] at some a b = refl
enough (suc most) (suc more) kind types (x ∷ bytes) at some a b =
    same_front (pair_end kind types (x ∷ bytes)) (pair_of kind types (x ∷ bytes)) at _ _
    (λ size is. let not_none = pair_some kind types (x ∷ bytes) size some is in
    let left = length-drop size (x ∷ bytes) in
    enough most more kind types (drop size (x ∷ bytes)) (at + size) some (omega (arith, a, not_none, left)) (omega (arith, b, not_none, left)))

pub pair_first : (most : ℕ) (kind : RowsKind) (types : List ColumnKind) (bytes : List ℕ) (at size : ℕ) → 1 ≤ length types → length bytes ≤ most → 1 ≤ length bytes → pair_end kind types bytes ≡ Ok size →
    items_of most kind types bytes at ≡ Ok (pair_of kind types bytes) ∷ items_of (length (drop size bytes)) kind types (drop size bytes) (at + size)
pair_first zero kind types bytes at size some all left is = absurd (omega (arith, all, left))
pair_first (suc most) kind types [] at size some all left is = absurd (omega (arith, left))
pair_first (suc most) kind types (x ∷ bytes) at size some all left is =
    let not_none = pair_some kind types (x ∷ bytes) size some is in
    let rest = drop size (x ∷ bytes) in
    let beyond : length rest ≤ most = omega (arith, all, not_none, length-drop size (x ∷ bytes)) in
    let own : length rest ≤ length rest = omega arith in
    ap (λ e. item_front e (pair_of kind types (x ∷ bytes)) at (λ n. items_of most kind types (drop n (x ∷ bytes)) (at + n))) is
    ∙ ap (λ l. Ok (pair_of kind types (x ∷ bytes)) ∷ l) (enough most (length rest) kind types rest (at + size) some beyond own)

pub fault_first : (most : ℕ) (kind : RowsKind) (types : List ColumnKind) (bytes : List ℕ) (at place : ℕ) → length bytes ≤ most → 1 ≤ length bytes → pair_end kind types bytes ≡ Err place →
    items_of most kind types bytes at ≡ Err (record { kind = Truncated; at = at + place }) ∷ []
fault_first zero kind types bytes at place all left is = absurd (omega (arith, all, left))
fault_first (suc most) kind types [] at place all left is = absurd (omega (arith, left))
fault_first (suc most) kind types (x ∷ bytes) at place all left is = ap (λ e. item_front e (pair_of kind types (x ∷ bytes)) at (λ n. items_of most kind types (drop n (x ∷ bytes)) (at + n))) is

pub shorter : {X : Type 0} (s t : List X) (x : X) → s ≡ x ∷ t → length t < length s
shorter s t x e = omega (arith, ap length e)

-- A pair before items makes items.
more_items : (kind : RowsKind) (types : List ColumnKind) (bytes : List ℕ) (at size : ℕ) (pair : PairValue) (items : List (Result PairValue EventFault)) → size ≤ length bytes → IsPair kind types pair (take size bytes) →
    AreItemsAt kind types (drop size bytes) (at + size) items → AreItemsAt kind types bytes at (Ok pair ∷ items)
more_items kind types bytes at size pair items within is (inl are) = inl (pair ∷ are.0, (take size bytes, drop size bytes, sym (take-append-drop size bytes), is, are.1), ap (λ l. Ok pair ∷ l) are.2)
more_items kind types bytes at size pair items within is (inr are) =
    let e = are.2 in
    let long : length (take size bytes) ≡ size = omega (arith, within, length-take size bytes) in
    let whole : bytes ≡ take size bytes ++ e.whole ++ e.rest = sym (take-append-drop size bytes) ∙ ap (λ l. take size bytes ++ l) e.bytes_are ∙ sym (append_assoc (take size bytes) e.whole e.rest) in
    let place_is = e.place_is in
    let further_on : at + size + are.1 ≡ at + (size + are.1) = omega arith in
    inr (
      pair ∷ are.0,
      size + are.1,
      record {
        whole = take size bytes ++ e.whole;
        rest = e.rest;
        early = e.early;
        bytes_are = whole;
        pairs_are = (take size bytes, e.whole, refl, is, e.pairs_are);
        left_over = e.left_over;
        ends = e.ends;
        place_is = omega (arith, place_is, long, length-append (take size bytes) e.whole);
      },
      ap (λ l. Ok pair ∷ l) (are.3 ∙ ap (λ (k : ℕ). map Ok are.0 ++ Err (record { kind = Truncated; at = k }) ∷ []) further_on),
    )

-- The items of the bytes are those of the rows.
pub are_items : (most : ℕ) (kind : RowsKind) (types : List ColumnKind) (bytes : List ℕ) (at : ℕ) → IsBytes bytes → 1 ≤ length types → length bytes ≤ most → AreItemsAt kind types bytes at (items_of most kind types bytes at)
are_items zero kind types [] at fits some all = inl ([], refl, refl)
are_items zero kind types (x ∷ bytes) at fits some all = absurd (omega (arith, all))
are_items (suc most) kind types [] at fits some all = inl ([], refl, refl)
are_items (suc most) kind types (x ∷ bytes) at fits some all = by_end (pair_end kind types (x ∷ bytes)) refl
    (λ size not_none. are_items most kind types (drop size (x ∷ bytes)) (at + size) (IsBytes-drop size (x ∷ bytes) fits) some (omega (arith, all, not_none, length-drop size (x ∷ bytes))))
  where
    by_end : (end : Result ℕ ℕ) → pair_end kind types (x ∷ bytes) ≡ end →
        ((size : ℕ) → 1 ≤ size → AreItemsAt kind types (drop size (x ∷ bytes)) (at + size) (items_of most kind types (drop size (x ∷ bytes)) (at + size))) →
        AreItemsAt kind types (x ∷ bytes) at (item_front end (pair_of kind types (x ∷ bytes)) at (λ n. items_of most kind types (drop n (x ∷ bytes)) (at + n)))
    by_end (Ok size) is others =
        let there = pair_is_there kind types (x ∷ bytes) size fits some is in
        more_items kind types (x ∷ bytes) at size (pair_of kind types (x ∷ bytes)) (items_of most kind types (drop size (x ∷ bytes)) (at + size)) there.within there.is_pair (others size there.some)
    by_end (Err place) is others =
        inr ([], place, record { whole = []; rest = x ∷ bytes; early = place; bytes_are = refl; pairs_are = refl; left_over = omega arith; ends = pair_stops kind types (x ∷ bytes) place fits is; place_is = omega arith }, refl)

-- ---- One list of rows.

-- The items of rows, and what follows them.
after_rows : (pairs : List PairValue) (most : ℕ) (kind : RowsKind) (types : List ColumnKind) (bytes rest : List ℕ) (at : ℕ) → 1 ≤ length types → AreRows kind types pairs bytes → length (bytes ++ rest) ≤ most →
    items_of most kind types (bytes ++ rest) at ≡ map Ok pairs ++ items_of (length rest) kind types rest (at + length bytes)
after_rows [] most kind types bytes rest at some are all =
    let none = ap length are in
    let here : at ≡ at + length bytes = omega (arith, none) in
    let long : length rest ≤ most = omega (arith, all, none, length-append bytes rest) in
    let own : length rest ≤ length rest = omega arith in
    (λ i. items_of most kind types (are i ++ rest) (here i)) ∙ enough most (length rest) kind types rest (at + length bytes) some long own
after_rows (pair ∷ pairs) most kind types bytes rest at some are all =
    let first = are.0 in
    let tail = are.1 ++ rest in
    let cut : bytes ++ rest ≡ first ++ tail = ap (λ l. l ++ rest) are.2 ∙ append_assoc first are.1 rest in
    let read = pair_is_read kind types pair first tail are.3 in
    let not_none = pair_some kind types (first ++ tail) (length first) some read.0 in
    let total = length-append first tail in
    let fits : length (first ++ tail) ≤ most = omega (arith, all, ap length cut) in
    let left : 1 ≤ length (first ++ tail) = omega (arith, not_none, total) in
    let own : length tail ≤ length tail = omega arith in
    let beyond = drop_front first tail in
    let place : at + length first + length are.1 ≡ at + length bytes = omega (arith, ap length are.2, length-append first are.1) in
    ap (λ l. items_of most kind types l at) cut
    ∙ pair_first most kind types (first ++ tail) at (length first) some fits left read.0
    ∙ (λ i. Ok (read.1 i) ∷ items_of (length (beyond i)) kind types (beyond i) (at + length first))
    ∙ ap (λ l. Ok pair ∷ l) (after_rows pairs (length tail) kind types are.1 rest (at + length first) some are.4 own
    ∙ ap (λ k. map Ok pairs ++ items_of (length rest) kind types rest k) place)

rows_items : (kind : RowsKind) (types : List ColumnKind) (pairs : List PairValue) (bytes : List ℕ) (at : ℕ) → 1 ≤ length types → AreRows kind types pairs bytes → items_of (length bytes) kind types bytes at ≡ map Ok pairs
rows_items kind types pairs bytes at some are =
    let whole = append-nil bytes in
    let all : length (bytes ++ []) ≤ length bytes = omega (arith, ap length whole) in
    ap (λ l. items_of (length bytes) kind types l at) (sym whole) ∙ after_rows pairs (length bytes) kind types bytes [] at some are all ∙ append-nil (map Ok pairs)

early_items : (kind : RowsKind) (types : List ColumnKind) (pairs : List PairValue) (bytes : List ℕ) (place at : ℕ) → 1 ≤ length types → EndsEarly kind types pairs bytes place →
    items_of (length bytes) kind types bytes at ≡ map Ok pairs ++ Err (record { kind = Truncated; at = at + place }) ∷ []
early_items kind types pairs bytes place at some e =
    let cut = e.bytes_are in
    let place_is = e.place_is in
    let all : length (e.whole ++ e.rest) ≤ length bytes = omega (arith, ap length cut) in
    let own : length e.rest ≤ length e.rest = omega arith in
    let further_on : at + length e.whole + e.early ≡ at + place = omega (arith, place_is) in
    ap (λ l. items_of (length bytes) kind types l at) cut ∙ after_rows pairs (length bytes) kind types e.whole e.rest at some e.pairs_are all
    ∙ ap (λ l. map Ok pairs ++ l) (fault_first (length e.rest) kind types e.rest (at + length e.whole) e.early own e.left_over (pair_stopped kind types e.rest e.early e.ends) ∙ ap (λ (k : ℕ). Err (record { kind = Truncated; at = k }) ∷ []) further_on)

abbrev Items : Type 0
Items = List (Result PairValue EventFault)

same_pairs : (a b : List PairValue) → ◌≡◌ {A = Items} (map Ok a) (map Ok b) → a ≡ b
same_pairs [] [] same = refl
same_pairs [] (y ∷ b) same = absurd cc
same_pairs (x ∷ a) [] same = absurd cc
same_pairs (x ∷ a) (y ∷ b) same = let first : x ≡ y = cc in let others : ◌≡◌ {A = Items} (map Ok a) (map Ok b) = cc in λ i. first i ∷ same_pairs a b others i

no_fault_there : (a b : List PairValue) (fault : EventFault) → ◌≡◌ {A = Items} (map Ok a) (map Ok b ++ Err fault ∷ []) → ⊥
no_fault_there [] [] fault same = cc
no_fault_there [] (y ∷ b) fault same = cc
no_fault_there (x ∷ a) [] fault same = cc
no_fault_there (x ∷ a) (y ∷ b) fault same = let others : ◌≡◌ {A = Items} (map Ok a) (map Ok b ++ Err fault ∷ []) = cc in no_fault_there a b fault others

same_ends : (a b : List PairValue) (f g : EventFault) → ◌≡◌ {A = Items} (map Ok a ++ Err f ∷ []) (map Ok b ++ Err g ∷ []) → (a ≡ b) × (f ≡ g)
same_ends [] [] f g same = let e : f ≡ g = cc in (refl, e)
same_ends [] (y ∷ b) f g same = absurd cc
same_ends (x ∷ a) [] f g same = absurd cc
same_ends (x ∷ a) (y ∷ b) f g same =
    let first : x ≡ y = cc in
    let others : ◌≡◌ {A = Items} (map Ok a ++ Err f ∷ []) (map Ok b ++ Err g ∷ []) = cc in
    let s = same_ends a b f g others in
    ((λ i. first i ∷ s.0 i), s.1)

pub one_list : (kind : RowsKind) (types : List ColumnKind) (a b : List PairValue) (bytes : List ℕ) → 1 ≤ length types → AreRows kind types a bytes → AreRows kind types b bytes → a ≡ b
one_list kind types a b bytes some are_a are_b = same_pairs a b (sym (rows_items kind types a bytes 0 some are_a) ∙ rows_items kind types b bytes 0 some are_b)

pub whole_or_early : (kind : RowsKind) (types : List ColumnKind) (a b : List PairValue) (bytes : List ℕ) (place : ℕ) → 1 ≤ length types → AreRows kind types a bytes → EndsEarly kind types b bytes place → ⊥
whole_or_early kind types a b bytes place some are early = no_fault_there a b _ (sym (rows_items kind types a bytes 0 some are) ∙ early_items kind types b bytes place 0 some early)

pub one_end : (kind : RowsKind) (types : List ColumnKind) (a b : List PairValue) (bytes : List ℕ) (p q : ℕ) → 1 ≤ length types → EndsEarly kind types a bytes p → EndsEarly kind types b bytes q → (a ≡ b) × (p ≡ q)
one_end kind types a b bytes p q some early_a early_b =
    let s = same_ends a b _ _ (sym (early_items kind types a bytes p 0 some early_a) ∙ early_items kind types b bytes q 0 some early_b) in
    let place = ap (λ (f : EventFault). f.at) s.1 in
    (s.0, omega (arith, place))

items_are : (kind : RowsKind) (types : List ColumnKind) (bytes : List ℕ) (at : ℕ) (items : Items) → 1 ≤ length types → AreItemsAt kind types bytes at items → items_of (length bytes) kind types bytes at ≡ items
items_are kind types bytes at items some (inl are) = rows_items kind types are.0 bytes at some are.1 ∙ sym are.2
items_are kind types bytes at items some (inr are) = early_items kind types are.0 bytes are.1 at some are.2 ∙ sym are.3

pub one_items : (kind : RowsKind) (types : List ColumnKind) (bytes : List ℕ) (at : ℕ) (x y : List (Result PairValue EventFault)) → 1 ≤ length types → AreItemsAt kind types bytes at x → AreItemsAt kind types bytes at y → x ≡ y
one_items kind types bytes at x y some are_x are_y = sym (items_are kind types bytes at x some are_x) ∙ items_are kind types bytes at y some are_y

pub some_items : (kind : RowsKind) (types : List ColumnKind) (bytes : List ℕ) (at : ℕ) → IsBytes bytes → 1 ≤ length types → AreItemsAt kind types bytes at (items_of (length bytes) kind types bytes at)
some_items kind types bytes at fits some = let all : length bytes ≤ length bytes = omega arith in are_items (length bytes) kind types bytes at fits some all
