-- The part of a rows event before its rows.
use Rattle.binlog.proofs.Names.{◌≡◌, ℕ, zero, suc, ◌+◌, ◌-◌, ◌<◌, ◌≤◌, ◌^◌, Bool, true, false, not, List, [], ◌∷◌, ◌++◌, length, get_or, take, Option, Some, None, refl, sym, ap, subst, ◌∙◌, append_assoc, arith, inl, inr, nat_lt, nat_le, range_with_len, take-add, le-ltb, le-leb, cases_Bool, cases_lt, false≢true, not-false, ltb-false, leb-true, length-append, length-drop, length-take, take-append-drop, take_at, little_bytes, little_number, little_number-reads_back, little_from-lt, length-bytes_low_first, IsLengthEncoded, needs, refuse, number_at, count_width, count_at, bitmap_size, is_set, is_column_count, RowsValue, IsRows, presents_size, Columns, Size, EventFault, RowsKind, Write, Update, Delete, IsBytes, drop_drop, drop_at, drop_front, IsBytes-drop}
use Rattle.std.proofs.Common.{drop}
use Rattle.std.specs.List.{list_all}
use Rattle.std.proofs.lemmas.List.Folds.{list_all_at}
use Rattle.std.proofs.lemmas.List.FromFn.{length-range_with_len, get_or-range_with_len}
use Rattle.binlog.specs.Fault.{first_of}
use Rattle.binlog.specs.Count.{no_count}
use Rattle.binlog.specs.Rows.{AllPresent, ArePresent, is_full, present_fault, presents_fault, rows_fault}
use Rattle.binlog.specs.declared.fault.EventFaultKind.TheVariants.{Partial}
use Rattle.wire.proofs.Cuts.{number_at_front, cut, after, right_7}
use Rattle.binlog.proofs.Tables.{passes, not_refused, is_there}
use Rattle.binlog.proofs.Counts.{counted, count_not_refused, Counted, is_counted}

-- ---- Bitmaps of present columns.

all_true : (p : ℕ → Bool) (a n : ℕ) → ((k : ℕ) → a ≤ k → k < a + n → p k ≡ true) → list_all p (range_with_len a n) ≡ true
all_true p a zero all = refl
all_true p a (suc n) all =
    let others = all_true p (a + 1) n (λ k low high. all k (omega (arith, low)) (omega (arith, high))) in
    rw (all a (omega arith) (omega arith)) others

all_but : (p : ℕ → Bool) (n i : ℕ) → i < n → p i ≡ false → list_all p (range_with_len 0 n) ≡ false
all_but p n i short is =
    let at : get_or (range_with_len 0 n) i 0 ≡ i = get_or-range_with_len 0 n i 0 short ∙ (omega arith) in
    list_all_at p (range_with_len 0 n) i 0 (omega (arith, short, length-range_with_len 0 n)) (ap p at ∙ is)

pub full : (n : ℕ) (bitmap : List ℕ) → ((i : ℕ) → i < n → is_set bitmap i ≡ true) → is_full n bitmap ≡ true
full n bitmap all = all_true (is_set bitmap) 0 n (λ k low high. all k (omega (arith, high)))

pub not_full : (n i : ℕ) (bitmap : List ℕ) → i < n → is_set bitmap i ≡ false → is_full n bitmap ≡ false
not_full n i bitmap short clear = all_but (is_set bitmap) n i short clear

each_set : (n : ℕ) (bitmap : List ℕ) → is_full n bitmap ≡ true → (i : ℕ) → i < n → is_set bitmap i ≡ true
each_set n bitmap all i short = elim (cases_Bool (is_set bitmap i)) as (λ _. is_set bitmap i ≡ true) [
  | inl set ↦ set
  | inr clear ↦ absurd (false≢true (sym (not_full n i bitmap short clear) ∙ all))
]

pub record PresentThere (bytes : List ℕ) (place n : ℕ) : Type 0 where
  pub within : place + bitmap_size n ≤ length bytes
  pub present : AllPresent n (take (bitmap_size n) (drop place bytes))

pub present_there : (bytes : List ℕ) (place n : ℕ) → present_fault bytes place n ≡ None → PresentThere bytes place n
present_there bytes place n none =
    let bitmap = take (bitmap_size n) (drop place bytes) in
    let a = passes _ _ none in
    let b = passes _ _ a.1 in
    let within = is_there bytes place (bitmap_size n) a.0 in
    let all = not-false (is_full n bitmap) (not_refused (not (is_full n bitmap)) Partial place b.0) in
    record {
      within = within;
      present = record { size = omega (arith, within, length-take (bitmap_size n) (drop place bytes), length-drop place bytes); present = each_set n bitmap all };
    }

-- as the code finds it
pub present_whole : (bytes : List ℕ) (place n : ℕ) → place + bitmap_size n ≤ length bytes → is_full n (take (bitmap_size n) (drop place bytes)) ≡ true → present_fault bytes place n ≡ None
present_whole bytes place n within all = rw (le-ltb _ _ within, all) refl

pub present_partial : (bytes : List ℕ) (place n : ℕ) → place + bitmap_size n ≤ length bytes → is_full n (take (bitmap_size n) (drop place bytes)) ≡ false → present_fault bytes place n ≡ Some (record { kind = Partial; at = place })
present_partial bytes place n within missing = rw (le-ltb _ _ within, missing) refl

fits_front : (bytes front rest : List ℕ) (place : ℕ) → place ≤ length bytes → drop place bytes ≡ front ++ rest → place + length front ≤ length bytes
fits_front bytes front rest place within stands = omega (arith, within, ap length stands, length-drop place bytes, length-append front rest)

present_not_refused : (bytes bitmap rest : List ℕ) (place n : ℕ) → place ≤ length bytes → AllPresent n bitmap → drop place bytes ≡ bitmap ++ rest → present_fault bytes place n ≡ None
present_not_refused bytes bitmap rest place n within is stands =
    let long = fits_front bytes bitmap rest place within stands in
    let size = is.size in
    let there : place + bitmap_size n ≤ length bytes = omega (arith, long, size) in
    let front : take (bitmap_size n) (drop place bytes) ≡ bitmap = ap (take (bitmap_size n)) stands ∙ take_at bitmap rest (bitmap_size n) is.size in
    present_whole bytes place n there (ap (is_full n) front ∙ full n bitmap is.present)

pub presents_long : (kind : RowsKind) (n : ℕ) (present : List ℕ) → ArePresent kind n present → length present ≡ presents_size kind n
presents_long Write n present is = is.size
presents_long Delete n present is = is.size
presents_long Update n present is = ap length is.2 ∙ length-append is.0 is.1 ∙ (λ i. is.3.size i + is.4.size i)

presents_not_refused : (kind : RowsKind) (bytes present rest : List ℕ) (place n : ℕ) → place ≤ length bytes → ArePresent kind n present → drop place bytes ≡ present ++ rest → presents_fault kind bytes place n ≡ None
presents_not_refused Write bytes present rest place n within is stands = present_not_refused bytes present rest place n within is stands
presents_not_refused Delete bytes present rest place n within is stands = present_not_refused bytes present rest place n within is stands
presents_not_refused Update bytes present rest place n within is stands =
    let all : drop place bytes ≡ is.0 ++ (is.1 ++ rest) = stands ∙ ap (λ l. l ++ rest) is.2 ∙ append_assoc is.0 is.1 rest in
    let long = fits_front bytes is.0 (is.1 ++ rest) place within all in
    let size = is.3.size in
    let second : drop (place + bitmap_size n) bytes ≡ is.1 ++ rest = sym (drop_drop place (bitmap_size n) bytes) ∙ ap (drop (bitmap_size n)) all ∙ drop_at is.0 (is.1 ++ rest) (bitmap_size n) size in
    let a = present_not_refused bytes is.0 (is.1 ++ rest) place n within is.3 all in
    let b = present_not_refused bytes is.1 rest (place + bitmap_size n) n (omega (arith, long, size)) is.4 second in
    both _ _ a b
  where
    both : (x y : Option EventFault) → x ≡ None → y ≡ None → first_of (x ∷ y ∷ []) ≡ None
    both x y a b = (λ i. first_of (a i ∷ b i ∷ []))

pub record PresentsThere (kind : RowsKind) (bytes : List ℕ) (place n : ℕ) : Type 0 where
  pub within : place + presents_size kind n ≤ length bytes
  pub present : ArePresent kind n (take (presents_size kind n) (drop place bytes))

presents_there : (kind : RowsKind) (bytes : List ℕ) (place n : ℕ) → presents_fault kind bytes place n ≡ None → PresentsThere kind bytes place n
presents_there Write bytes place n none = let t = present_there bytes place n none in record { within = t.within; present = t.present }
presents_there Delete bytes place n none = let t = present_there bytes place n none in record { within = t.within; present = t.present }
presents_there Update bytes place n none =
    let a = passes (present_fault bytes place n) _ none in
    let b = passes (present_fault bytes (place + bitmap_size n) n) _ a.1 in
    let first = present_there bytes place n a.0 in
    let second = present_there bytes (place + bitmap_size n) n b.0 in
    let within = second.within in
    record {
      within = omega (arith, within);
      present = (
        take (bitmap_size n) (drop place bytes),
        take (bitmap_size n) (drop (place + bitmap_size n) bytes),
        take-add (bitmap_size n) (bitmap_size n) (drop place bytes) ∙ ap (λ l. take (bitmap_size n) (drop place bytes) ++ take (bitmap_size n) l) (drop_drop place (bitmap_size n) bytes),
        first.present,
        second.present,
      );
    }

-- ---- The whole.

-- the offset of the number of columns
abbrev pub count_place : List ℕ → ℕ
count_place bytes = 27 + number_at 2 bytes 27

abbrev pub columns_of : List ℕ → ℕ
columns_of bytes = count_at bytes (count_place bytes)

-- the offset of the bitmaps, and that of the rows
abbrev pub presents_place : List ℕ → ℕ
presents_place bytes = count_place bytes + count_width bytes (count_place bytes)

abbrev pub rows_place : RowsKind → List ℕ → ℕ
rows_place kind bytes = presents_place bytes + presents_size kind (columns_of bytes)

-- what the bytes say
abbrev pub stated : RowsKind → List ℕ → RowsValue
stated kind bytes = record {
  id = number_at 6 bytes 19;
  kind = kind;
  columns = columns_of bytes;
  bytes = drop (rows_place kind bytes) bytes;
  columns_at = count_place bytes;
  bytes_at = rows_place kind bytes;
}

-- each part is there
pub record AreParts (kind : RowsKind) (bytes : List ℕ) : Type 0 where
  pub head : 29 ≤ length bytes
  pub extra : 2 ≤ number_at 2 bytes 27
  pub extra_fits : count_place bytes ≤ length bytes
  pub count : Counted bytes (count_place bytes)
  pub columns : (1 ≤ columns_of bytes) × (columns_of bytes ≤ 4096)
  pub presents : presents_fault kind bytes (presents_place bytes) (columns_of bytes) ≡ None

pub is_rows : (kind : RowsKind) (bytes : List ℕ) → IsBytes bytes → AreParts kind bytes → IsRows (stated kind bytes) (drop 19 bytes)
is_rows kind bytes fits are =
    let e = number_at 2 bytes 27 in
    let place = count_place bytes in
    let w = count_width bytes place in
    let ps = presents_size kind (columns_of bytes) in
    let there = presents_there kind bytes (presents_place bytes) (columns_of bytes) are.presents in
    let head = are.head in
    let some_extra = are.extra in
    let extra_fits = are.extra_fits in
    let count_fits = are.count.whole in
    let presents_fit = there.within in
    let extra = take (e - 2) (drop 29 bytes) in
    let count = take w (drop place bytes) in
    let present = take ps (drop (presents_place bytes) bytes) in
    let rows = drop (rows_place kind bytes) bytes in
    let extra_long : e ≡ 2 + length extra = omega (arith, some_extra, extra_fits, length-take (e - 2) (drop 29 bytes), length-drop 29 bytes) in
    let count_long : length count ≡ w = omega (arith, count_fits, length-take w (drop place bytes), length-drop place bytes) in
    let present_long : length present ≡ ps = omega (arith, presents_fit, length-take ps (drop (presents_place bytes) bytes), length-drop (presents_place bytes) bytes) in
    let end : 29 + (e - 2) ≡ place = omega (arith, some_extra) in
    let c_presents = cut (presents_place bytes) ps bytes in
    let c_count = cut place w bytes ∙ ap (λ t. count ++ t) c_presents in
    let c29 : drop 29 bytes ≡ extra ++ (count ++ (present ++ rows)) = cut 29 (e - 2) bytes ∙ ap (λ k. extra ++ drop k bytes) end ∙ ap (λ t. extra ++ t) c_count in
    let enough_27 : 2 ≤ length (drop 27 bytes) = omega (arith, head, length-drop 27 bytes) in
    let c27 : drop 27 bytes ≡ little_bytes 2 (2 + length extra) ++ (extra ++ (count ++ (present ++ rows))) =
    number_at_front 2 (drop 27 bytes) enough_27 (IsBytes-drop 27 bytes fits) ∙ (λ i. little_bytes 2 (extra_long i) ++ drop_drop 27 2 bytes i) ∙ ap (λ t. little_bytes 2 (2 + length extra) ++ t) c29 in
    let c25 = cut 25 2 bytes ∙ ap (λ t. take 2 (drop 25 bytes) ++ t) c27 in
    let enough_19 : 6 ≤ length (drop 19 bytes) = omega (arith, head, length-drop 19 bytes) in
    let c19 = number_at_front 6 (drop 19 bytes) enough_19 (IsBytes-drop 19 bytes fits) ∙ ap (λ t. little_bytes 6 (number_at 6 bytes 19) ++ t) (drop_drop 19 6 bytes ∙ c25) in
    let small : e < 2 ^ 16 = little_from-lt 0 2 (drop 27 bytes) (IsBytes-drop 27 bytes fits) in
    record {
      flags = take 2 (drop 25 bytes);
      extra = extra;
      count = count;
      present = present;
      body_is = c19 ∙ sym (right_7 (little_bytes 6 (number_at 6 bytes 19)) (take 2 (drop 25 bytes)) (little_bytes 2 (2 + length extra)) extra count present rows);
      an_id = little_from-lt 0 6 (drop 19 bytes) (IsBytes-drop 19 bytes fits);
      sizes = (omega (arith, head, length-take 2 (drop 25 bytes), length-drop 25 bytes), omega (arith, extra_long, small));
      counted = are.count.encoded;
      columns = are.columns;
      all_present = there.present;
      columns_place = omega (arith, extra_long);
      bytes_place = omega (arith, count_long, present_long);
    }

pub record ReportedRows (r : RowsValue) (bytes : List ℕ) : Type 0 where
  pub are : AreParts r.kind bytes
  pub is : stated r.kind bytes ≡ r

pub rows_reported : (r : RowsValue) (bytes : List ℕ) → IsRows r (drop 19 bytes) → ReportedRows r bytes
rows_reported r bytes is =
    let r5 = is.present ++ r.bytes in
    let r4 = is.count ++ r5 in
    let r3 = is.extra ++ r4 in
    let r2 = little_bytes 2 (2 + length is.extra) ++ r3 in
    let r1 = is.flags ++ r2 in
    let body : drop 19 bytes ≡ little_bytes 6 r.id ++ r1 = is.body_is ∙ right_7 (little_bytes 6 r.id) is.flags (little_bytes 2 (2 + length is.extra)) is.extra is.count is.present r.bytes in
    let d25 : drop 25 bytes ≡ r1 = sym (drop_drop 19 6 bytes) ∙ ap (drop 6) body in
    let d27 : drop 27 bytes ≡ r2 = sym (drop_drop 25 2 bytes) ∙ ap (drop 2) d25 ∙ after 2 0 is.flags r2 is.sizes.0 in
    let d29 : drop 29 bytes ≡ r3 = sym (drop_drop 27 2 bytes) ∙ ap (drop 2) d27 in
    let e : number_at 2 bytes 27 ≡ 2 + length is.extra = ap (little_number 2) d27 ∙ little_number-reads_back 2 (2 + length is.extra) r3 is.sizes.1 in
    let id : number_at 6 bytes 19 ≡ r.id = ap (little_number 6) body ∙ little_number-reads_back 6 r.id r1 is.an_id in
    let place : count_place bytes ≡ 29 + length is.extra = omega (arith, e) in
    let at_count : drop (count_place bytes) bytes ≡ r4 = ap (λ k. drop k bytes) place ∙ sym (drop_drop 29 (length is.extra) bytes) ∙ ap (drop (length is.extra)) d29 ∙ drop_front is.extra r4 in
    let long : length bytes ≡ 29 + length r3 = omega (arith, ap length body, length-drop 19 bytes, length-append (little_bytes 6 r.id) r1, length-bytes_low_first 0 6 r.id, length-append is.flags r2, length-append (little_bytes 2 (2 + length is.extra)) r3, length-bytes_low_first 0 2 (2 + length is.extra), is.sizes.0) in
    let extra_fits : count_place bytes ≤ length bytes = omega (arith, place, long, length-append is.extra r4) in
    let c = counted r.columns is.count r5 bytes (count_place bytes) is.counted at_count in
    let width = c.0 in
    let at_presents : drop (presents_place bytes) bytes ≡ r5 = sym (drop_drop (count_place bytes) (count_width bytes (count_place bytes)) bytes) ∙ (λ i. drop (width i) (at_count i)) ∙ drop_front is.count r5 in
    let count_fits : presents_place bytes ≤ length bytes = omega (arith, width, place, long, length-append is.extra r4, length-append is.count r5) in
    let size = presents_long r.kind r.columns is.present is.all_present in
    let columns = c.1 in
    let size_is : presents_size r.kind (columns_of bytes) ≡ length is.present = ap (presents_size r.kind) columns ∙ sym size in
    let at_rows : drop (rows_place r.kind bytes) bytes ≡ r.bytes = sym (drop_drop (presents_place bytes) (presents_size r.kind (columns_of bytes)) bytes) ∙ (λ i. drop (size_is i) (at_presents i)) ∙ drop_front is.present r.bytes in
    let columns_at : count_place bytes ≡ r.columns_at = place ∙ sym is.columns_place in
    let bytes_place = is.bytes_place in
    let bytes_at : rows_place r.kind bytes ≡ r.bytes_at = omega (arith, columns_at, width, size_is, bytes_place) in
    record {
      are = record {
        head = omega (arith, long);
        extra = omega (arith, e);
        extra_fits = extra_fits;
        count = record {
          whole = count_fits;
          encoded = subst (λ (q : ℕ × List ℕ). IsLengthEncoded q.0 q.1) (λ i. (sym columns i, sym ((λ j. take (width j) (at_count j)) ∙ take_at is.count r5 (length is.count) refl) i)) is.counted;
        };
        columns = subst (λ n. (1 ≤ n) × (n ≤ 4096)) (sym columns) is.columns;
        presents = subst (λ n. presents_fault r.kind bytes (presents_place bytes) n ≡ None) (sym columns)
            (presents_not_refused r.kind bytes is.present r.bytes (presents_place bytes) r.columns count_fits is.all_present at_presents);
      };
      is = λ i. record { id = id i; kind = r.kind; columns = columns i; bytes = at_rows i; columns_at = columns_at i; bytes_at = bytes_at i };
    }

pub not_uncounted : (kind : RowsKind) (bytes : List ℕ) → AreParts kind bytes → no_count bytes (count_place bytes) Columns ≡ None
not_uncounted kind bytes are =
    let place = count_place bytes in
    let w = count_width bytes place in
    count_not_refused (columns_of bytes) (take w (drop place bytes)) (drop w (drop place bytes)) bytes place Columns are.extra_fits are.count.encoded (sym (take-append-drop w (drop place bytes)))

pub one_more : (i : ℕ) (p : ℕ → Bool) → ((k : ℕ) → k < i → p k ≡ true) → p i ≡ true → (k : ℕ) → k < i + 1 → p k ≡ true
one_more i p before last k below = elim (cases_lt k i) as (λ _. p k ≡ true) [
  | inl lt ↦ before k lt
  | inr ge ↦ (let e : i ≡ k = omega (arith, ge, below) in ap p (sym e) ∙ last)
]

-- the remaining faults after the number of columns
pub rows_then : (kind : RowsKind) (bytes : List ℕ) → 29 ≤ length bytes → 2 ≤ number_at 2 bytes 27 → count_place bytes ≤ length bytes → no_count bytes (count_place bytes) Columns ≡ None → 1 ≤ columns_of bytes → columns_of bytes ≤ 4096 →
    rows_fault kind bytes ≡ first_of (presents_fault kind bytes (presents_place bytes) (columns_of bytes) ∷ [])
unfolding rows_fault
rows_then kind bytes head extra fits uncounted low high =
    let h25 : 25 ≤ length bytes = omega (arith, head) in
    let h27 : 27 ≤ length bytes = omega (arith, head) in
    let there : 29 + (number_at 2 bytes 27 - 2) ≤ length bytes = omega (arith, extra, fits) in
    rw (le-ltb _ _ h25, le-ltb _ _ h27, le-ltb _ _ head, le-ltb _ _ extra, le-ltb _ _ there, uncounted, le-leb _ _ low, le-leb _ _ high) refl

pub only_line : (line : Option EventFault) (fault : EventFault) → line ≡ Some fault → first_of (line ∷ []) ≡ Some fault
only_line line fault is = ap (λ l. first_of (l ∷ [])) is

pub rows_not_refused : (kind : RowsKind) (bytes : List ℕ) → AreParts kind bytes → rows_fault kind bytes ≡ None
rows_not_refused kind bytes are =
    rows_then kind bytes are.head are.extra are.extra_fits (not_uncounted kind bytes are) are.columns.0 are.columns.1 ∙ ap (λ l. first_of (l ∷ [])) are.presents

-- Without a refusal each part is there.
pub parts_of : (kind : RowsKind) (bytes : List ℕ) → IsBytes bytes → rows_fault kind bytes ≡ None → AreParts kind bytes
unfolding rows_fault
parts_of kind bytes fits none =
    let extra_length = number_at 2 bytes 27 in
    let a = passes (needs bytes 19 6) _ none in
    let b = passes (needs bytes 25 2) _ a.1 in
    let c = passes (needs bytes 27 2) _ b.1 in
    let d = passes (refuse (nat_lt extra_length 2) Size 27) _ c.1 in
    let e = passes (needs bytes 29 (extra_length - 2)) _ d.1 in
    let f = passes (no_count bytes (count_place bytes) Columns) _ e.1 in
    let g = passes (refuse (not (is_column_count (columns_of bytes))) Columns (count_place bytes)) _ f.1 in
    let h = passes (presents_fault kind bytes (presents_place bytes) (columns_of bytes)) _ g.1 in
    let head = is_there bytes 27 2 c.0 in
    let extra : 2 ≤ number_at 2 bytes 27 = ltb-false _ _ (not_refused (nat_lt (number_at 2 bytes 27) 2) Size 27 d.0) in
    let extra_fits = is_there bytes 29 (number_at 2 bytes 27 - 2) e.0 in
    let in_range = in_column_range (columns_of bytes) (not-false (is_column_count (columns_of bytes)) (not_refused (not (is_column_count (columns_of bytes))) Columns (count_place bytes) g.0)) in
    record {
      head = omega (arith, head);
      extra = extra;
      extra_fits = omega (arith, extra, extra_fits);
      count = is_counted bytes (count_place bytes) Columns fits f.0;
      columns = in_range;
      presents = h.0;
    }
  where
    in_column_range : (n : ℕ) → is_column_count n ≡ true → (1 ≤ n) × (n ≤ 4096)
    in_column_range n is = elim (cases_Bool (nat_le 1 n)) as (λ _. (1 ≤ n) × (n ≤ 4096)) [
      | inl low ↦ (leb-true _ _ low, leb-true _ _ (sym (rw low refl) ∙ is))
      | inr none ↦ absurd (false≢true (sym (rw none refl) ∙ is))
    ]

pub one_rows_event : (a b : RowsValue) (bytes : List ℕ) → a.kind ≡ b.kind → IsRows a (drop 19 bytes) → IsRows b (drop 19 bytes) → a ≡ b
one_rows_event a b bytes same is_a is_b = sym (rows_reported a bytes is_a).is ∙ ap (λ k. stated k bytes) same ∙ (rows_reported b bytes is_b).is
