-- What an edit of a table does to the counts.
use Rattle.store.proofs.Names.{◌≡◌, inl, inr, ℕ, ◌+◌, ◌-◌, ℤ, pos, List, [], ◌∷◌, filter, Bool, true, false, cond, refl, sym, ap, ◌∙◌, arith, not, ◌&&◌, and_parts, or_parts, cases_Bool, false_from_ne_true, bytes_eq-Decides, is_eq, match_ordering, Ordering, Less, Equal, Greater, AllByRecursion, Value, Int, Blob, Row, value_cmp_total, all-put_row, IsPermutation, IsPermutation-refl, IsPermutation-trans, IsPermutation-cons, rowid, put_row, without_rowid, has_rowid, is_int, is_taken, all_has, has_filtered, Key, alike, HasRowids, same_key, is_blob, is_at, count, with_one, without_one}
use Rattle.std.proofs.lemmas.Cmp.{tied_back}
use Rattle.std.specs.List.{IsDistinct}
use Rattle.std.specs.FinSet as set
use Rattle.sqlite_value.specs.Order.{column, value_cmp}
use Rattle.sqlite_value.proofs.OrderLemmas.{value_cmp-Int}
use Rattle.std.proofs.lemmas.List.Sorted.{IsPermutation-insert}
use Rattle.sqlite_rules.specs.Lists.{Has}
use Rattle.store.specs.Rows.{number_in, share}

-- ---- keys

pub own_bytes : (b : List ℕ) → is_blob b (Blob b) ≡ true
own_bytes b = (bytes_eq-Decides b b).1 refl

pub blob_is : (v : Value) (b : List ℕ) → is_blob b v ≡ true → v ≡ Blob b
blob_is (Blob x) b h = ap Blob ((bytes_eq-Decides x b).0 h)
blob_is _ b h = absurd (cc)

-- a row with the key has the other keys that are the same
pub at_same : (key k : Key) (row : Row) → is_at key row ≡ true → is_at k row ≡ same_key key k
at_same key k row h =
    let first = and_parts _ _ h in
    let rest = and_parts _ _ first.1 in
    rw (blob_is (column row 1) key.schema first.0, blob_is (column row 2) key.table rest.0, blob_is (column row 3) key.image rest.1)

-- ---- a row is put in

put_fresh : (k : Key) (new : Row) (rows : List Row) → is_taken rows new ≡ false → count (put_row new rows) k ≡ share k new + count rows k
put_fresh k new [] free = refl
put_fresh k new (r ∷ rows) free =
    let parts = or_parts _ _ free in
    go (value_cmp (rowid r) (rowid new)) parts.0 (put_fresh k new rows parts.1)
  where
    go : (o : Ordering) → is_eq o ≡ false → count (put_row new rows) k ≡ share k new + count rows k
        → count (match_ordering o (r ∷ put_row new rows) (new ∷ rows) (new ∷ r ∷ rows)) k ≡ share k new + (share k r + count rows k)
    go Less apart more = omega arith
    go Equal apart more = absurd (cc)
    go Greater apart more = refl

-- ---- a row is taken out
none_left : (id : ℤ) (rows : List Row) → AllByRecursion (λ r. has_rowid id r ≡ false) rows → without_rowid id rows ≡ rows
none_left id [] apart = refl
none_left id (r ∷ rows) apart = rw (apart.0, none_left id rows apart.1)

pub equal_is : (o : Ordering) → is_eq o ≡ true → o ≡ Equal
equal_is Less h = absurd (cc)
equal_is Equal h = refl
equal_is Greater h = absurd (cc)

pub same_int : (a b : ℕ) → is_eq (value_cmp (Int (pos a)) (Int (pos b))) ≡ true → a ≡ b
same_int a b h =
    let equal = equal_is _ (sym (ap is_eq (value_cmp-Int (pos a) (pos b))) ∙ h) in
    let is : pos a ≡ pos b = set.int_cmp-IsAntisymmetric (pos a) (pos b) equal in
    cc

apart_from : (id : ℤ) (x y : Row) → has_rowid id x ≡ true → alike x y ≡ false → has_rowid id y ≡ false
apart_from id x y is apart = false_from_ne_true _ (λ at.
    let tie = value_cmp_total.congr (rowid x) (Int id) (rowid y) (equal_is _ is) ∙ tied_back value_cmp_total (rowid y) (Int id) (equal_is _ at) in
    let same = ap is_eq tie in cc)

all_apart : (id : ℤ) (x : Row) (rows : List Row) → has_rowid id x ≡ true → AllByRecursion (λ y. alike x y ≡ false) rows → AllByRecursion (λ y. has_rowid id y ≡ false) rows
all_apart id x [] is all = tt
all_apart id x (y ∷ rows) is all = (apart_from id x y is all.0, all_apart id x rows is all.1)

taken_out : (k : Key) (id : ℤ) (r : Row) (rows : List Row) → IsDistinct alike rows → Has rows r → has_rowid id r ≡ true → count rows k ≡ share k r + count (without_rowid id rows) k
unfolding IsDistinct
taken_out k id r [] up h is = absurd h
taken_out k id r (x ∷ rows) up (inl same) is = rw (← same, is, none_left id rows (all_apart id r rows is (rw (← same) at up.0))) refl
taken_out k id r (x ∷ rows) up (inr h) is = elim (cases_Bool (has_rowid id x)) [
  | inl at ↦ absurd (let apart = apart_from id x r at (all_has _ rows r up.0 h) in cc)
  | inr apart ↦ rw apart (let more = taken_out k id r rows up.1 h is in omega arith)
]

-- ---- the rowids stay apart
pub all_filtered : (P : Row → Type 0) (p : Row → Bool) (rows : List Row) → AllByRecursion P rows → AllByRecursion P (filter p rows)
all_filtered P p [] all = tt
all_filtered P p (r ∷ rows) all = go (p r) (all_filtered P p rows all.1)
  where
    go : (b : Bool) → AllByRecursion P (filter p rows) → AllByRecursion P (cond b (r ∷ filter p rows) (filter p rows))
    go true more = (all.0, more)
    go false more = more

distinct_filtered : (p : Row → Bool) (rows : List Row) → IsDistinct alike rows → IsDistinct alike (filter p rows)
unfolding IsDistinct
distinct_filtered p [] up = tt
distinct_filtered p (r ∷ rows) up = go (p r) (distinct_filtered p rows up.1)
  where
    go : (b : Bool) → IsDistinct alike (filter p rows) → IsDistinct alike (cond b (r ∷ filter p rows) (filter p rows))
    go true more = (all_filtered _ p rows up.0, more)
    go false more = more

pub rowids_without : (id : ℤ) (rows : List Row) → HasRowids rows → HasRowids (without_rowid id rows)
rowids_without id rows h = record { apart = distinct_filtered _ rows h.apart; keyed = all_filtered _ _ rows h.keyed }

pub turned : (a b : Row) → alike a b ≡ false → alike b a ≡ false
turned a b apart = false_from_ne_true _ (λ same. let tie = ap is_eq (tied_back value_cmp_total (rowid b) (rowid a) (equal_is _ same)) in cc)

all_turned : (new : Row) (rows : List Row) → is_taken rows new ≡ false → AllByRecursion (λ x. alike new x ≡ false) rows
all_turned new [] free = tt
all_turned new (r ∷ rows) free = let parts = or_parts _ _ free in (turned r new parts.0, all_turned new rows parts.1)

distinct_put : (new : Row) (rows : List Row) → is_taken rows new ≡ false → IsDistinct alike rows → IsDistinct alike (put_row new rows)
unfolding IsDistinct
distinct_put new [] free up = (tt, tt)
distinct_put new (r ∷ rows) free up =
    let parts = or_parts _ _ free in go (value_cmp (rowid r) (rowid new)) parts.0 (distinct_put new rows parts.1 up.1) (turned r new parts.0, all_turned new rows parts.1)
  where
    go : (o : Ordering) → is_eq o ≡ false → IsDistinct alike (put_row new rows) → AllByRecursion (λ x. alike new x ≡ false) (r ∷ rows)
        → IsDistinct alike (match_ordering o (r ∷ put_row new rows) (new ∷ rows) (new ∷ r ∷ rows))
    go Less apart more all = (all-put_row (λ y. alike r y ≡ false) new rows (or_parts _ _ free).0 up.0, more)
    go Equal apart more all = absurd (cc)
    go Greater apart more all = (all, up)

pub rowids_put : (new : Row) (rows : List Row) → is_int (rowid new) ≡ true → is_taken rows new ≡ false → HasRowids rows → HasRowids (put_row new rows)
rowids_put new rows keyed free h = record { apart = distinct_put new rows free h.apart; keyed = all-put_row _ new rows keyed h.keyed }

-- ---- two tests

pub both_pass : (p q : Row → Bool) (rows : List Row) → filter (λ r. p r && q r) rows ≡ filter q (filter p rows)
both_pass p q [] = refl
both_pass p q (r ∷ rows) = go (p r) (both_pass p q rows)
  where
    go : (b : Bool) → filter (λ r. p r && q r) rows ≡ filter q (filter p rows) → cond (b && q r) (r ∷ filter (λ r. p r && q r) rows) (filter (λ r. p r && q r) rows) ≡ filter q (cond b (r ∷ filter p rows) (filter p rows))
    go true more = ap (λ l. cond (q r) (r ∷ l) l) more
    go false more = more

-- ---- what is left without the one row that passes a test

none_pass : (p : Row → Bool) (rows : List Row) → filter p rows ≡ [] → filter (λ x. not (p x)) rows ≡ rows
none_pass p [] none = refl
none_pass p (x ∷ rows) none = elim (cases_Bool (p x)) [
  | inl at ↦ absurd (let some = rw at at none in cc)
  | inr apart ↦ rw (apart, none_pass p rows (rw apart at none))
]

pub left_is : (p : Row → Bool) (id : ℤ) (r : Row) (rows : List Row) → IsDistinct alike rows → filter p rows ≡ r ∷ [] → has_rowid id r ≡ true
    → without_rowid id rows ≡ filter (λ x. not (p x)) rows
unfolding IsDistinct
left_is p id r [] up found is = absurd (cc)
left_is p id r (x ∷ rows) up found is = elim (cases_Bool (p x)) [
  | inl at ↦ (
      let one : x ∷ filter p rows ≡ r ∷ [] = rw at at found in
      let same : x ≡ r = cc in
      let none : filter p rows ≡ [] = cc in
      rw (at, same, is, none_left id rows (all_apart id r rows is (rw same at up.0)), none_pass p rows none) refl)
  | inr apart ↦ (
      let one : filter p rows ≡ r ∷ [] = rw apart at found in
      let has : Has rows r = (has_filtered p rows r (rw one (inl refl))).0 in
      let off : has_rowid id x ≡ false = apart_from id r x is (turned x r (all_has (λ y. alike x y ≡ false) rows r up.0 has)) in
      rw (apart, off, left_is p id r rows up.1 one is) refl)
]

-- an inserted row is somewhere among the others
pub put_among : (new : Row) (rows : List Row) → is_taken rows new ≡ false → IsPermutation (new ∷ rows) (put_row new rows)
put_among new [] free = IsPermutation-refl (new ∷ [])
put_among new (r ∷ rows) free =
    let parts = or_parts _ _ free in go (value_cmp (rowid r) (rowid new)) parts.0 (put_among new rows parts.1)
  where
    go : (o : Ordering) → is_eq o ≡ false → IsPermutation (new ∷ rows) (put_row new rows)
        → IsPermutation (new ∷ r ∷ rows) (match_ordering o (r ∷ put_row new rows) (new ∷ rows) (new ∷ r ∷ rows))
    go Less apart more = IsPermutation-trans (new ∷ r ∷ rows) (r ∷ new ∷ rows) (r ∷ put_row new rows) (IsPermutation-insert (r ∷ rows) 1 new) (IsPermutation-cons r (new ∷ rows) (put_row new rows) more)
    go Equal apart more = absurd (cc)
    go Greater apart more = IsPermutation-refl (new ∷ r ∷ rows)

-- ---- rows that a test leaves out

-- a row that does not pass is put in
pub put_left_out : (p : Row → Bool) (new : Row) (rows : List Row) → p new ≡ false → is_taken rows new ≡ false → filter p (put_row new rows) ≡ filter p rows
put_left_out p new [] out free = rw out refl
put_left_out p new (r ∷ rows) out free =
    let parts = or_parts _ _ free in go (value_cmp (rowid r) (rowid new)) parts.0 (put_left_out p new rows out parts.1)
  where
    go : (o : Ordering) → is_eq o ≡ false → filter p (put_row new rows) ≡ filter p rows → filter p (match_ordering o (r ∷ put_row new rows) (new ∷ rows) (new ∷ r ∷ rows)) ≡ filter p (r ∷ rows)
    go Less apart more = ap (λ l. cond (p r) (r ∷ l) l) more
    go Equal apart more = absurd (cc)
    go Greater apart more = rw out refl

pub filtered_again : (p : Row → Bool) (rows : List Row) → filter p (filter p rows) ≡ filter p rows
filtered_again p [] = refl
filtered_again p (r ∷ rows) = elim (cases_Bool (p r)) [
  | inl passes ↦ rw passes (rw passes (ap (λ l. r ∷ l) (filtered_again p rows)))
  | inr fails ↦ rw fails (filtered_again p rows)
]

-- ---- the three edits of held

share_same : (key k : Key) (row : Row) (n : ℕ) → is_at key row ≡ true → number_in (column row 4) ≡ n → share k row ≡ cond (same_key key k) n 0
share_same key k row n at is = rw (at_same key k row at, is) refl

cases_more : (b : Bool) (c n : ℕ) → cond b (n + 1) 0 + c ≡ cond b (cond b n 0 + c + 1) (cond b n 0 + c)
cases_more true c n = omega arith
cases_more false c n = refl

cases_less : (b : Bool) (c n : ℕ) → cond b n 0 + c ≡ cond b (cond b (n + 1) 0 + c - 1) (cond b (n + 1) 0 + c)
cases_less true c n = omega arith
cases_less false c n = refl

pub same_function : {A B : Type 0} (f g : A → B) → ((x : A) → f x ≡ g x) → f ≡ g
same_function f g h = λ i x. h x i

-- the row that a table finds alone under a key
pub found_alone : (key : Key) (rows : List Row) (r : Row) → filter (is_at key) rows ≡ r ∷ [] → Has rows r × (is_at key r ≡ true)
found_alone key rows r h = has_filtered (is_at key) rows r (rw h (inl refl))

pub counts_inserted : (key : Key) (new : Row) (rows : List Row) → is_at key new ≡ true → column new 4 ≡ Int (pos 1) → is_taken rows new ≡ false
    → count (put_row new rows) ≡ with_one key (count rows)
counts_inserted key new rows at one free = same_function _ _ (λ k.
    let share_is = share_same key k new 1 at (ap number_in one) in
    put_fresh k new rows free ∙ ap (λ n. n + count rows k) share_is ∙ plus_one (same_key key k) (count rows k))
  where
    plus_one : (b : Bool) (c : ℕ) → cond b 1 0 + c ≡ cond b (c + 1) c
    plus_one true c = omega arith
    plus_one false c = omega arith

module _ (key : Key) (id : ℤ) (r : Row) (rows : List Row) (up : IsDistinct alike rows) (has : filter (is_at key) rows ≡ r ∷ []) (is : has_rowid id r ≡ true) where
  before : (k : Key) (n : ℕ) → column r 4 ≡ Int (pos n) → count rows k ≡ cond (same_key key k) n 0 + count (without_rowid id rows) k
  before k n is_n =
      let alone = found_alone key rows r has in
      taken_out k id r rows up alone.0 is ∙ ap (λ m. m + count (without_rowid id rows) k) (share_same key k r n alone.1 (ap number_in is_n))

  pub counts_deleted : column r 4 ≡ Int (pos 1) → count (without_rowid id rows) ≡ without_one key (count rows)
  counts_deleted one = same_function _ _ (λ k. cases_one (same_key key k) (count (without_rowid id rows) k) (count rows k) (before k 1 one))
    where
      cases_one : (b : Bool) (c d : ℕ) → d ≡ cond b 1 0 + c → c ≡ cond b (d - 1) d
      cases_one true c d e = omega arith
      cases_one false c d e = omega arith

  module _ (new : Row) (at : is_at key new ≡ true) (free : is_taken (without_rowid id rows) new ≡ false) where
    after : (k : Key) (m : ℕ) → column new 4 ≡ Int (pos m) → count (put_row new (without_rowid id rows)) k ≡ cond (same_key key k) m 0 + count (without_rowid id rows) k
    after k m is_m = put_fresh k new (without_rowid id rows) free ∙ ap (λ n. n + count (without_rowid id rows) k) (share_same key k new m at (ap number_in is_m))

    pub counts_raised : (n : ℕ) → column r 4 ≡ Int (pos n) → column new 4 ≡ Int (pos (n + 1)) → count (put_row new (without_rowid id rows)) ≡ with_one key (count rows)
    counts_raised n is_n is_m = same_function _ _ (λ k. after k (n + 1) is_m ∙ cases_more (same_key key k) (count (without_rowid id rows) k) n
        ∙ ap (λ d. cond (same_key key k) (d + 1) d) (sym (before k n is_n)))

    pub counts_lowered : (n : ℕ) → column r 4 ≡ Int (pos (n + 1)) → column new 4 ≡ Int (pos n) → count (put_row new (without_rowid id rows)) ≡ without_one key (count rows)
    counts_lowered n is_n is_m = same_function _ _ (λ k. after k n is_m ∙ cases_less (same_key key k) (count (without_rowid id rows) k) n
        ∙ ap (λ d. cond (same_key key k) (d - 1) d) (sym (before k (n + 1) is_n)))

-- the count of a key is what its one row has, or 0
pub count_found : (key : Key) (rows : List Row) (r : Row) (n : ℕ) → filter (is_at key) rows ≡ r ∷ [] → column r 4 ≡ Int (pos n) → count rows key ≡ n
count_found key rows r n has is = counted rows ∙ ap (total) has ∙ (let alone = found_alone key rows r has in rw is (omega arith))
  where
    total : List Row → ℕ
    total [] = 0
    total (x ∷ xs) = number_in (column x 4) + total xs

    counted : (xs : List Row) → count xs key ≡ total (filter (is_at key) xs)
    counted [] = refl
    counted (x ∷ xs) = elim (cases_Bool (is_at key x)) [ inl at ↦ rw (at, counted xs) refl | inr apart ↦ rw (apart, counted xs) (omega arith) ]

pub count_none : (key : Key) (rows : List Row) → filter (is_at key) rows ≡ [] → count rows key ≡ 0
count_none key [] none = refl
count_none key (x ∷ xs) none = elim (cases_Bool (is_at key x)) [
  | inl at ↦ absurd (let some = rw at at none in cc)
  | inr apart ↦ rw (apart, count_none key xs (rw apart at none)) refl
]
