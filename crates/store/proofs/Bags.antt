-- From the counts of keys to the bag of rows.
use Rattle.store.proofs.Names.{◌≡◌, ◌≢◌, inl, inr, ◌+◌, ◌-◌, ◌<◌, ◌≤◌, ◌^◌, nat_lt, ℕ, List, [], ◌∷◌, length, true, false, cond, Some, None, Option, Ok, Err, Result, IfOk, refl, sym, ap, ◌∙◌, arith, AllByRecursion, list_all, cases_Bool, and_parts, and_from, lt-ltb, ltb-true, le-leb, leb-true, false_from_ne_true, nat_tests, bytes_eq-Decides, State, CellValue, IsImage, HasImage, image, Refusal, row_of, has_image, most, Key, same_key, KeyCounts, with_one, without_one, bag_of, count, held_rows, added, Counted}
use Rattle.binlog.specs.Cell.{null_cell, number_cell, bytes_cell}
use Rattle.gather.specs.Image.{HasCellImage}
use Rattle.gather.specs.Transaction.{insert, delete}
use Rattle.gather.proofs.WholeImages.{one_list}
use Rattle.store.specs.declared.row_change.Refusal.TheVariants.{NoSuchRow, CountFull}
use Rattle.store.specs.State.{TableRow, has_cell_image}
use Rattle.store.specs.Changes.{IsAdded, IsRemoved}
use Rattle.store.specs.Rows.{key_of, key_for}
use Rattle.store.specs.Inside.{Goes, removed, Makes}
use Rattle.store.proofs.BetweenCalls.{goes_then}

-- ---- which cells have an image

cell_has : (c : CellValue) → HasCellImage c → has_cell_image c ≡ true
cell_has null_cell h = refl
cell_has (number_cell n width) h = and_from _ _ (le-leb 1 width h.0) (and_from _ _ (le-leb width 8 h.1) (lt-ltb n (256 ^ width) h.2))
cell_has (bytes_cell bytes) h = lt-ltb (length bytes) (2 ^ 32) h

cells_have : (cells : List CellValue) → AllByRecursion HasCellImage cells → list_all has_cell_image cells ≡ true
cells_have [] h = refl
cells_have (c ∷ cells) h = and_from _ _ (cell_has c h.0) (cells_have cells h.1)

pub image_has : (cells : List CellValue) → HasImage cells → has_image cells ≡ true
image_has cells h = and_from _ _ (lt-ltb (length cells) (2 ^ 16) h.count) (cells_have cells h.each)

has_cell : (c : CellValue) → has_cell_image c ≡ true → HasCellImage c
has_cell null_cell h = tt
has_cell (number_cell n width) h =
    let p = and_parts _ _ h in
    let q = and_parts _ _ p.1 in
    (leb-true 1 width p.0, leb-true width 8 q.0, ltb-true n (256 ^ width) q.1)
has_cell (bytes_cell bytes) h = ltb-true (length bytes) (2 ^ 32) h

have_cells : (cells : List CellValue) → list_all has_cell_image cells ≡ true → AllByRecursion HasCellImage cells
have_cells [] h = tt
have_cells (c ∷ cells) h = let p = and_parts _ _ h in (has_cell c p.0, have_cells cells p.1)

pub has_its_image : (cells : List CellValue) → has_image cells ≡ true → HasImage cells
has_its_image cells h = let p = and_parts _ _ h in record { count = ltb-true (length cells) (2 ^ 16) p.0; each = have_cells cells p.1 }

-- ---- one row's key, and the others'

pub own_key : (key : Key) → same_key key key ≡ true
own_key key = and_from _ _ ((bytes_eq-Decides key.schema key.schema).1 refl) (and_from _ _ ((bytes_eq-Decides key.table key.table).1 refl) ((bytes_eq-Decides key.image key.image).1 refl))

module _ (schema table : List ℕ) (cells : List CellValue) (bytes : List ℕ) (is : IsImage cells bytes) where
  key_is : key_of schema table bytes ≡ key_for (row_of schema table cells)
  key_is = ap (key_of schema table) is.bytes_are

  pub at_row : (counts : KeyCounts) → bag_of counts (row_of schema table cells) ≡ counts (key_of schema table bytes)
  at_row counts = rw (image_has cells is.has_image) (ap counts (sym key_is))

  apart : (r : TableRow) → has_image r.cells ≡ true → r ≢ row_of schema table cells → same_key (key_of schema table bytes) (key_for r) ≡ false
  apart r has other = false_from_ne_true _ (λ same.
      let p = and_parts _ _ same in
      let q = and_parts _ _ p.1 in
      let schema_is : schema ≡ r.schema = (bytes_eq-Decides schema r.schema).0 p.0 in
      let table_is : table ≡ r.table = (bytes_eq-Decides table r.table).0 q.0 in
      let image_is : bytes ≡ image r.cells = (bytes_eq-Decides bytes (image r.cells)).0 q.1 in
      let cells_are : r.cells ≡ cells = one_list r.cells cells bytes (record { has_image = has_its_image r.cells has; bytes_are = image_is }) is in
      other (λ i. record { schema = sym schema_is i; table = sym table_is i; cells = cells_are i }))

  not_at_row : (counts : KeyCounts) (f : ℕ → ℕ) (r : TableRow) → r ≢ row_of schema table cells
      → bag_of (λ k. cond (same_key (key_of schema table bytes) k) (f (counts k)) (counts k)) r ≡ bag_of counts r
  not_at_row counts f r other = elim (cases_Bool (has_image r.cells)) [
    | inl has ↦ rw (has, apart r has other) refl
    | inr none ↦ rw none refl
  ]

  here : (counts : KeyCounts) (f : ℕ → ℕ) → bag_of (λ k. cond (same_key (key_of schema table bytes) k) (f (counts k)) (counts k)) (row_of schema table cells) ≡ f (bag_of counts (row_of schema table cells))
  here counts f = at_row (λ k. cond (same_key (key_of schema table bytes) k) (f (counts k)) (counts k)) ∙ rw (own_key (key_of schema table bytes)) (ap f (sym (at_row counts)))

  pub is_added : (old new : KeyCounts) → old (key_of schema table bytes) < most → new ≡ with_one (key_of schema table bytes) old → IsAdded (row_of schema table cells) (bag_of old) (bag_of new)
  is_added old new low more = record {
    room = rw (at_row old) low;
    one_more = ap (λ c. bag_of c (row_of schema table cells)) more ∙ here old (λ n. n + 1);
    others = λ r other. ap (λ c. bag_of c r) more ∙ not_at_row old (λ n. n + 1) r other;
  }

  is_taken : (old new : KeyCounts) → 0 < old (key_of schema table bytes) → new ≡ without_one (key_of schema table bytes) old → IsRemoved (row_of schema table cells) (bag_of old) (bag_of new)
  is_taken old new some less = record {
    one_less =
        let now : bag_of new (row_of schema table cells) ≡ bag_of old (row_of schema table cells) - 1 = ap (λ c. bag_of c (row_of schema table cells)) less ∙ here old (λ n. n - 1) in
        let was : 0 < bag_of old (row_of schema table cells) = rw (at_row old) some in
        omega (arith, now, was);
    others = λ r other. ap (λ c. bag_of c r) less ∙ not_at_row old (λ n. n - 1) r other;
  }

  pub makes_added : (old new : State) (o : Option Refusal) → Counted old new (added (key_of schema table bytes) (count (held_rows old.now))) o → Makes (insert schema table cells) old new o
  makes_added old new o h = elim (cases_Bool (nat_lt (count (held_rows old.now) (key_of schema table bytes)) most)) [
    | inl low ↦ room o (ltb-true _ most low) (rw low at h)
    | inr high ↦ full o (let test = high in grind (arith, nat_tests)) (rw high at h)
  ]
    where
      room : (o : Option Refusal) → count (held_rows old.now) (key_of schema table bytes) < most → Counted old new (Ok (with_one (key_of schema table bytes) (count (held_rows old.now)))) o → Makes (insert schema table cells) old new o
      room None low h = (record { on = h.on; spans = h.spans }, is_added (count (held_rows old.now)) (count (held_rows new.now)) low h.counts_are)
      room (Some why) low h = absurd h

      full : (o : Option Refusal) → most ≤ count (held_rows old.now) (key_of schema table bytes) → Counted old new (Err CountFull) o → Makes (insert schema table cells) old new o
      full None high h = absurd h
      full (Some why) high h = (rw (at_row (count (held_rows old.now))) high, h)

  pub makes_removed : (old new : State) (o : Option Refusal) → Counted old new (removed (key_of schema table bytes) (count (held_rows old.now))) o → Makes (delete schema table cells) old new o
  makes_removed old new o h = elim (cases_Bool (nat_lt 0 (count (held_rows old.now) (key_of schema table bytes)))) [
    | inl some ↦ there o (ltb-true 0 _ some) (rw some at h)
    | inr none ↦ missing o (let test = none in grind (arith, nat_tests)) (rw none at h)
  ]
    where
      there : (o : Option Refusal) → 0 < count (held_rows old.now) (key_of schema table bytes) → Counted old new (Ok (without_one (key_of schema table bytes) (count (held_rows old.now)))) o → Makes (delete schema table cells) old new o
      there None some h = (record { on = h.on; spans = h.spans }, is_taken (count (held_rows old.now)) (count (held_rows new.now)) some h.counts_are)
      there (Some why) some h = absurd h

      missing : (o : Option Refusal) → count (held_rows old.now) (key_of schema table bytes) ≡ 0 → Counted old new (Err NoSuchRow) o → Makes (delete schema table cells) old new o
      missing None none h = absurd h
      missing (Some why) none h = (at_row (count (held_rows old.now)) ∙ none, h)

-- ---- the same for calls that may fail

pub added_if : {X : Type 0} (schema table : List ℕ) (cells : List CellValue) (bytes : List ℕ) → IsImage cells bytes → (old new : State) (r : Result (Option Refusal) X)
    → IfOk r (Counted old new (added (key_of schema table bytes) (count (held_rows old.now)))) → IfOk r (Makes (insert schema table cells) old new)
added_if schema table cells bytes is old new (Ok o) h = makes_added schema table cells bytes is old new o h
added_if schema table cells bytes is old new (Err e) h = tt

pub removed_if : {X : Type 0} (schema table : List ℕ) (cells : List CellValue) (bytes : List ℕ) → IsImage cells bytes → (old new : State) (r : Result (Option Refusal) X)
    → IfOk r (Counted old new (removed (key_of schema table bytes) (count (held_rows old.now)))) → IfOk r (Makes (delete schema table cells) old new)
removed_if schema table cells bytes is old new (Ok o) h = makes_removed schema table cells bytes is old new o h
removed_if schema table cells bytes is old new (Err e) h = tt

-- ---- an update

pub goes_after : (old mid new : State) → Goes old mid → Goes mid new → Goes old new
goes_after old mid new one two = record { on = goes_then old mid new one.on two.on; spans = two.spans ∙ one.spans }
