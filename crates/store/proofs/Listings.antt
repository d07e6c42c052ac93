-- The rows of held in order.
use Rattle.store.proofs.Names.{◌≡◌, ◌⊎◌, inl, inr, ℕ, ◌+◌, ◌≤◌, pos, true, false, List, [], ◌∷◌, ◌++◌, map, Option, Some, None, refl, sym, ap, subst, ◌∙◌, arith, AllByRecursion, IsPermutation, Less, Equal, cases_Bool, and_parts, and_from, false_from_ne_true, tied_itself, bytes_eq-Decides, all-permutation, Value, Int, Blob, Row, Schema, State, Survives, CellValue, IsImage, HasImage, image, row_of, has_image, IsLaidOut, held_tree, AsksAll, most, Key, IsHeldRow, is_at, count, bag_of, blob_in, key_cmp, listed_text}
use Rattle.std.proofs.Common.{drop}
use Rattle.std.specs.List.{sum_by}
use Rattle.std.specs.List.Sorted.{IsStrictlySortedBy}
use Rattle.std.proofs.lemmas.List.Sorted.{sum_by-IsPermutation}
use Rattle.std.proofs.lemmas.List.Sums.{sum_by-cons}
use Rattle.sqlite_value.specs.Order.{column}
use Rattle.gather.proofs.WholeImages.{one_list}
use Rattle.store.specs.State.{TableRow, Bag}
use Rattle.store.specs.Rows.{key_for, share, number_in}
use Rattle.store.specs.Listing.{Entry, row_cmp, entry_rows, ListsBag, shown_entry, without_rowids, HasKey, KeysRise}
use Rattle.store.proofs.AnyWhole.{listed_by_key, listed_asks as any_listed}
use Rattle.store.proofs.Bags.{image_has, has_its_image}
use Rattle.store.proofs.KeyOrder.{key_total}
use Rattle.store.proofs.QueryOrder.{key_order}
use Rattle.store.proofs.Steps.{first_step}

-- ---- What the text means.

pub listed_asks : (schema : Schema) (l : IsLaidOut schema) → AsksAll schema listed_text (held_tree schema)
listed_asks schema l = any_listed schema l.held.at (held_tree schema) l.held.found

pub listed_order : (schema : Schema) (l : IsLaidOut schema) → (listed_asks schema l).order ≡ key_order
unfolding listed_asks
listed_order schema l = listed_by_key schema l.held.at (held_tree schema) l.held.found

pub listed_survives : (old new : State) → IsLaidOut old.now.schema → Survives old new (λ _. (tree : ℕ) → ¬ AsksAll old.now.schema listed_text tree) → Survives old new (λ _. ⊥)
listed_survives old new l s = first_step old new listed_text (held_tree old.now.schema) (listed_asks old.now.schema l) s

-- ---- A row and its entry.

pub shown_has : (row : Row) (e : Entry) → shown_entry e ≡ drop 1 row → HasKey (key_for e.0) row × (column row 4 ≡ Int (pos e.1))
shown_has [] e same = absurd (Prim.cc)
shown_has (x ∷ row) e same = subst (λ (r : Row). HasKey (key_for e.0) (x ∷ r) × (column (x ∷ r) 4 ≡ Int (pos e.1))) same ((refl, refl, refl), refl)

one_blob : (v : Value) (a b : List ℕ) → v ≡ Blob a → v ≡ Blob b → a ≡ b
one_blob v a b one other = ap blob_in (sym one ∙ other)

one_key : (row : Row) (a b : Key) → HasKey a row → HasKey b row → a ≡ b
one_key row a b one other =
    let schema_is : a.schema ≡ b.schema = one_blob (column row 1) a.schema b.schema one.0 other.0 in
    let table_is : a.table ≡ b.table = one_blob (column row 2) a.table b.table one.1 other.1 in
    let image_is : a.image ≡ b.image = one_blob (column row 3) a.image b.image one.2 other.2 in
    λ i. record { schema = schema_is i; table = table_is i; image = image_is i }

pub none_shown : (row : Row) (e : Entry) → ((key : Key) → ¬ HasKey key row) → shown_entry e ≡ drop 1 row → ⊥
none_shown row e none same = none (key_for e.0) (shown_has row e same).0

pub given_entry : (row : Row) (e : Entry) (key : Key) (n : ℕ) (cells : List CellValue) (a b : List ℕ) → HasKey key row → column row 4 ≡ Int (pos n) → IsImage cells key.image → a ≡ key.schema → b ≡ key.table
    → shown_entry e ≡ drop 1 row → HasImage e.0.cells → (row_of a b cells, n) ≡ e
given_entry row e key n cells a b has counts is a_is b_is same lawful =
    let s = shown_has row e same in
    let k : key ≡ key_for e.0 = one_key row key (key_for e.0) has s.0 in
    let a_e : a ≡ e.0.schema = a_is ∙ ap (λ (x : Key). x.schema) k in
    let b_e : b ≡ e.0.table = b_is ∙ ap (λ (x : Key). x.table) k in
    let c_e : cells ≡ e.0.cells = one_list cells e.0.cells key.image is (record { has_image = lawful; bytes_are = ap (λ (x : Key). x.image) k }) in
    let n_e : n ≡ e.1 = ap number_in (sym counts ∙ s.1) in
    λ i. (record { schema = a_e i; table = b_e i; cells = c_e i }, n_e i)

-- ---- The entries of the rows of held.

not_below : (a b : Key) → a ≡ b → key_cmp a b ≡ Less → ⊥
not_below a b same less =
    let tied : key_cmp a b ≡ Equal = subst (λ k. key_cmp a k ≡ Equal) same (tied_itself key_total a) in
    absurd (Prim.cc)

abbrev entry_in : (row : Row) → IsHeldRow row → Entry
entry_in row h = (row_of h.1.schema h.1.table h.6.cells, h.2)

abbrev entries_in : (rows : List Row) → AllByRecursion IsHeldRow rows → List Entry
entries_in [] h = []
entries_in (row ∷ rows) h = entry_in row h.0 ∷ entries_in rows h.1

one_shown : (row : Row) (h : IsHeldRow row) → shown_entry (entry_in row h) ≡ drop 1 row
one_shown row h = sym (ap (drop 1) h.3 ∙ ap (λ b. Blob h.1.schema ∷ Blob h.1.table ∷ Blob b ∷ Int (pos h.2) ∷ []) h.6.is_image.bytes_are)

has_key : (row : Row) (h : IsHeldRow row) → HasKey (key_for (entry_in row h).0) row
has_key row h = (shown_has row (entry_in row h) (one_shown row h)).0

all_shown : (rows : List Row) (h : AllByRecursion IsHeldRow rows) → map shown_entry (entries_in rows h) ≡ without_rowids rows
all_shown [] h = refl
all_shown (row ∷ rows) h = λ i. one_shown row h.0 i ∷ all_shown rows h.1 i

all_lawful : (rows : List Row) (h : AllByRecursion IsHeldRow rows) → AllByRecursion (λ (e : Entry). HasImage e.0.cells) (entries_in rows h)
all_lawful [] h = tt
all_lawful (row ∷ rows) h = (h.0.6.is_image.has_image, all_lawful rows h.1)

all_some : (rows : List Row) (h : AllByRecursion IsHeldRow rows) → AllByRecursion (λ (e : Entry). (1 ≤ e.1) × (e.1 ≤ most)) (entries_in rows h)
all_some [] h = tt
all_some (row ∷ rows) h = ((h.0.4, h.0.5), all_some rows h.1)

-- ---- They ascend.

above : (low last : Key) (rows : List Row) (h : AllByRecursion IsHeldRow rows) → (low ≡ last) ⊎ (key_cmp low last ≡ Less) → KeysRise (Some last) rows → AllByRecursion (λ r. key_cmp low (key_for r) ≡ Less) (entry_rows (entries_in rows h))
above low last [] h below rise = tt
above low last (row ∷ rows) h below rise =
    let less : key_cmp low rise.0 ≡ Less = elim below [ inl same ↦ subst (λ k. key_cmp k rise.0 ≡ Less) (sym same) rise.2 | inr under ↦ key_total.trans low last rise.0 under rise.2 ] in
    let key : rise.0 ≡ key_for (entry_in row h.0).0 = one_key row rise.0 (key_for (entry_in row h.0).0) rise.1 (has_key row h.0) in
    (subst (λ k. key_cmp low k ≡ Less) key less, above low rise.0 rows h.1 (inr less) rise.3)

above_first : (last : Option Key) (row : Row) (rows : List Row) (h : AllByRecursion IsHeldRow (row ∷ rows)) → KeysRise last (row ∷ rows) → AllByRecursion (λ r. row_cmp (entry_in row h.0).0 r ≡ Less) (entry_rows (entries_in rows h.1))
above_first last row rows h rise =
    let key : rise.0 ≡ key_for (entry_in row h.0).0 = one_key row rise.0 (key_for (entry_in row h.0).0) rise.1 (has_key row h.0) in
    above (key_for (entry_in row h.0).0) rise.0 rows h.1 (inl (sym key)) rise.3

rising : (last : Option Key) (rows : List Row) (h : AllByRecursion IsHeldRow rows) → KeysRise last rows → IsStrictlySortedBy row_cmp (entry_rows (entries_in rows h))
unfolding IsStrictlySortedBy
rising last [] h rise = tt
rising last (row ∷ rows) h rise = (above_first last row rows h rise, rising (Some rise.0) rows h.1 rise.3)

-- ---- Their numbers are the counts.

at_own : (key : Key) (row : Row) → HasKey key row → is_at key row ≡ true
at_own key row has = rw (has.0, has.1, has.2) (and_from _ _ ((bytes_eq-Decides key.schema key.schema).1 refl) (and_from _ _ ((bytes_eq-Decides key.table key.table).1 refl) ((bytes_eq-Decides key.image key.image).1 refl)))

at_same : (key other : Key) (row : Row) → HasKey other row → is_at key row ≡ true → other ≡ key
at_same key other row has at =
    let p = and_parts _ _ (rw (has.0, has.1, has.2) at at) in
    let q = and_parts _ _ p.1 in
    let schema_is : other.schema ≡ key.schema = (bytes_eq-Decides other.schema key.schema).0 p.0 in
    let table_is : other.table ≡ key.table = (bytes_eq-Decides other.table key.table).0 q.0 in
    let image_is : other.image ≡ key.image = (bytes_eq-Decides other.image key.image).0 q.1 in
    λ i. record { schema = schema_is i; table = table_is i; image = image_is i }

no_share : (key : Key) (row : Row) → is_at key row ≡ false → share key row ≡ 0
no_share key row off = rw off refl

-- A key below or above the row's has no share in the row.
below_row : (key other : Key) (row : Row) → HasKey other row → key_cmp key other ≡ Less → share key row ≡ 0
below_row key other row has less = no_share key row (false_from_ne_true _ (λ at. not_below key other (sym (at_same key other row has at)) less))

above_row : (key other : Key) (row : Row) → HasKey other row → key_cmp other key ≡ Less → share key row ≡ 0
above_row key other row has less = no_share key row (false_from_ne_true _ (λ at. not_below other key (at_same key other row has at) less))

none_above : (low last : Key) (rows : List Row) → (low ≡ last) ⊎ (key_cmp low last ≡ Less) → KeysRise (Some last) rows → count rows low ≡ 0
none_above low last [] below rise = refl
none_above low last (row ∷ rows) below rise =
    let less : key_cmp low rise.0 ≡ Less = elim below [ inl same ↦ subst (λ k. key_cmp k rise.0 ≡ Less) (sym same) rise.2 | inr under ↦ key_total.trans low last rise.0 under rise.2 ] in
    let here : share low row ≡ 0 = below_row low rise.0 row rise.1 less in
    let others : count rows low ≡ 0 = none_above low rise.0 rows (inr less) rise.3 in
    rw (here, others) refl

own_share : (row : Row) (h : IsHeldRow row) → share (key_for (entry_in row h).0) row ≡ h.2
own_share row h =
    let has = shown_has row (entry_in row h) (one_shown row h) in
    let at : is_at (key_for (entry_in row h).0) row ≡ true = at_own (key_for (entry_in row h).0) row has.0 in
    rw (at, has.1) refl

still : (row : Row) (rows : List Row) (low : Key) (entries : List Entry) → HasKey low row → AllByRecursion (λ r. key_cmp low (key_for r) ≡ Less) (entry_rows entries) → AllByRecursion (λ (e : Entry). e.1 ≡ count rows (key_for e.0)) entries
    → AllByRecursion (λ (e : Entry). e.1 ≡ count (row ∷ rows) (key_for e.0)) entries
still row rows low [] has less counted = tt
still row rows low (e ∷ entries) has less counted =
    let none : share (key_for e.0) row ≡ 0 = above_row (key_for e.0) low row has less.0 in
    (omega (arith, none, counted.0), still row rows low entries has less.1 counted.1)

all_counted : (last : Option Key) (rows : List Row) (h : AllByRecursion IsHeldRow rows) → KeysRise last rows → AllByRecursion (λ (e : Entry). e.1 ≡ count rows (key_for e.0)) (entries_in rows h)
all_counted last [] h rise = tt
all_counted last (row ∷ rows) h rise =
    let own = key_for (entry_in row h.0).0 in
    let key : rise.0 ≡ own = one_key row rise.0 own rise.1 (has_key row h.0) in
    let here : share own row ≡ h.0.2 = own_share row h.0 in
    let others : count rows own ≡ 0 = none_above own rise.0 rows (inl (sym key)) rise.3 in
    (omega (arith, here, others), still row rows own (entries_in rows h.1) (has_key row h.0) (above_first last row rows h rise) (all_counted (Some rise.0) rows h.1 rise.3))

-- ---- Each row of the bag is among them.

split : (P : Entry → Type 0) (before : List Entry) (e : Entry) (after : List Entry) → AllByRecursion P (before ++ e ∷ after) → P e
split P [] e after all = all.0
split P (x ∷ before) e after all = split P before e after all.1

pub record IsThere (r : TableRow) (entries : List Entry) : Type 0 where
  pub before : List Entry
  pub n : ℕ
  pub after : List Entry
  pub is : entries ≡ before ++ (r, n) ∷ after

one_row : (a b : TableRow) → HasImage a.cells → HasImage b.cells → key_for a ≡ key_for b → a ≡ b
one_row a b a_has b_has same =
    let schema_is : a.schema ≡ b.schema = ap (λ (k : Key). k.schema) same in
    let table_is : a.table ≡ b.table = ap (λ (k : Key). k.table) same in
    let cells_are : a.cells ≡ b.cells = one_list a.cells b.cells (image a.cells) (record { has_image = a_has; bytes_are = refl }) (record { has_image = b_has; bytes_are = ap (λ (k : Key). k.image) same }) in
    λ i. record { schema = schema_is i; table = table_is i; cells = cells_are i }

there : (r : TableRow) (rows : List Row) (h : AllByRecursion IsHeldRow rows) → HasImage r.cells → 1 ≤ count rows (key_for r) → IsThere r (entries_in rows h)
there r [] h has some = absurd (omega (arith, some))
there r (row ∷ rows) h has some = elim (cases_Bool (is_at (key_for r) row)) [
  | inl at ↦ let same : (entry_in row h.0).0 ≡ r = one_row (entry_in row h.0).0 r h.0.6.is_image.has_image has (at_same (key_for r) (key_for (entry_in row h.0).0) row (has_key row h.0) at) in record { before = []; n = h.0.2; after = entries_in rows h.1; is = ap (λ x. (x, h.0.2) ∷ entries_in rows h.1) same }
  | inr off ↦
      let none : share (key_for r) row ≡ 0 = no_share (key_for r) row off in
      let rest = there r rows h.1 has (omega (arith, none, some)) in
      record { before = entry_in row h.0 ∷ rest.before; n = rest.n; after = rest.after; is = ap (λ es. entry_in row h.0 ∷ es) rest.is }
]

-- ---- Together.

count_is : (key : Key) (rows : List Row) → count rows key ≡ sum_by (share key) rows
count_is key [] = refl
count_is key (row ∷ rows) = ap (λ n. share key row + n) (count_is key rows) ∙ sym (sum_by-cons (share key) row rows)

same_count : (key : Key) (held rows : List Row) → IsPermutation held rows → count rows key ≡ count held key
same_count key held rows same = count_is key rows ∙ sum_by-IsPermutation (share key) held rows same ∙ sym (count_is key held)

-- The entries of the rows, whose bag this is.
pub record AreEntries (bag : Bag) (rows : List Row) : Type 0 where
  pub entries : List Entry
  pub are : ListsBag bag entries
  pub shown : map shown_entry entries ≡ without_rowids rows
  pub images : AllByRecursion (λ (e : Entry). HasImage e.0.cells) entries

module _ (held rows : List Row) (bag : Bag) (is : bag ≡ bag_of (count held)) (same : IsPermutation held rows) where
  bag_is : (r : TableRow) → HasImage r.cells → bag r ≡ count rows (key_for r)
  bag_is r has = ap (λ b. b r) is ∙ rw (image_has r.cells has) (sym (same_count (key_for r) held rows same))

  in_bag : (entries : List Entry) → AllByRecursion (λ (e : Entry). HasImage e.0.cells) entries → AllByRecursion (λ (e : Entry). e.1 ≡ count rows (key_for e.0)) entries → AllByRecursion (λ (e : Entry). (1 ≤ e.1) × (e.1 ≤ most)) entries
      → AllByRecursion (λ (e : Entry). (e.1 ≡ bag e.0) × (1 ≤ e.1) × (e.1 ≤ most)) entries
  in_bag [] lawful counted some = tt
  in_bag (e ∷ entries) lawful counted some = ((counted.0 ∙ sym (bag_is e.0 lawful.0), some.0.0, some.0.1), in_bag entries lawful.1 counted.1 some.1)

  has : (r : TableRow) → 1 ≤ bag r → HasImage r.cells
  has r some = elim (cases_Bool (has_image r.cells)) [
    | inl so ↦ has_its_image r.cells so
    | inr lacks ↦ let none : bag r ≡ 0 = ap (λ b. b r) is ∙ rw lacks refl in absurd (omega (arith, some, none))
  ]

  pub are_entries : AllByRecursion IsHeldRow held → KeysRise None rows → AreEntries bag rows
  are_entries lawful rise =
      let h = all-permutation IsHeldRow held rows same lawful in
      let counted = in_bag (entries_in rows h) (all_lawful rows h) (all_counted None rows h rise) (all_some rows h) in
      record {
        entries = entries_in rows h;
        are = record {
          ascend = rising None rows h rise;
          counted = counted;
          all = λ r some.
              let t = there r rows h (has r some) (subst (λ n. 1 ≤ n) (bag_is r (has r some)) some) in
              let n : t.n ≡ bag r = (split (λ (e : Entry). (e.1 ≡ bag e.0) × (1 ≤ e.1) × (e.1 ≤ most)) t.before (r, t.n) t.after (subst (AllByRecursion (λ (e : Entry). (e.1 ≡ bag e.0) × (1 ≤ e.1) × (e.1 ≤ most))) t.is counted)).0 in
              (t.before, t.after, t.is ∙ ap (λ m. t.before ++ (r, m) ∷ t.after) n);
        };
        shown = all_shown rows h;
        images = all_lawful rows h;
      }
