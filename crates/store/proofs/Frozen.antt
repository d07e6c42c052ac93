-- Trees whose SQL is not understood, after one statement.
use Rattle.store.proofs.Names.{◌≡◌, ◌<◌, ◌≤◌, ◌+◌, ◌⊎◌, inl, inr, ℕ, pos, Bool, true, false, Some, List, [], ◌∷◌, ◌++◌, filter, map, unwrap_or, ◌==◌, ◌||◌, not, refl, sym, ap, subst, ◌∙◌, arith, list_any, nat_tests, cases_Bool, and_parts, not-true, true≢false, Row, Int, rowid, has_rowid, Table, Schema, Index, has_filtered, has_kept, some_from, IsIndexRow, next_tree, created, without_table, Database, IsDatabase, SparesFrozen}
use Rattle.std.proofs.Common.{◌%◌, find}
use Rattle.sqlite_value.specs.Order.{column, bytes}
use Rattle.sqlite_trees.specs.Objects.{catalog_tree, number_in}
use Rattle.sqlite_trees.specs.Sound as sound
use Rattle.sqlite_trees.specs.Sound.{Head, head_at, may_follow, are_in_order}
use Rattle.sqlite_schema.specs.declared.schema.View.{View}
use Rattle.sqlite_rules.specs.Lists.{Has}
use Rattle.sqlite_rules.proofs.ListLemmas.{has_left, has_right, has_either}
use Rattle.sqlite_catalog.specs.Listing.{is_table_row, is_index_row, is_view_row, is_foreign_row, IsTableRow, IsViewRow}
use Rattle.sqlite_catalog.specs.Change.{automatics}
use Rattle.sqlite_catalog.proofs.LayoutLemmas.{zipped_left, zipped_right, row_kind, aside_code, has_own_rowid, same_rowid}
use Rattle.sqlite_catalog.proofs.SoundLemmas.{names_agree, list_parts}
use Rattle.sqlite_catalog.proofs.StepLemmas.{same_itself, view_below}
use Rattle.store.specs.Beside.{IsFrozen}

-- ---- A list of objects has each name once.

unnamed_before : (earlier : List Head) (head e : Head) → may_follow earlier head ≡ true → Has earlier e → sound.same_name (bytes e.1) (bytes head.1) ≡ true → ⊥
unfolding may_follow
unnamed_before earlier head e follows has named =
    let free : list_any (λ (e : Head). sound.same_name (bytes e.1) (bytes head.1)) earlier ≡ false = not-true _ (and_parts _ _ follows).0 in
    true≢false (sym (some_from (λ (e : Head). sound.same_name (bytes e.1) (bytes head.1)) earlier e has named) ∙ free)

heads_apart : (earlier : List Head) (x row : Row) (rows : List Row) → Has earlier (head_at 1 x) → are_in_order earlier (map (head_at 1) rows) ≡ true → Has rows row → column row 2 ≡ column x 2 → ⊥
heads_apart earlier x row [] early ordered has same = absurd has
heads_apart earlier x row (y ∷ rows) early ordered (inl is) same =
    let named : column y 2 ≡ column x 2 = ap (λ (r : Row). column r 2) (sym is) ∙ same in
    unnamed_before earlier (head_at 1 y) (head_at 1 x) (and_parts _ _ ordered).0 early (rw named (sym (names_agree _ _) ∙ same_itself (bytes (column x 2))))
heads_apart earlier x row (y ∷ rows) early ordered (inr has) same = heads_apart (earlier ++ head_at 1 y ∷ []) x row rows (has_left earlier (head_at 1 y ∷ []) (head_at 1 x) early) (and_parts _ _ ordered).1 has same

none_later : (p : Row → Bool) (earlier : List Head) (x : Row) (rows : List Row) → Has earlier (head_at 1 x) → are_in_order earlier (map (head_at 1) rows) ≡ true
    → ((r : Row) → Has rows r → p r ≡ true → column r 2 ≡ column x 2) → filter p rows ≡ []
none_later p earlier x [] early ordered named = refl
none_later p earlier x (y ∷ rows) early ordered named = elim (cases_Bool (p y)) [
  | inl hit ↦ absurd (heads_apart earlier x y (y ∷ rows) early ordered (inl refl) (named y (inl refl) hit))
  | inr miss ↦ rw miss (none_later p (earlier ++ head_at 1 y ∷ []) x rows (has_left earlier (head_at 1 y ∷ []) (head_at 1 x) early) (and_parts _ _ ordered).1 (λ r has. named r (inr has)))
]

alone_in : (p : Row → Bool) (row : Row) (earlier : List Head) (rows : List Row) → are_in_order earlier (map (head_at 1) rows) ≡ true → Has rows row → p row ≡ true
    → ((r : Row) → Has rows r → p r ≡ true → column r 2 ≡ column row 2) → filter p rows ≡ row ∷ []
alone_in p row earlier [] ordered has passes named = absurd has
alone_in p row earlier (y ∷ rows) ordered (inl is) passes named =
    rw (← is, passes) (ap (λ l. row ∷ l) (none_later p (earlier ++ head_at 1 y ∷ []) row rows (has_right earlier (head_at 1 y ∷ []) (head_at 1 row) (inl (ap (head_at 1) is))) (and_parts _ _ ordered).1 (λ r has. named r (inr has))))
alone_in p row earlier (y ∷ rows) ordered (inr has) passes named = elim (cases_Bool (p y)) [
  | inl hit ↦ absurd (heads_apart (earlier ++ head_at 1 y ∷ []) y row rows (has_right earlier (head_at 1 y ∷ []) (head_at 1 y) (inl refl)) (and_parts _ _ ordered).1 has (sym (named y (inl refl) hit)))
  | inr miss ↦ rw miss (alone_in p row (earlier ++ head_at 1 y ∷ []) rows (and_parts _ _ ordered).1 has passes (λ r has. named r (inr has)))
]

-- the only one that passes is the first
first_alone : (p : Row → Bool) (row : Row) (rows : List Row) → filter p rows ≡ row ∷ [] → find p rows ≡ Some row
first_alone p row [] h = absurd (cc)
first_alone p row (x ∷ rows) h = elim (cases_Bool (p x)) [ inl hit ↦ (let is = rw hit at h in rw hit (cc)) | inr miss ↦ rw miss (first_alone p row rows (rw miss at h)) ]

-- ---- One statement.

-- The tables and indexes after it are some of those before, or on trees of their own.
pub record Follows (old new : Database) : Type 0 where
  pub tables : (t : Table) → Has new.schema.tables t → Has old.schema.tables t ⊎ (next_tree old.schema ≤ t.tree)
  pub indexes : (i : Index) → Has new.schema.indexes i → Has old.schema.indexes i ⊎ (next_tree old.schema ≤ i.tree)
  pub views : new.schema.views ≡ old.schema.views

-- nothing but rows is written
pub follows_same : (old new : Database) → new.schema ≡ old.schema → Follows old new
follows_same old new same = record { tables = λ t has. inl (subst (λ (s : Schema). Has s.tables t) same has); indexes = λ i has. inl (subst (λ (s : Schema). Has s.indexes i) same has); views = ap (λ (s : Schema). s.views) same }

automatic_high : (table : Table) (at tree : ℕ) (keys : List (List ℕ)) (i : Index) → Has (automatics table at tree keys) i → tree ≤ i.tree
automatic_high table at tree [] i has = absurd has
automatic_high table at tree (key ∷ keys) i (inl is) = let same = ap (λ (i : Index). i.tree) is in omega (arith, same)
automatic_high table at tree (key ∷ keys) i (inr has) = let high = automatic_high table (at + 1) (tree + 1) keys i has in omega (arith, high)

-- a table is made
pub follows_made : (old new : Database) (table : Table) → new.schema ≡ created old.schema table → Follows old new
follows_made old new table is = let here : Table = record table { tree = next_tree old.schema } in record {
  tables = λ t has. elim (has_either old.schema.tables (here ∷ []) t (subst (λ (s : Schema). Has s.tables t) is has)) [
    | inl was ↦ inl was
    | inr (inl made) ↦ inr (let same = ap (λ (t : Table). t.tree) made in omega (arith, same))
    | inr (inr none) ↦ absurd none
  ];
  indexes = λ i has. elim (has_either old.schema.indexes (automatics here 0 (next_tree old.schema + 1) table.uniques) i (subst (λ (s : Schema). Has s.indexes i) is has)) [
    | inl was ↦ inl was
    | inr made ↦ inr (let high = automatic_high here 0 (next_tree old.schema + 1) table.uniques i made in omega (arith, high))
  ];
  views = ap (λ (s : Schema). s.views) is;
}

-- a table is dropped
pub follows_left : (old new : Database) (tree : ℕ) → new.schema ≡ without_table old.schema tree → Follows old new
follows_left old new tree is = record {
  tables = λ t has. inl (has_filtered (λ (t : Table). not (t.tree == tree)) old.schema.tables t (subst (λ (s : Schema). Has s.tables t) is has)).0;
  indexes = λ i has. inl (has_filtered (λ (i : Index). not (i.table == tree)) old.schema.indexes i (subst (λ (s : Schema). Has s.indexes i) is has)).0;
  views = ap (λ (s : Schema). s.views) is;
}

module _ (old new : Database) (sound : IsDatabase old) (sound_new : IsDatabase new) (spares : SparesFrozen old new) (follows : Follows old new) (tree : ℕ) (row : Row) (is : IsFrozen (old.trees catalog_tree) tree row) where
  abbrev p : Row → Bool
  p = has_rowid (pos (tree + 1))

  here : Has (old.trees catalog_tree) row × (p row ≡ true)
  here = has_filtered p (old.trees catalog_tree) row (subst (λ l. Has l row) (sym is.alone) (inl refl))

  -- a row with that number is this one
  only : (r : Row) → Has (old.trees catalog_tree) r → p r ≡ true → r ≡ row
  only r has passes = elim (subst (λ l. Has l r) is.alone (has_kept p (old.trees catalog_tree) r has passes)) [ inl same ↦ same | inr none ↦ absurd none ]

  -- the tree that a row with that number is for
  number : (r : Row) (n : ℕ) → p r ≡ true → rowid r ≡ Int (pos (n + 1)) → n ≡ tree
  number r n passes id = omega (arith, same_rowid r (n + 1) (tree + 1) id passes)

  is_row : (r : Row) (n : ℕ) → Has (old.trees catalog_tree) r → rowid r ≡ Int (pos (n + 1)) → n ≡ tree → r ≡ row
  is_row r n has id same = only r has (subst (λ m. has_rowid (pos (m + 1)) r ≡ true) same (has_own_rowid r (n + 1) id))

  no_table : (t : Table) → Has old.schema.tables t → t.tree ≡ tree → ⊥
  no_table t has same =
      let r = zipped_left IsTableRow _ old.schema.tables t sound.lists.listed.tables has in
      let it = is_row r.0 t.tree (has_filtered is_table_row (old.trees catalog_tree) r.0 r.1).0 r.2.described.id same in
      omega (arith, ap (λ (r : Row). number_in (column r 5)) (sym it) ∙ r.2.described.shape_is, is.frozen)

  no_index : (i : Index) → Has old.schema.indexes i → i.tree ≡ tree → ⊥
  no_index i has same =
      let r = zipped_left (IsIndexRow old.schema.tables) _ old.schema.indexes i sound.lists.listed.indexes has in
      let it = is_row r.0 i.tree (has_filtered is_index_row (old.trees catalog_tree) r.0 r.1).0 r.2.described.id same in
      omega (arith, ap (λ (r : Row). number_in (column r 5)) (sym it) ∙ r.2.described.shape_is, is.frozen)

  listed : (w : View) × Has old.schema.views w × IsViewRow row w
  listed = elim (row_kind row) [
    | inl table ↦ absurd (
        let t = zipped_right IsTableRow _ old.schema.tables row sound.lists.listed.tables (has_kept is_table_row (old.trees catalog_tree) row here.0 table) in
        no_table t.0 t.1 (number row t.0.tree here.1 t.2.described.id))
    | inr (inl index) ↦ absurd (
        let i = zipped_right (IsIndexRow old.schema.tables) _ old.schema.indexes row sound.lists.listed.indexes (has_kept is_index_row (old.trees catalog_tree) row here.0 index) in
        no_index i.0 i.1 (number row i.0.tree here.1 i.2.described.id))
    | inr (inr view) ↦ zipped_right IsViewRow _ old.schema.views row sound.lists.listed.views (has_kept is_view_row (old.trees catalog_tree) row here.0 view)
  ]

  numbered : listed.0.tree ≡ tree
  numbered = number row listed.0.tree here.1 listed.2.described.id

  low : tree < 65536
  low = subst (λ n. n < 65536) numbered listed.2.described.low

  below : tree < next_tree old.schema
  below = subst (λ n. n < next_tree old.schema) numbered (view_below old.schema listed.0 listed.1)

  foreign : is_foreign_row row ≡ true
  foreign = by_code (number_in (column row 5)) _ is.frozen (omega (arith, listed.2.described.shape_is, (aside_code row listed.0 listed.2.kind listed.2.owner listed.2.code listed.0.foreign listed.2.aside).1))
    where
      by_code : (n : ℕ) (b : Bool) → 4 ≤ n % 8 → n ≤ 5 → ((n == 4) || (n == 5) || b) ≡ true
      by_code n b high low = grind (arith, nat_tests)

  named : (r : Row) → Has (new.trees catalog_tree) r → p r ≡ true → column r 2 ≡ column row 2
  named r has passes = elim (row_kind r) as (λ _. column r 2 ≡ column row 2) [
    | inl table ↦ absurd (
        let t = zipped_right IsTableRow _ new.schema.tables r sound_new.lists.listed.tables (has_kept is_table_row (new.trees catalog_tree) r has table) in
        let same = number r t.0.tree passes t.2.described.id in
        elim (follows.tables t.0 t.1) [ inl was ↦ no_table t.0 was same | inr high ↦ omega (arith, high, same, below) ])
    | inr (inl index) ↦ absurd (
        let i = zipped_right (IsIndexRow new.schema.tables) _ new.schema.indexes r sound_new.lists.listed.indexes (has_kept is_index_row (new.trees catalog_tree) r has index) in
        let same = number r i.0.tree passes i.2.described.id in
        elim (follows.indexes i.0 i.1) [ inl was ↦ no_index i.0 was same | inr high ↦ omega (arith, high, same, below) ])
    | inr (inr view) ↦ (
        let w = zipped_right IsViewRow _ new.schema.views r sound_new.lists.listed.views (has_kept is_view_row (new.trees catalog_tree) r has view) in
        let o = zipped_left IsViewRow _ old.schema.views w.0 sound.lists.listed.views (subst (λ l. Has l w.0) follows.views w.1) in
        let it = is_row o.0 w.0.tree (has_filtered is_view_row (old.trees catalog_tree) o.0 o.1).0 o.2.described.id (number r w.0.tree passes w.2.described.id) in
        w.2.described.name_is ∙ sym o.2.described.name_is ∙ ap (λ (r : Row). column r 2) it)
  ]

  pub still_frozen : IsFrozen (new.trees catalog_tree) tree row × (new.trees tree ≡ old.trees tree)
  still_frozen = (
    record { alone = alone_in p row [] (new.trees catalog_tree) (list_parts (new.trees catalog_tree) sound_new.lists.listed.loads).1 (spares.texts row here.0 foreign) here.1 named; frozen = is.frozen },
    spares.rows tree (omega (arith, low)) (omega (arith, low)) (subst (λ r. 4 ≤ number_in (column r 5) % 8) (sym (ap (λ o. unwrap_or o []) (first_alone p row (old.trees catalog_tree) is.alone))) is.frozen),
  )
