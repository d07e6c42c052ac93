-- What lies beside the tables of the store stays as it is.
use Rattle.store.proofs.Names.{None, ◌≡◌, ◌≢◌, ◌<◌, ◌+◌, ◌==◌, ◌&&◌, ◌||◌, not, inl, inr, ℕ, Bool, true, false, List, [], ◌∷◌, ◌++◌, filter, map, codes, append-nil, refl, sym, ap, subst, ◌∙◌, arith, AllByRecursion, list_any, IsPermutation, eq-eqb, ne_eqb, not-true, false≢true, list_any-append, IsPermutation-refl, IsPermutation-sym, IsPermutation-trans, Table, Index, Schema, table_named, all_has, some_from, has_filtered, IsIndexRow, created, next_tree, KeepsRows, table_below, Database, IsDatabase, SparesFrozen, IsFound, LiesBeside}
use Rattle.std.proofs.lemmas.List.Elements.{filter-append}
use Rattle.sqlite_trees.proofs.ListLemmas.{filter_same}
use Rattle.sqlite_sql.specs.Catalog.{entry_of}
use Rattle.sqlite_schema.specs.Names.{same_name}
use Rattle.sqlite_rules.specs.Lists.{Has}
use Rattle.sqlite_rules.proofs.ListLemmas.{all_from}
use Rattle.sqlite_catalog.specs.Change.{automatics}
use Rattle.sqlite_catalog.proofs.LayoutLemmas.{index_owner, zipped_left}
use Rattle.store.specs.Beside.{own_names, is_own, tables_beside, indexes_beside, other_keys}
use Rattle.store.proofs.AnyWhole.{has_index}
use Rattle.store.proofs.Frozen.{Follows, follows_same, follows_made, still_frozen}

pub beside_same : (db : Database) → LiesBeside db db
beside_same db = record {
  tables = refl;
  indexes = refl;
  views = refl;
  rows = all_from (λ (t : Table). db.trees t.tree ≡ db.trees t.tree) _ (λ t has. refl);
  entries = all_from (λ (i : Index). IsPermutation (db.trees i.tree) (db.trees i.tree)) _ (λ i has. IsPermutation-refl (db.trees i.tree));
  frozen = λ tree row is. (is, refl);
  texts = λ row has is. has;
  version = refl;
  keys = refl;
}

-- the database as it was
pub beside_unchanged : (old new : Database) → new ≡ old → LiesBeside old new
beside_unchanged old new same = subst (LiesBeside old) (sym same) (beside_same old)

-- ---- One change after others.

-- each index is one of a table
owner : (db : Database) → IsDatabase db → (i : Index) → Has db.schema.indexes i → (t : Table) × Has db.schema.tables t × (i.table ≡ t.tree)
owner db sound i has =
    let row = zipped_left (IsIndexRow db.schema.tables) _ db.schema.indexes i sound.lists.listed.indexes has in
    (row.2.table, row.2.listed, index_owner row.2.table i _ row.2.defined)

module _ (old mid new : Database) (before : LiesBeside old mid) (sound : IsDatabase mid) (sound_new : IsDatabase new) (spares : SparesFrozen mid new) (follows : Follows mid new) where
  abbrev names : List (List ℕ)
  names = own_names old.schema

  outside_tables : (t : Table) → Has (tables_beside names mid.schema) t → Has mid.schema.tables t × (is_own names mid.schema t.tree ≡ false)
  unfolding tables_beside
  outside_tables t has = let it = has_filtered (λ (t : Table). not (is_own names mid.schema t.tree)) mid.schema.tables t has in (it.0, not-true _ it.1)

  outside_indexes : (schema : Schema) (i : Index) → Has (indexes_beside names schema) i → Has schema.indexes i × (is_own names schema i.table ≡ false)
  unfolding indexes_beside
  outside_indexes schema i has = let it = has_filtered (λ (i : Index). not (is_own names schema i.table)) schema.indexes i has in (it.0, not-true _ it.1)

  pub beside_then : tables_beside names new.schema ≡ tables_beside names mid.schema → indexes_beside names new.schema ≡ indexes_beside names mid.schema
      → ((t : Table) → Has mid.schema.tables t → is_own names mid.schema t.tree ≡ false → new.trees t.tree ≡ mid.trees t.tree) → other_keys new ≡ other_keys mid → LiesBeside old new
  beside_then tables indexes rows keys = record {
    tables = tables ∙ before.tables;
    indexes = indexes ∙ before.indexes;
    views = follows.views ∙ before.views;
    rows = all_from (λ (t : Table). new.trees t.tree ≡ old.trees t.tree) _ (λ t has.
        let there = outside_tables t (subst (λ l. Has l t) (sym before.tables) has) in
        rows t there.0 there.1 ∙ all_has (λ (t : Table). mid.trees t.tree ≡ old.trees t.tree) _ t before.rows has);
    entries = all_from (λ (i : Index). IsPermutation (old.trees i.tree) (new.trees i.tree)) _ (λ i has.
        let has_mid = subst (λ l. Has l i) (sym before.indexes) has in
        let there = outside_indexes mid.schema i has_mid in
        let now = outside_indexes new.schema i (subst (λ l. Has l i) (sym indexes) has_mid) in
        let of = owner mid sound i there.0 in
        let same : new.trees i.table ≡ mid.trees i.table = rw (of.2) (rows of.0 of.1 (ap (is_own names mid.schema) (sym of.2) ∙ there.1)) in
        let was = all_has _ mid.schema.indexes i sound.obeys.indexed there.0 in
        let is = all_has _ new.schema.indexes i sound_new.obeys.indexed now.0 in
        IsPermutation-trans _ _ _ (all_has (λ (i : Index). IsPermutation (old.trees i.tree) (mid.trees i.tree)) _ i before.entries has)
        (IsPermutation-trans _ _ _ (IsPermutation-sym _ _ was) (subst (λ rows. IsPermutation (map (entry_of i.columns) rows) (new.trees i.tree)) same is)));
    frozen = λ tree row is.
        let was = before.frozen tree row is in
        let now = still_frozen mid new sound sound_new spares follows tree row was.0 in
        (now.0, now.1 ∙ was.1);
    texts = λ row has is. spares.texts row (before.texts row has is) is;
    version = spares.version ∙ before.version;
    keys = keys ∙ before.keys;
  }

-- a table of the store is written
pub beside_written : (old mid new : Database) (tree : ℕ) → LiesBeside old mid → IsDatabase mid → IsDatabase new → SparesFrozen mid new → new.schema ≡ mid.schema → is_own (own_names old.schema) mid.schema tree ≡ true
    → AllByRecursion (λ (t : Table). t.tree ≢ tree → new.trees t.tree ≡ mid.trees t.tree) mid.schema.tables → other_keys new ≡ other_keys mid → LiesBeside old new
beside_written old mid new tree before sound sound_new spares same own rows keys =
    let names = own_names old.schema in
    beside_then old mid new before sound sound_new spares (follows_same mid new same) (ap (tables_beside names) same) (ap (indexes_beside names) same)
    (λ t has outside. all_has (λ (t : Table). t.tree ≢ tree → new.trees t.tree ≡ mid.trees t.tree) _ t rows has (λ is. absurd (false≢true (sym outside ∙ ap (is_own names mid.schema) is ∙ own)))) keys

-- ---- A table that is found is the store's by its name.

pub own_found : (names : List (List ℕ)) (schema : Schema) (at : ℕ) (table : Table) → IsFound schema at table → list_any (same_name table.name) names ≡ true → is_own names schema table.tree ≡ true
unfolding is_own
own_found names schema at table found named =
    some_from (λ (t : Table). (t.tree == table.tree) && list_any (same_name t.name) names) schema.tables table (has_index schema.tables at table found.by_index) (rw (eq-eqb table.tree table.tree refl, named) refl)

-- ---- A table is made.

module _ (names : List (List ℕ)) (schema : Schema) (table : Table) (named : list_any (same_name table.name) names ≡ true) where
  abbrev next : ℕ
  next = next_tree schema

  or_none : (a b : Bool) → b ≡ false → (a || b) ≡ a
  or_none true b none = refl
  or_none false b none = none

  -- an older tree is one of the store's as before
  older : (tree : ℕ) → tree < next_tree schema → is_own names (created schema table) tree ≡ is_own names schema tree
  unfolding is_own
  older tree low =
      list_any-append (λ (t : Table). (t.tree == tree) && list_any (same_name t.name) names) schema.tables (record table { tree = next_tree schema } ∷ [])
      ∙ or_none _ _ (rw (ne_eqb (next_tree schema) tree (λ same. omega (arith, same, low))) refl)

  own_made : is_own names (created schema table) next ≡ true
  unfolding is_own
  own_made = some_from (λ (t : Table). (t.tree == next) && list_any (same_name t.name) names) (created schema table).tables (record table { tree = next }) (has_end schema.tables) (rw (eq-eqb next next refl, named) refl)
    where
      has_end : (ts : List Table) → Has (ts ++ record table { tree = next } ∷ []) (record table { tree = next })
      has_end [] = inl refl
      has_end (t ∷ ts) = inr (has_end ts)

  pub tables_made : tables_beside names (created schema table) ≡ tables_beside names schema
  unfolding tables_beside
  tables_made =
      let q : Table → Bool = λ t. not (is_own names (created schema table) t.tree) in
      filter-append q schema.tables (record table { tree = next } ∷ []) ∙ rw (own_made, append-nil (filter q schema.tables))
      (filter_same q (λ t. not (is_own names schema t.tree)) schema.tables (all_from (λ (t : Table). q t ≡ not (is_own names schema t.tree)) schema.tables (λ t has. ap not (older t.tree (table_below schema t has)))))

  none_made : (at tree : ℕ) (keys : List (List ℕ)) → filter (λ (i : Index). not (is_own names (created schema table) i.table)) (automatics (record table { tree = next }) at tree keys) ≡ []
  none_made at tree [] = refl
  none_made at tree (key ∷ keys) = rw own_made (none_made (at + 1) (tree + 1) keys)

  pub indexes_made : ((i : Index) → Has schema.indexes i → i.table < next) → indexes_beside names (created schema table) ≡ indexes_beside names schema
  unfolding indexes_beside
  indexes_made low =
      let q : Index → Bool = λ i. not (is_own names (created schema table) i.table) in
      filter-append q schema.indexes (automatics (record table { tree = next }) 0 (next + 1) table.uniques) ∙ rw (none_made 0 (next + 1) table.uniques, append-nil (filter q schema.indexes))
      (filter_same q (λ i. not (is_own names schema i.table)) schema.indexes (all_from (λ (i : Index). q i ≡ not (is_own names schema i.table)) schema.indexes (λ i has. ap not (older i.table (low i has)))))

pub beside_made : (old mid new : Database) (table : Table) → LiesBeside old mid → IsDatabase mid → IsDatabase new → SparesFrozen mid new → list_any (same_name table.name) (own_names old.schema) ≡ true → new.schema ≡ created mid.schema table
    → KeepsRows mid.schema.tables mid.trees new.trees → other_keys new ≡ other_keys mid → LiesBeside old new
beside_made old mid new table before sound sound_new spares named is rows keys =
    let names = own_names old.schema in
    let low : (i : Index) → Has mid.schema.indexes i → i.table < next_tree mid.schema = λ i has. let of = owner mid sound i has in rw (of.2) (table_below mid.schema of.0 of.1) in
    beside_then old mid new before sound sound_new spares (follows_made mid new table is) (ap (tables_beside names) is ∙ tables_made names mid.schema table named) (ap (indexes_beside names) is ∙ indexes_made names mid.schema table named low)
    (λ t has outside. all_has (λ (t : Table). new.trees t.tree ≡ mid.trees t.tree) _ t rows has) keys

module _ (schema : Schema) where
  pub own_meta : list_any (same_name (codes "meta")) (own_names schema) ≡ true
  unfolding own_names same_name
  own_meta = refl

  -- in layout 1
  pub own_executed : table_named schema (codes "spans") ≡ None → list_any (same_name (codes "executed")) (own_names schema) ≡ true
  unfolding own_names same_name
  own_executed none = rw none refl

  pub own_held : list_any (same_name (codes "held")) (own_names schema) ≡ true
  unfolding own_names same_name
  own_held = refl

  pub own_spans : list_any (same_name (codes "spans")) (own_names schema) ≡ true
  unfolding own_names same_name
  own_spans = refl

  pub own_follow : list_any (same_name (codes "follow")) (own_names schema) ≡ true
  unfolding own_names same_name
  own_follow = refl
