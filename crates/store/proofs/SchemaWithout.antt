-- A schema without one of its tables.
use Rattle.store.proofs.Names.{◌≡◌, ◌≢◌, ◌≤◌, ◌+◌, ◌==◌, ◌&&◌, ◌||◌, not, inl, inr, ℕ, zero, suc, Bool, true, false, is_some, Option, Some, None, List, [], ◌∷◌, filter, slice_get, length, codes, refl, sym, ap, subst, ◌∙◌, arith, option_and_then, IfSome, AllByRecursion, position_from, list_any, cases_Bool, true≢false, false≢true, ne_eqb, eq-eqb, Reference, Table, Index, Schema, Enforced, table_named, parent_key, Trees, all_has, some_from, has_filtered, has_kept, without_table, next_tree, past_views, KeepsRows, lacks_sequence, Database, IsDatabase, SparesFrozen, meta, held, executed_tree, meta_tree, held_tree, meta_at, held_at, IsFound, HasTable, IsApart, IsFirstLaidOut, LiesBeside, IsCut}
use Rattle.std.proofs.Common.{max, find, fold}
use Rattle.std.proofs.lemmas.Bool.{eqb-true}
use Rattle.sqlite_trees.proofs.ListLemmas.{filter-filter, filter_same}
use Rattle.sqlite_schema.specs.Names.{same_name}
use Rattle.sqlite_schema.specs.Rules.{key_in, key_places}
use Rattle.sqlite_rules.specs.Lists.{Has}
use Rattle.sqlite_rules.specs.Action.{deed_for}
use Rattle.sqlite_rules.proofs.ListLemmas.{all_from, some_has}
use Rattle.sqlite.specs.Does.{is_acted_on}
use Rattle.sqlite.specs.Rows.{sequence}
use Rattle.store.specs.Layout.{tree_named, executed_at, IsNoParent}
use Rattle.store.specs.Beside.{own_names, is_own, tables_beside, indexes_beside, other_keys}
use Rattle.store.proofs.AnyWhole.{has_index}
use Rattle.store.proofs.Beside.{tree_is, has_table}
use Rattle.store.proofs.Effects.{other_tree}
use Rattle.store.proofs.Frozen.{follows_left}
use Rattle.store.proofs.BesideStays.{beside_then}

-- ---- Look-ups in the items that pass a test.

module _ {X : Type 0} (p q : X → Bool) where
  past : (k n : ℕ) (xs : List X) → position_from p k xs ≡ Some n → k ≤ n
  past k n [] h = absurd (cc)
  past k n (y ∷ ys) h = elim (cases_Bool (p y)) [
    | inl hit ↦ (let same : k ≡ n = let e = rw hit at h in cc in omega (arith, same))
    | inr miss ↦ (let later = past (k + 1) n ys (rw miss at h) in omega (arith, later))
  ]

  pub left_place : (k j i : ℕ) (xs : List X) (x : X) → position_from p k xs ≡ Some (k + i) → slice_get xs i ≡ Some x → q x ≡ true → (m : ℕ) × (position_from p j (filter q xs) ≡ Some (j + m)) × (slice_get (filter q xs) m ≡ Some x)
  left_place k j i [] x h got kept = absurd (cc)
  left_place k j zero (y ∷ ys) x h got kept =
      let same : y ≡ x = cc in
      elim (cases_Bool (p y)) [
        | inl hit ↦ (0, rw (same, kept, ← same, hit) (ap Some (omega arith)), rw (same, kept) refl)
        | inr miss ↦ absurd (let later = past (k + 1) (k + 0) ys (rw miss at h) in omega (arith, later))
      ]
  left_place k j (suc i) (y ∷ ys) x h got kept = elim (cases_Bool (p y)) [
    | inl hit ↦ absurd (let same : k ≡ k + suc i = let e = rw hit at h in cc in omega (arith, same))
    | inr miss ↦ (
        let rest : position_from p (k + 1) ys ≡ Some (k + 1 + i) = (rw miss at h) ∙ ap Some (omega arith) in
        elim (cases_Bool (q y)) [
          | inl stays ↦ (let it = left_place (k + 1) (j + 1) i ys x rest got kept in (suc it.0, rw (stays, miss) (it.1 ∙ ap Some (omega arith)), rw stays it.2))
          | inr goes ↦ (let it = left_place (k + 1) j i ys x rest got kept in (it.0, rw goes it.1, rw goes it.2))
        ])
  ]

  pub left_none : (k j : ℕ) (xs : List X) → position_from p k xs ≡ None → position_from p j (filter q xs) ≡ None
  left_none k j [] h = refl
  left_none k j (y ∷ ys) h = elim (cases_Bool (p y)) [
    | inl hit ↦ absurd (let e = rw hit at h in cc)
    | inr miss ↦ (
        let rest = rw miss at h in
        elim (cases_Bool (q y)) [
          | inl stays ↦ rw (stays, miss) (left_none (k + 1) (j + 1) ys rest)
          | inr goes ↦ rw goes (left_none (k + 1) j ys rest)
        ])
  ]

  pub left_found : (xs : List X) → ((x : X) → Has xs x → p x ≡ true → q x ≡ true) → find p (filter q xs) ≡ find p xs
  left_found [] keeps = refl
  left_found (y ∷ ys) keeps = elim (cases_Bool (p y)) [
    | inl hit ↦ rw (keeps y (inl refl) hit, hit) refl
    | inr miss ↦ (
        let rest = left_found ys (λ x has. keeps x (inr has)) in
        elim (cases_Bool (q y)) [ inl stays ↦ rw (stays, miss) rest | inr goes ↦ rw (goes, miss) rest ])
  ]

  pub passes_at : (k i : ℕ) (xs : List X) (x : X) → position_from p k xs ≡ Some (k + i) → slice_get xs i ≡ Some x → p x ≡ true
  passes_at k i [] x h got = absurd (cc)
  passes_at k zero (y ∷ ys) x h got =
      let same : y ≡ x = cc in
      elim (cases_Bool (p y)) [
        | inl hit ↦ subst (λ z. p z ≡ true) same hit
        | inr miss ↦ absurd (let later = past (k + 1) (k + 0) ys (rw miss at h) in omega (arith, later))
      ]
  passes_at k (suc i) (y ∷ ys) x h got = elim (cases_Bool (p y)) [
    | inl hit ↦ absurd (let same : k ≡ k + suc i = let e = rw hit at h in cc in omega (arith, same))
    | inr miss ↦ passes_at (k + 1) i ys x ((rw miss at h) ∙ ap Some (omega arith)) got
  ]

left_high : {X : Type 0} (q : X → Bool) (tree : X → ℕ) (a b : ℕ) (xs : List X) → a ≤ b → fold (λ n x. max n (tree x + 1)) a (filter q xs) ≤ fold (λ n x. max n (tree x + 1)) b xs
left_high q tree a b [] low = low
left_high q tree a b (y ∷ ys) low = elim (cases_Bool (q y)) [
  | inl stays ↦ rw stays (left_high q tree (max a (tree y + 1)) (max b (tree y + 1)) ys (omega (arith, low)))
  | inr goes ↦ rw goes (left_high q tree a (max b (tree y + 1)) ys (omega (arith, low)))
]

-- ---- Without executed.

module _ (schema : Schema) (v : IsFirstLaidOut schema) where
  abbrev out : ℕ
  out = executed_tree schema

  abbrev pub left : Schema
  left = without_table schema (executed_tree schema)

  abbrev stays : Table → Bool
  stays t = not (t.tree == out)

  on_other : (t : Table) → t.tree ≢ out → stays t ≡ true
  on_other t off = rw (ne_eqb t.tree out off) refl

  -- a table of another name stays
  named_other : (name : List ℕ) → same_name (codes "executed") name ≡ false → (t : Table) → Has schema.tables t → same_name t.name name ≡ true → stays t ≡ true
  named_other name other t has named = elim (cases_Bool (t.tree == out)) [
    | inl same ↦ absurd (false≢true (sym other ∙ ap (λ n. same_name n name) (sym (all_has (λ (t : Table). t.tree ≡ out → t.name ≡ codes "executed") schema.tables t v.alone has (eqb-true t.tree out same))) ∙ named))
    | inr off ↦ rw off refl
  ]

  found_left : (at : ℕ) (t : Table) → IsFound schema at t → t.tree ≢ out → (m : ℕ) × IsFound left m t
  found_left at t f off =
      let it = left_place (λ (u : Table). same_name u.name t.name) stays 0 0 at schema.tables t (f.by_name ∙ ap Some (omega arith)) f.by_index (on_other t off) in (
        it.0,
        record {
          by_name = it.1 ∙ ap Some (omega arith);
          by_index = it.2;
          by_tree = left_found (λ (u : Table). u.tree == t.tree) stays schema.tables (λ u has same. rw (eqb-true u.tree t.tree same) (on_other t off)) ∙ f.by_tree;
          stored = f.stored;
        },
      )

  has_left : (table : Table) → HasTable schema table → tree_named schema table.name ≢ out → HasTable left table
  has_left table h off = let it = found_left h.at (record table { tree = tree_named schema table.name }) h.found off in has_table left it.0 table (tree_named schema table.name) it.1

  tree_left : (table : Table) → HasTable schema table → tree_named schema table.name ≢ out → tree_named left table.name ≡ tree_named schema table.name
  tree_left table h off = let it = found_left h.at (record table { tree = tree_named schema table.name }) h.found off in tree_is left it.0 (record table { tree = tree_named schema table.name }) it.1

  pub meta_off : tree_named schema (codes "meta") ≢ out
  meta_off = other_tree schema (λ t. length t.name) v.meta.at v.executed.at (meta_at schema) (executed_at schema) v.meta.found v.executed.found (λ e. omega (arith, e))

  pub held_off : tree_named schema (codes "held") ≢ out
  held_off = other_tree schema (λ t. length t.name) v.held.at v.executed.at (held_at schema) (executed_at schema) v.held.found v.executed.found (λ e. omega (arith, e))

  pub meta_left : tree_named left (codes "meta") ≡ tree_named schema (codes "meta")
  meta_left = tree_left meta v.meta meta_off

  pub held_left : tree_named left (codes "held") ≡ tree_named schema (codes "held")
  held_left = tree_left held v.held held_off

  -- a table that stays keeps its rows
  pub rows_left : (table : Table) → HasTable schema table → tree_named schema table.name ≢ out → (old new : Trees) → KeepsRows left.tables old new → new (tree_named schema table.name) ≡ old (tree_named schema table.name)
  rows_left table h off old new kept =
      let t : Table = record table { tree = tree_named schema table.name } in
      all_has (λ (u : Table). new u.tree ≡ old u.tree) left.tables t kept (has_kept stays schema.tables t (has_index schema.tables h.at t h.found.by_index) (on_other t off))

  -- references
  key_left : (ref : Reference) → same_name (codes "executed") ref.parent ≡ false → parent_key left.tables ref ≡ parent_key schema.tables ref
  key_left ref other = ap (option_and_then (λ t. option_and_then (key_in t) (key_places t ref.parent_columns))) (left_found (λ (t : Table). same_name t.name ref.parent) stays schema.tables (named_other ref.parent other))

  module _ (tree : ℕ) where
    refs_left : (refs : List Reference) → AllByRecursion (λ ref. same_name (codes "executed") ref.parent ≡ false) refs → AllByRecursion (λ ref. IfSome (parent_key schema.tables ref) (λ k. k.0 ≢ tree)) refs
        → AllByRecursion (λ ref. IfSome (parent_key left.tables ref) (λ k. k.0 ≢ tree)) refs
    refs_left [] other apart = tt
    refs_left (ref ∷ refs) other apart = (rw (key_left ref other.0) apart.0, refs_left refs other.1 apart.1)

    free_left : AllByRecursion (IsApart schema tree) schema.tables → AllByRecursion (IsApart left tree) left.tables
    free_left free = all_from (IsApart left tree) left.tables (λ t has.
        let there = (has_filtered stays schema.tables t has).0 in refs_left t.references (all_has _ schema.tables t v.executed_free there) (all_has _ schema.tables t free there))

  no_parent_left : (name : List ℕ) → IsNoParent schema name → IsNoParent left name
  no_parent_left name all = all_from _ left.tables (λ t has. all_has _ schema.tables t all (has_filtered stays schema.tables t has).0)

  -- AUTOINCREMENT
  abbrev counters : List ℕ
  counters = codes "sqlite_sequence"

  still_some : is_some (sequence schema) ≡ true → is_some (sequence left) ≡ true
  unfolding same_name
  still_some h = by_name (table_named schema counters) refl h
    where
      by_item : (n : ℕ) (o : Option Table) → table_named schema counters ≡ Some n → slice_get schema.tables n ≡ o → is_some o ≡ true → is_some (sequence left) ≡ true
      by_item n None named got h = absurd (cc)
      by_item n (Some t) named got h =
          let p : Table → Bool = λ u. same_name u.name counters in
          let at : position_from p 0 schema.tables ≡ Some (0 + n) = named ∙ ap Some (omega arith) in
          let it = left_place p stays 0 0 n schema.tables t at got (named_other counters refl t (has_index schema.tables n t got) (passes_at p stays 0 n schema.tables t at got)) in
          rw (it.1 ∙ ap Some (let zero_first : 0 + it.0 ≡ it.0 = omega arith in zero_first), it.2) refl

      by_name : (o : Option ℕ) → table_named schema counters ≡ o → is_some (option_and_then (slice_get schema.tables) o) ≡ true → is_some (sequence left) ≡ true
      by_name None named h = absurd (cc)
      by_name (Some n) named h = by_item n (slice_get schema.tables n) named refl h

  counted_left : lacks_sequence left ≡ false
  counted_left = by_any (list_any (λ (t : Table). t.is_counted) left.tables) refl
    where
      all_there : (b : Bool) → (true && not b) ≡ false → b ≡ true
      all_there true h = refl
      all_there false h = absurd (cc)

      by_any : (b : Bool) → list_any (λ (t : Table). t.is_counted) left.tables ≡ b → (b && not (is_some (sequence left))) ≡ false
      by_any false none = refl
      by_any true some =
          let it = some_has (λ (t : Table). t.is_counted) left.tables some in
          let was = some_from (λ (t : Table). t.is_counted) schema.tables it.0 (has_filtered stays schema.tables it.0 it.1).0 it.2 in
          rw (still_some (all_there (is_some (sequence schema)) (rw was at v.counted))) refl

  next_left : next_tree left ≤ next_tree schema
  next_left = left_high (λ (i : Index). not (i.table == out)) (λ (i : Index). i.tree) _ _ schema.indexes (left_high stays (λ (t : Table). t.tree) (past_views schema) (past_views schema) schema.tables (omega arith))

  pub cut : IsCut left
  cut = record {
    meta = has_left meta v.meta meta_off;
    held = has_left held v.held held_off;
    no_spans = left_none (λ (t : Table). same_name t.name (codes "spans")) stays 0 0 schema.tables v.no_spans;
    no_follow = left_none (λ (t : Table). same_name t.name (codes "follow")) stays 0 0 schema.tables v.no_follow;
    meta_free = subst (λ n. AllByRecursion (IsApart left n) left.tables) (sym meta_left) (free_left (meta_tree schema) v.meta_free);
    held_free = subst (λ n. AllByRecursion (IsApart left n) left.tables) (sym held_left) (free_left (held_tree schema) v.held_free);
    spans_free = no_parent_left (codes "spans") v.spans_free;
    counted = counted_left;
    room = omega (arith, next_left, v.room);
  }

  -- no foreign key acts on the rows that go
  pub not_acted : is_acted_on schema Enforced (executed_at schema) ≡ false
  not_acted = no_table schema.tables v.executed_free
    where
      no_ref : (refs : List Reference) → AllByRecursion (λ ref. same_name (codes "executed") ref.parent ≡ false) refs → list_any (λ ref. same_name (codes "executed") ref.parent && is_some (deed_for Enforced true ref)) refs ≡ false
      no_ref [] all = refl
      no_ref (ref ∷ refs) all = rw all.0 (no_ref refs all.1)

      no_table : (ts : List Table) → AllByRecursion (λ (t : Table). AllByRecursion (λ ref. same_name (codes "executed") ref.parent ≡ false) t.references) ts
          → list_any (λ (t : Table). list_any (λ ref. same_name (codes "executed") ref.parent && is_some (deed_for Enforced true ref)) t.references) ts ≡ false
      no_table [] all = refl
      no_table (t ∷ ts) all = rw (no_ref t.references all.0) (no_table ts all.1)

-- ---- What lies beside.

module _ (names : List (List ℕ)) (schema : Schema) (tree : ℕ) (own : is_own names schema tree ≡ true) where
  owner_left : (n : ℕ) → n ≢ tree → is_own names (without_table schema tree) n ≡ is_own names schema n
  unfolding is_own
  owner_left n off = same_any schema.tables
    where
      same_any : (ts : List Table) → list_any (λ (t : Table). (t.tree == n) && list_any (same_name t.name) names) (filter (λ (t : Table). not (t.tree == tree)) ts) ≡ list_any (λ (t : Table). (t.tree == n) && list_any (same_name t.name) names) ts
      same_any [] = refl
      same_any (t ∷ ts) = elim (cases_Bool (t.tree == tree)) [
        | inl goes ↦ rw (goes, ne_eqb t.tree n (λ same. off (sym same ∙ eqb-true t.tree tree goes))) (same_any ts)
        | inr stays ↦ rw stays (ap (λ b. ((t.tree == n) && list_any (same_name t.name) names) || b) (same_any ts))
      ]

  -- what is beside is not what is left out
  beside_off : (n : ℕ) → not (is_own names schema n) ≡ true → not (n == tree) ≡ true
  beside_off n beside = elim (cases_Bool (n == tree)) [
    | inl same ↦ absurd (true≢false (sym beside ∙ ap not (ap (is_own names schema) (eqb-true n tree same) ∙ own)))
    | inr off ↦ rw off refl
  ]

  not_equal : (n : ℕ) → not (n == tree) ≡ true → n ≢ tree
  not_equal n stays same = true≢false (sym stays ∙ ap not (eq-eqb n tree same))

  pub tables_left : tables_beside names (without_table schema tree) ≡ tables_beside names schema
  unfolding tables_beside
  tables_left =
      let q : Table → Bool = λ t. not (t.tree == tree) in
      filter_same (λ (t : Table). not (is_own names (without_table schema tree) t.tree)) (λ t. not (is_own names schema t.tree)) (filter q schema.tables)
      (all_from (λ (t : Table). not (is_own names (without_table schema tree) t.tree) ≡ not (is_own names schema t.tree)) (filter q schema.tables) (λ t has. ap not (owner_left t.tree (not_equal t.tree (has_filtered q schema.tables t has).1))))
      ∙ filter-filter (λ (t : Table). not (is_own names schema t.tree)) q (λ t. beside_off t.tree) schema.tables

  pub indexes_left : indexes_beside names (without_table schema tree) ≡ indexes_beside names schema
  unfolding indexes_beside
  indexes_left =
      let q : Index → Bool = λ i. not (i.table == tree) in
      filter_same (λ (i : Index). not (is_own names (without_table schema tree) i.table)) (λ i. not (is_own names schema i.table)) (filter q schema.indexes)
      (all_from (λ (i : Index). not (is_own names (without_table schema tree) i.table) ≡ not (is_own names schema i.table)) (filter q schema.indexes) (λ i has. ap not (owner_left i.table (not_equal i.table (has_filtered q schema.indexes i has).1))))
      ∙ filter-filter (λ (i : Index). not (is_own names schema i.table)) q (λ i. beside_off i.table) schema.indexes

pub beside_dropped : (old mid new : Database) (tree : ℕ) → LiesBeside old mid → IsDatabase mid → IsDatabase new → SparesFrozen mid new → is_own (own_names old.schema) mid.schema tree ≡ true → new.schema ≡ without_table mid.schema tree
    → KeepsRows (without_table mid.schema tree).tables mid.trees new.trees → other_keys new ≡ other_keys mid → LiesBeside old new
beside_dropped old mid new tree before sound sound_new spares own is rows keys =
    let names = own_names old.schema in
    beside_then old mid new before sound sound_new spares (follows_left mid new tree is) (ap (tables_beside names) is ∙ tables_left names mid.schema tree own) (ap (indexes_beside names) is ∙ indexes_left names mid.schema tree own)
    (λ t has outside. all_has (λ (t : Table). new.trees t.tree ≡ mid.trees t.tree) (without_table mid.schema tree).tables t rows
    (has_kept (λ (t : Table). not (t.tree == tree)) mid.schema.tables t has (beside_off names mid.schema tree own t.tree (ap not outside)))) keys
