-- What each statement on one row of held makes of the counts.
use Rattle.store.proofs.Names.{◌≡◌, ◌≢◌, inl, ℕ, nat_lt, ◌&&◌, ◌+◌, ◌≤◌, ℤ, pos, List, [], ◌∷◌, map, filter, length, codes, ◌==◌, Option, Some, unwrap_or, Bool, true, false, cond, refl, sym, ap, ap₂, subst, ◌∙◌, arith, AllByRecursion, list_any, IsPermutation, and_parts, and_from, lt-ltb, not-true, tied_itself, is_eq, value_cmp_total, Int, Row, rowid, put_row, without_rowid, has_rowid, all-put_row, Edit, edit_of, are_fresh, is_taken, put_all, without_all, Chosen, Given, all_has, has_filtered, has_kept, int_is, Schema, Table, Enforced, Trees, IsSound, IsDatabase, State, one_permutation, IsLaidOut, IsFound, meta_tree, held_tree, spans_tree, follow_tree, meta_at, held_at, follow_at, most, IsSomeImage, Key, IsHeldRow, HasRowids, is_at, has_n, count, with_one, without_one, meta_rows, held_rows, span_rows, IsWorking, StaysOpen, HasCounts, Appear, LiesBeside}
use Rattle.std.proofs.Common.{find}
use Rattle.std.proofs.lemmas.List.{nil_from_length}
use Rattle.std.proofs.lemmas.List.Sorted.{length_permutation}
use Rattle.sqlite_value.specs.Order.{column, value_cmp}
use Rattle.sqlite_rules.specs.Lists.{Has}
use Rattle.sqlite_rules.specs.Edit.{Applies, id_in}
use Rattle.sqlite_rules.specs.Calls.{ids_of}
use Rattle.sqlite_schema.specs.Names.{same_name}
use Rattle.store.specs.Layout.{tree_named, spans_at}
use Rattle.store.specs.Inside.{AddsNew, Deletes}
use Rattle.store.specs.Beside.{own_names, other_keys}
use Rattle.store.proofs.Keys.{keys_same}
use Rattle.store.proofs.BesideStays.{beside_written, own_found, own_held}
use Rattle.store.proofs.AnyWhole.{has_index}
use Rattle.store.proofs.Statements.{Applied, given_row, cast_int}
use Rattle.store.proofs.Unique.{one_at, no_clash}
use Rattle.store.proofs.PutInTurn.{all_new, numbered_are, put_in_turn}
use Rattle.store.proofs.RowLemmas.{same_int, both_pass, count_none, count_found, counts_deleted, counts_raised, counts_lowered, found_alone, rowids_put, rowids_without, all_filtered}

-- ---- rows of the table
pub fresh_alone : (rows : List Row) (row : Row) → are_fresh rows (row ∷ []) ≡ true → is_taken rows row ≡ false
fresh_alone rows row h = not-true _ (and_parts _ _ h).0

-- a row of a table has a rowid
pub keyed_row : (rows : List Row) (r : Row) → HasRowids rows → Has rows r → rowid r ≡ Int (id_in (rowid r))
keyed_row rows r h has = int_is (rowid r) (all_has _ rows r h.keyed has)

pub own_id : (n : ℤ) → is_eq (value_cmp (Int n) (Int n)) ≡ true
own_id n = ap is_eq (tied_itself value_cmp_total (Int n))

-- ---- tables that are not written

-- Different tables that their trees find have different trees.
pub other_tree : (schema : Schema) (measure : Table → ℕ) (i j : ℕ) (a b : Table) → IsFound schema i a → IsFound schema j b → measure a ≢ measure b → a.tree ≢ b.tree
other_tree schema measure i j a b p q unlike same =
    let both : Some a ≡ Some b = sym p.by_tree ∙ ap (λ n. find (λ (t : Table). t.tree == n) schema.tables) same ∙ q.by_tree in
    unlike (ap (λ (t : Option Table). measure (unwrap_or t a)) both)

abbrev width : Table → ℕ
width t = length t.columns

module _ (schema : Schema) (l : IsLaidOut schema) where
  pub meta_held : meta_tree schema ≢ held_tree schema
  meta_held = other_tree schema width l.meta.at l.held.at (meta_at schema) (held_at schema) l.meta.found l.held.found (λ e. omega (arith, e))

  pub spans_held : spans_tree schema ≢ held_tree schema
  spans_held = other_tree schema width l.spans.at l.held.at (spans_at schema) (held_at schema) l.spans.found l.held.found (λ e. omega (arith, e))

  pub follow_held : follow_tree schema ≢ held_tree schema
  follow_held = other_tree schema width l.follow.at l.held.at (follow_at schema) (held_at schema) l.follow.found l.held.found (λ e. omega (arith, e))

  pub meta_spans : meta_tree schema ≢ spans_tree schema
  meta_spans = other_tree schema width l.meta.at l.spans.at (meta_at schema) (spans_at schema) l.meta.found l.spans.found (λ e. omega (arith, e))

  pub held_spans : held_tree schema ≢ spans_tree schema
  held_spans = other_tree schema width l.held.at l.spans.at (held_at schema) (spans_at schema) l.held.found l.spans.found (λ e. omega (arith, e))

  pub follow_spans : follow_tree schema ≢ spans_tree schema
  follow_spans = other_tree schema width l.follow.at l.spans.at (follow_at schema) (spans_at schema) l.follow.found l.spans.found (λ e. omega (arith, e))

  pub follow_meta : follow_tree schema ≢ meta_tree schema
  follow_meta = other_tree schema (λ t. length t.name) l.follow.at l.meta.at (follow_at schema) (meta_at schema) l.follow.found l.meta.found (λ e. omega (arith, e))

-- a table that is not written has the same rows
pub stays : (schema : Schema) (at : ℕ) (table : Table) (old new : Trees) (edit : Edit) → IsFound schema at table → Applies schema Enforced old edit new → table.tree ≢ edit.table.tree → new table.tree ≡ old table.tree
stays schema at table old new edit f step off = all_has (λ t. t.tree ≢ edit.table.tree → new t.tree ≡ old t.tree) schema.tables table step.tables (has_index schema.tables at table f.by_index) off

-- one table in two states of one schema
pub same_rows : (old new : State) (name : List ℕ) → new.now.schema ≡ old.now.schema → new.now.trees (tree_named old.now.schema name) ≡ old.now.trees (tree_named old.now.schema name)
    → new.now.trees (tree_named new.now.schema name) ≡ old.now.trees (tree_named old.now.schema name)
same_rows old new name is same = ap (λ s. new.now.trees (tree_named s name)) is ∙ same

-- what lies beside is as it was committed, also after a table of the store is written
pub still_beside : (old new : State) (edit : Edit) (at : ℕ) → old.in_transaction ≡ true → LiesBeside old.committed old.now → IsDatabase old.now → Applied old.now.schema old new edit → IsFound old.now.schema at edit.table
    → list_any (same_name edit.table.name) (own_names old.committed.schema) ≡ true → other_keys new.now ≡ other_keys old.now → LiesBeside new.committed new.now
still_beside old new edit at inside beside sound h found named keys =
    subst (λ c. LiesBeside c new.now) (sym (h.shown.committed_is ∙ ap (λ b. cond b old.committed new.now) inside))
    (beside_written old.committed old.now new.now edit.table.tree beside sound h.sound h.frozen h.schema_is (own_found (own_names old.committed.schema) old.now.schema at edit.table found named) h.step.tables keys)

module _ (old new : State) (was : IsWorking old) where
  abbrev schema : Schema
  schema = old.now.schema

  abbrev l : IsLaidOut old.now.schema
  l = was.laid_out

  abbrev rows : List Row
  rows = held_rows old.now

  shaped_old : HasRowids rows
  shaped_old = was.held_apart

  lawful_old : AllByRecursion IsHeldRow rows
  lawful_old = was.lawful

  pub rows_new : (edit : Edit) → Applied schema old new edit → held_rows new.now ≡ new.now.trees (held_tree schema)
  rows_new edit h = ap (λ s. new.now.trees (held_tree s)) h.schema_is

  spans_stay : (edit : Edit) → Applied schema old new edit → edit.table ≡ held_at schema → span_rows new.now ≡ span_rows old.now
  spans_stay edit h at = same_rows old new (codes "spans") h.schema_is (stays schema l.spans.at (spans_at schema) old.now.trees new.now.trees edit l.spans.found h.step (rw at (spans_held schema l)))

  meta_stays : (edit : Edit) → Applied schema old new edit → edit.table ≡ held_at schema → meta_rows new.now ≡ meta_rows old.now
  meta_stays edit h at = same_rows old new (codes "meta") h.schema_is (stays schema l.meta.at (meta_at schema) old.now.trees new.now.trees edit l.meta.found h.step (rw at (meta_held schema l)))

  goes_on : (edit : Edit) → Applied schema old new edit → edit.table ≡ held_at schema → HasRowids (new.now.trees (held_tree schema)) → AllByRecursion IsHeldRow (new.now.trees (held_tree schema)) → StaysOpen old new
  goes_on edit h at shaped lawful = record {
    working = record {
      is_open = h.shown.is_open;
      inside = h.shown.mode ∙ was.inside;
      laid_out = subst IsLaidOut (sym h.schema_is) was.laid_out;
      held_apart = subst HasRowids (sym (rows_new edit h)) shaped;
      spans_apart = subst HasRowids (sym (spans_stay edit h at)) was.spans_apart;
      lawful = subst (AllByRecursion IsHeldRow) (sym (rows_new edit h)) lawful;
      sound = h.sound;
      beside = still_beside old new edit l.held.at was.inside was.beside was.sound h (rw at l.held.found) (rw at (own_held old.committed.schema)) (keys_same old.now new.now h.schema_is (meta_stays edit h at));
    };
    schema = h.schema_is;
    committed = h.shown.committed_is ∙ ap (λ b. cond b old.committed new.now) was.inside;
    meta = meta_stays edit h at;
    follow = same_rows old new (codes "follow") h.schema_is (stays schema l.follow.at (follow_at schema) old.now.trees new.now.trees edit l.follow.found h.step (rw at (follow_held schema l)));
  }

  -- ---- rows are put in, whose keys were free, since the rows as they are now obey the schema
  pub holds_inserted : (keys : List Key) → AllByRecursion (λ key. IsSomeImage key.image) keys → Applied schema old new (edit_of old.now.trees (held_at schema) [] Chosen 0 (map given_row keys)) → AddsNew keys old new
  holds_inserted keys stored h =
      let news = numbered_are schema keys rows in
      let sound : IsSound schema new.now.trees = subst (λ s. IsSound s new.now.trees) h.schema_is h.sound in
      let end : new.now.trees (held_tree schema) ≡ put_all rows (all_new keys rows) = h.step.rows ∙ ap (put_all rows) news in
      let put = put_in_turn (new.now.trees (held_tree schema)) (no_clash schema l new.now.trees sound) keys rows stored shaped_old lawful_old (ap (are_fresh rows) (sym news) ∙ h.step.fresh) (sym end) in
      (record { on = goes_on _ h refl put.0 put.1; spans = spans_stay _ h refl }, subst (λ l. Appear keys (count rows) (count l)) (sym (rows_new _ h)) put.2)

  -- ---- no row is taken out
  pub holds_same : Applied schema old new (edit_of old.now.trees (held_at schema) [] Given 0 []) → HasCounts old new (count (held_rows old.now))
  holds_same h =
      let is : new.now.trees (held_tree schema) ≡ rows = h.step.rows in
      record { on = goes_on _ h refl (rw is shaped_old) (rw is lawful_old); spans = spans_stay _ h refl; counts_are = ap count (rows_new _ h ∙ is) }

  -- the rows obey the schema, so a key has one row
  pub one_held : (key : Key) (r : Row) → Has rows r → is_at key r ≡ true → filter (is_at key) rows ≡ r ∷ []
  one_held key r has at = one_at key r at (all_has _ rows r shaped_old.keyed has) rows shaped_old has (no_clash schema l old.now.trees was.sound r has)

  -- ---- the row that a look-up found
  module _ (key : Key) (r : Row) (found : filter (is_at key) rows ≡ r ∷ []) where
    alone : Has rows r × (is_at key r ≡ true)
    alone = found_alone key rows r found

    keyed : rowid r ≡ Int (id_in (rowid r))
    keyed = keyed_row rows r shaped_old alone.0

    at_id : has_rowid (id_in (rowid r)) r ≡ true
    at_id = ap (λ v. is_eq (value_cmp v (Int (id_in (rowid r))))) keyed ∙ own_id (id_in (rowid r))

    pub holds_deleted : (answer : List Row) → IsPermutation (map (λ r. column r 0 ∷ []) (filter (is_at key) rows)) answer → column r 4 ≡ Int (pos 1)
        → Applied schema old new (edit_of old.now.trees (held_at schema) (ids_of answer) Given 0 []) → HasCounts old new (without_one key (count (held_rows old.now)))
    holds_deleted answer same one h =
        let one_row : answer ≡ (column r 0 ∷ []) ∷ [] = one_permutation _ answer (subst (λ l. IsPermutation (map (λ r. column r 0 ∷ []) l) answer) found same) in
        let is : new.now.trees (held_tree schema) ≡ without_rowid (id_in (rowid r)) rows = h.step.rows ∙ ap (λ l. without_all rows (ids_of l)) one_row in
        record {
          on = goes_on _ h refl (rw is (rowids_without (id_in (rowid r)) rows shaped_old)) (rw is (all_filtered IsHeldRow _ rows lawful_old));
          spans = spans_stay _ h refl;
          counts_are = ap count (rows_new _ h ∙ is) ∙ counts_deleted key (id_in (rowid r)) r rows shaped_old.apart found at_id one;
        }

    only_at : (p : Row → Bool) → p r ≡ true → filter (λ x. is_at key x && p x) rows ≡ r ∷ []
    only_at p passes = both_pass (is_at key) p rows ∙ ap (filter p) found ∙ (rw passes refl)

    -- the row that is put in its place
    abbrev new_row : ℤ → Row
    new_row n = Int (id_in (rowid r)) ∷ column r 1 ∷ column r 2 ∷ column r 3 ∷ Int n ∷ []

    news_updated : (n : ℤ) (answer : List Row) → answer ≡ (column r 0 ∷ column r 0 ∷ column r 1 ∷ column r 2 ∷ column r 3 ∷ Int n ∷ []) ∷ []
        → (edit_of old.now.trees (held_at schema) (ids_of answer) Given 1 answer).news ≡ new_row n ∷ []
    news_updated n answer is = rw (is, keyed, cast_int (id_in (rowid r)), cast_int n) refl

    moved : (n : ℤ) (answer : List Row) → IsPermutation (map (λ r. column r 0 ∷ column r 0 ∷ column r 1 ∷ column r 2 ∷ column r 3 ∷ Int n ∷ []) (filter (is_at key) rows)) answer
        → Applied schema old new (edit_of old.now.trees (held_at schema) (ids_of answer) Given 1 answer)
        → (new.now.trees (held_tree schema) ≡ put_row (new_row n) (without_rowid (id_in (rowid r)) rows)) × (is_taken (without_rowid (id_in (rowid r)) rows) (new_row n) ≡ false)
    moved n answer same h =
        let one_row : answer ≡ (column r 0 ∷ column r 0 ∷ column r 1 ∷ column r 2 ∷ column r 3 ∷ Int n ∷ []) ∷ [] =
        one_permutation _ answer (subst (λ l. IsPermutation (map (λ r. column r 0 ∷ column r 0 ∷ column r 1 ∷ column r 2 ∷ column r 3 ∷ Int n ∷ []) l) answer) found same) in
        let news = news_updated n answer one_row in
        let left : without_all rows (ids_of answer) ≡ without_rowid (id_in (rowid r)) rows = ap (λ l. without_all rows (ids_of l)) one_row in (
          h.step.rows ∙ ap₂ put_all left news,
          fresh_alone _ (new_row n) (ap₂ are_fresh (sym left) (sym news) ∙ h.step.fresh),
        )

    -- the row that was found is lawful, and so is the one with another count
    lawful_row : IsHeldRow r
    lawful_row = all_has IsHeldRow rows r lawful_old alone.0

    lawful_with : (m : ℕ) → 1 ≤ m → m ≤ most → IsHeldRow (new_row (pos m))
    lawful_with m low high =
        let is = lawful_row.3 in (id_in (rowid r), lawful_row.1, m, rw (ap (λ x. column x 1) is, ap (λ x. column x 2) is, ap (λ x. column x 3) is) refl, low, high, lawful_row.6)

    goes_updated : (n : ℤ) (answer : List Row) (h : Applied schema old new (edit_of old.now.trees (held_at schema) (ids_of answer) Given 1 answer))
        → new.now.trees (held_tree schema) ≡ put_row (new_row n) (without_rowid (id_in (rowid r)) rows) → is_taken (without_rowid (id_in (rowid r)) rows) (new_row n) ≡ false → IsHeldRow (new_row n) → StaysOpen old new
    goes_updated n answer h is free lawful = goes_on _ h refl (rw is (rowids_put (new_row n) _ refl free (rowids_without (id_in (rowid r)) rows shaped_old)))
        (rw is (all-put_row IsHeldRow (new_row n) _ lawful (all_filtered IsHeldRow _ rows lawful_old)))

    pub holds_raised : (n : ℕ) (answer : List Row) → n + 1 ≤ most → IsPermutation (map (λ r. column r 0 ∷ column r 0 ∷ column r 1 ∷ column r 2 ∷ column r 3 ∷ Int (pos (n + 1)) ∷ []) (filter (is_at key) rows)) answer
        → column r 4 ≡ Int (pos n) → Applied schema old new (edit_of old.now.trees (held_at schema) (ids_of answer) Given 1 answer) → HasCounts old new (with_one key (count (held_rows old.now)))
    holds_raised n answer high same is_n h =
        let m = moved (pos (n + 1)) answer same h in
        record {
          on = goes_updated (pos (n + 1)) answer h m.0 m.1 (lawful_with (n + 1) (omega arith) high);
          spans = spans_stay _ h refl;
          counts_are = ap count (rows_new _ h ∙ m.0) ∙ counts_raised key (id_in (rowid r)) r rows shaped_old.apart found at_id (new_row (pos (n + 1))) alone.1 m.1 n is_n refl;
        }

    pub holds_lowered : (n : ℕ) (answer : List Row) → 1 ≤ n → n ≤ most → IsPermutation (map (λ r. column r 0 ∷ column r 0 ∷ column r 1 ∷ column r 2 ∷ column r 3 ∷ Int (pos n) ∷ []) (filter (is_at key) rows)) answer
        → column r 4 ≡ Int (pos (n + 1)) → Applied schema old new (edit_of old.now.trees (held_at schema) (ids_of answer) Given 1 answer) → HasCounts old new (without_one key (count (held_rows old.now)))
    holds_lowered n answer low high same is_n h =
        let m = moved (pos n) answer same h in
        record {
          on = goes_updated (pos n) answer h m.0 m.1 (lawful_with n low high);
          spans = spans_stay _ h refl;
          counts_are = ap count (rows_new _ h ∙ m.0) ∙ counts_lowered key (id_in (rowid r)) r rows shaped_old.apart found at_id (new_row (pos n)) alone.1 m.1 n is_n refl;
        }

  -- ---- a row is taken out if its count is 1

  pub deleted : (key : Key) (answer : List Row) → IsPermutation (map (λ r. column r 0 ∷ []) (filter (has_n key (pos 1)) rows)) answer
      → Applied schema old new (edit_of old.now.trees (held_at schema) (ids_of answer) Given 0 []) → (found : List Row) → filter (has_n key (pos 1)) rows ≡ found → Deletes key old new (nat_lt 0 (length answer))
  deleted key answer same h [] none =
      let nothing : answer ≡ [] = nil_from_length answer (omega (arith, length_permutation _ answer same, ap (λ l. length (map (λ r. column r 0 ∷ []) l)) none)) in
      rw nothing (not_one, holds_same (subst (λ l. Applied schema old new (edit_of old.now.trees (held_at schema) (ids_of l) Given 0 [])) nothing h))
    where
      not_one : count rows key ≢ 1
      not_one is = at_most (filter (is_at key) rows) refl
        where
          at_most : (xs : List Row) → filter (is_at key) rows ≡ xs → ⊥
          at_most [] off = omega (arith, is, count_none key rows off)
          at_most (r ∷ xs) some =
              let there = has_filtered (is_at key) rows r (rw some (inl refl)) in
              let alone = one_held key r there.0 there.1 in
              let n = (lawful_row key r alone).2 in
              let n_is : column r 4 ≡ Int (pos n) = ap (λ x. column x 4) (lawful_row key r alone).3 in
              let one : n ≡ 1 = sym (count_found key rows r n alone n_is) ∙ is in
              let passes : has_n key (pos 1) r ≡ true = and_from _ _ there.1 (ap (λ v. is_eq (value_cmp v (Int (pos 1)))) (n_is ∙ ap (λ m. Int (pos m)) one) ∙ own_id (pos 1)) in
              let kept = has_kept (has_n key (pos 1)) rows r there.0 passes in
              (rw none at kept)
  deleted key answer same h (r ∷ more) some =
      let there = has_filtered (has_n key (pos 1)) rows r (rw some (inl refl)) in
      let parts = and_parts _ _ there.1 in
      let alone = one_held key r there.0 parts.0 in
      let n = (lawful_row key r alone).2 in
      let n_is : column r 4 ≡ Int (pos n) = ap (λ x. column x 4) (lawful_row key r alone).3 in
      let one : n ≡ 1 = same_int n 1 (ap (λ v. is_eq (value_cmp v (Int (pos 1)))) (sym n_is) ∙ parts.1) in
      let is_one : column r 4 ≡ Int (pos 1) = n_is ∙ ap (λ m. Int (pos m)) one in
      let fewer : filter (has_n key (pos 1)) rows ≡ filter (is_at key) rows = only_at key r alone (λ x. is_eq (value_cmp (column x 4) (Int (pos 1)))) parts.1 ∙ sym alone in
      let all : IsPermutation (map (λ r. column r 0 ∷ []) (filter (is_at key) rows)) answer = subst (λ l. IsPermutation (map (λ r. column r 0 ∷ []) l) answer) fewer same in
      let long : nat_lt 0 (length answer) ≡ true = lt-ltb 0 (length answer) (omega (arith, length_permutation _ answer same, ap (λ l. length (map (λ r. column r 0 ∷ []) l)) some)) in
      rw long (count_found key rows r 1 alone is_one, holds_deleted key r alone answer all is_one h)
