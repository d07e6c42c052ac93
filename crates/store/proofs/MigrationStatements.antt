-- What each statement of the migration does, where it succeeds.
use Rattle.store.proofs.Names.{◌≡◌, ℕ, ℤ, codes, pos, List, [], ◌∷◌, map, filter, not, Bool, true, false, cond, None, Ok, Err, Result, OnOk, IsTrue, inl, inr, refl, sym, ap, ap₂, subst, subst₂, ◌∙◌, and-true, AllByRecursion, IsPermutation, is_eq, cases_Bool, is_eq-slice_cmp, IsPermutation-filter, all-put_row, Trees, put_row, without_rowid, Value, Null, Int, Text, Binary, Row, Compare, Eq, col, lit, list_all, list_any, Table, Schema, all_has, has_filtered, edit_of, is_taken, are_fresh, put_all, without_all, table_named, created, without_table, KeepsRows, Given, Error, Database, IsDatabase, Tally, lacks_sequence, State, ExecutesInside, Executes, command_of, runs_as, one_permutation, IsGtid, AreGtids, id_cmp, id_cmp_total, id_cmp-same, Content, meta, held, spans, spans_text, follow, follow_text, executed_tree, meta_tree, held_tree, meta_at, held_at, follow_at, HasMeta, HasTable, IsApart, IsLaidOut, has_other_key, LiesBeside, HasRowids, IsMetaRow, SaysLayout, IsExecutedRow, id_in, meta_rows, held_rows, with_tables, IsCut, HasBare}
use Rattle.std.specs.Prelude.{MatchBool}
use Rattle.std.proofs.lemmas.Bool.{or_cases}
use Rattle.sqlite_value.specs.Order.{column, value_cmp}
use Rattle.sqlite_value.proofs.OrderLemmas.{value_cmp-Text, value_cmp-apart}
use Rattle.sqlite_sql.specs.Ops.{binary, is_true}
use Rattle.sqlite_sql.specs.Term.{holds}
use Rattle.sqlite_schema.specs.declared.command.Command.TheVariants.{DropTable}
use Rattle.sqlite_rules.specs.Lists.{Has}
use Rattle.sqlite_schema.specs.Names.{same_name}
use Rattle.std.specs.FinSet as set
use Rattle.sqlite_rules.specs.Calls.{ids_of}
use Rattle.sqlite.specs.Does.{Drops}
use Rattle.sqlite.specs.State.{mode_of}
use Rattle.store.specs.Layout.{tree_named, executed_at, spans_at}
use Rattle.store.specs.Beside.{own_names, other_keys}
use Rattle.store.specs.Rows.{is_text}
use Rattle.store.specs.Making.{trees_of}
use Rattle.store.specs.Migrating.{HasTables, made_spans, made_both, drop_executed_text, raise_text, says_layout, IsFirstInside, IsMigrating}
use Rattle.store.proofs.AnyCreateTable.{MakesTable, runs_dropped, spans_makes, follow_makes}
use Rattle.store.proofs.AnyWhole.{has_index}
use Rattle.store.proofs.Beside.{has_still, tree_still}
use Rattle.store.proofs.Keys.{keys_there}
use Rattle.store.proofs.MigrationTables.{base_has, one_has, counted_base, counted_one, bare}
use Rattle.store.proofs.SchemaWithout.{cut, not_acted, meta_left, held_left, meta_off, held_off, rows_left, beside_dropped}
use Rattle.store.proofs.MigratingTexts.{raise_means}
use Rattle.store.proofs.CreateTables.{creates, still_made, still_empty, made_trees}
use Rattle.store.proofs.Selects.{shown_bool}
use Rattle.store.proofs.BesideStays.{beside_unchanged, own_found, own_executed, own_meta, own_spans, own_follow}
use Rattle.store.proofs.Statements.{changes, on_table, went, same_value, cast_int}
use Rattle.store.proofs.RowLemmas.{put_among, put_left_out, filtered_again, rowids_put, rowids_without, left_is, equal_is, all_filtered}
use Rattle.store.proofs.Effects.{fresh_alone, own_id, same_rows, stays, still_beside, meta_held, meta_spans, follow_meta}

-- meta and held stay
moves_on : (A B : State → Type 0) (layout : ℤ) (content : Content) (old new : State) → IsMigrating A layout content old → IsTrue new.is_open × (new.in_transaction ≡ true) × IsDatabase new.now × LiesBeside new.committed new.now → B new
    → meta_rows new.now ≡ meta_rows old.now → held_rows new.now ≡ held_rows old.now → IsMigrating B layout content new
moves_on A B layout content old new was shown tables meta held = record {
  is_open = shown.0;
  inside = shown.1;
  tables = tables;
  meta_apart = rw meta was.meta_apart;
  says = rw meta was.says;
  meta = rw meta was.meta;
  held_apart = rw held was.held_apart;
  held = rw held was.held;
  rows = rw held was.rows;
  lawful = was.lawful;
  sound = shown.2;
  beside = shown.3;
}

-- ---- dropping executed

lawful_rows : (rows : List Row) → AllByRecursion IsExecutedRow rows → AreGtids (set.from_list (map id_in rows))
lawful_rows [] each q there = absurd (let out = set.contains-empty id_cmp q in cc)
lawful_rows (row ∷ rows) each q there = elim (or_cases _ _ (sym (set.contains-insert id_cmp_total (set.from_list (map id_in rows)) (id_in row) q) ∙ there)) [
  | inl here ↦ subst IsGtid (sym (ap id_in each.0.2) ∙ sym (id_cmp-same q (id_in row) (equal_is (id_cmp q (id_in row)) here))) each.0.3
  | inr further ↦ lawful_rows rows each.1 q further
]

begun : (content : Content) (s : State) → IsFirstInside content s → IsMigrating (λ s. Unit {0}) (pos 1) content s
begun content s was = record {
  is_open = was.is_open;
  inside = was.inside;
  tables = tt;
  meta_apart = was.meta_apart;
  says = was.stands.says;
  meta = was.stands.rules.meta;
  held_apart = was.held_apart;
  held = was.stands.rules.held;
  rows = was.stands.rows;
  lawful = subst AreGtids (sym was.stands.executed) (lawful_rows _ was.stands.rules.executed);
  sound = was.sound;
  beside = beside_unchanged s.committed s.now was.settled;
}

by_flag : (b : Bool) (P Q : Type 0) → b ≡ false → MatchBool b P Q → Q
by_flag true P Q is h = absurd (cc)
by_flag false P Q is h = h

drops : (content : Content) (old new : State) (count : ℕ) → IsFirstInside content old → Executes drop_executed_text [] old new (Ok count) → IsMigrating (HasTables []) (pos 1) content new
drops content old new count was h =
    let schema = old.now.schema in
    let v = was.stands.laid_out in
    let at = v.executed.at in
    let known = runs_dropped schema at v.executed.found.by_name old new count refl h in
    let w = runs_as drop_executed_text [] old new schema refl (DropTable at) (ap command_of known) (rw known (refl, refl)) count h in
    let emptied = went (on_table old.step_limit (mode_of old) [] old.now at (executed_at schema) (λ task. Drops task (mode_of old) old.now.trees) (Ok (w.tally, new.now)) v.executed.found.by_index w.changed) in
    let uncounted = went emptied.2 in
    let tested = went uncounted.2 in
    let left = went tested.2 in
    let now : new.now ≡ left.0 = ap (λ (p : Tally × Database). p.1) (same_value left.2) in
    let trees : uncounted.0 ≡ old.now.trees = same_value uncounted.1 ∙ same_value (by_flag _ _ _ (not_acted schema v) emptied.1) in
    let is : new.now.schema ≡ without_table schema (executed_tree schema) = ap (λ (d : Database). d.schema) now ∙ left.1.0 in
    let kept : KeepsRows (without_table schema (executed_tree schema)).tables old.now.trees new.now.trees =
    subst₂ (KeepsRows (without_table schema (executed_tree schema)).tables) trees (sym (ap (λ (d : Database). d.trees) now)) left.1.1 in
    let none : table_named old.committed.schema (codes "spans") ≡ None = subst (λ (d : Database). table_named d.schema (codes "spans") ≡ None) was.settled v.no_spans in
    let own = own_found (own_names old.committed.schema) schema at (executed_at schema) v.executed.found (own_executed old.committed.schema none) in
    let meta_is : meta_rows new.now ≡ meta_rows old.now = ap (λ s. new.now.trees (meta_tree s)) is ∙ ap new.now.trees (meta_left schema v) ∙ rows_left schema v meta v.meta (meta_off schema v) old.now.trees new.now.trees kept in
    let there : HasMeta new.now.schema = subst HasMeta (sym is) (cut schema v).meta in
    let keys : other_keys new.now ≡ other_keys old.now = keys_there new.now there ∙ ap (filter has_other_key) meta_is ∙ sym (keys_there old.now v.meta) in
    let beside = beside_dropped old.committed old.now new.now (executed_tree schema) (beside_unchanged old.committed old.now was.settled) was.sound w.sound w.frozen own is kept keys in
    moves_on (λ s. Unit {0}) (HasTables []) (pos 1) content old new (begun content old was)
    (w.shown.is_open, w.shown.mode ∙ was.inside, w.sound, subst (λ c. LiesBeside c new.now) (sym (w.shown.committed_is ∙ ap (λ b. cond b old.committed new.now) was.inside)) beside)
    (record { base = without_table schema (executed_tree schema); cut = cut schema v; schema_is = is; empty = tt })
    meta_is
    (ap (λ s. new.now.trees (held_tree s)) is ∙ ap new.now.trees (held_left schema v) ∙ rows_left schema v held v.held (held_off schema v) old.now.trees new.now.trees kept)

pub done_drop : (content : Content) (old new : State) (r : Result ℕ Error) → IsFirstInside content old → ExecutesInside 0 drop_executed_text [] old new r → OnOk r (IsMigrating (HasTables []) (pos 1) content new)
done_drop content old new (Ok count) was h = drops content old new count was h.0
done_drop content old new (Err e) was h = tt

-- ---- making spans and follow

module _ (ts : List Table) (sql : List ℕ) (table : Table) (m : MakesTable sql table) (named : (schema : Schema) → list_any (same_name table.name) (own_names schema) ≡ true)
    (counted : (base : Schema) → IsCut base → lacks_sequence (created (with_tables base ts) table) ≡ false) (has : (base : Schema) → IsCut base → HasMeta (with_tables base ts) × HasTable (with_tables base ts) held) where
  makes : (content : Content) (old new : State) (count : ℕ) → IsMigrating (HasTables ts) (pos 1) content old → Executes sql [] old new (Ok count) → IsMigrating (HasTables (table ∷ ts)) (pos 1) content new
  makes content old new count was h =
      let t = was.tables in
      let schema = with_tables t.base ts in
      let it = creates schema sql table m (counted t.base t.cut) old new t.schema_is count h in
      let there = has t.base t.cut in
      let same : (x : Table) → HasTable schema x → new.now.trees (tree_named new.now.schema x.name) ≡ old.now.trees (tree_named old.now.schema x.name) = λ x hx.
      ap (λ s. new.now.trees (tree_named s x.name)) it.0 ∙ ap new.now.trees (tree_still schema table x hx)
      ∙ all_has (λ (u : Table). new.now.trees u.tree ≡ old.now.trees u.tree) schema.tables (record x { tree = tree_named schema x.name }) it.2 (has_index schema.tables hx.at (record x { tree = tree_named schema x.name }) hx.found.by_index)
      ∙ ap (λ s. old.now.trees (tree_named s x.name)) (sym t.schema_is) in
      let keys : other_keys new.now ≡ other_keys old.now =
      keys_there new.now (subst HasMeta (sym it.0) (has_still schema table meta there.0)) ∙ ap (filter has_other_key) (same meta there.0) ∙ sym (keys_there old.now (subst HasMeta (sym t.schema_is) there.0)) in
      moves_on (HasTables ts) (HasTables (table ∷ ts)) (pos 1) content old new was
      (it.3.shown.is_open, it.3.shown.mode ∙ was.inside, it.3.sound, still_made schema table old new sql count t.schema_is was.inside was.beside was.sound (named old.committed.schema) it.0 it.2 it.3 keys)
      (record { base = t.base; cut = t.cut; schema_is = it.0; empty = (it.1, still_empty schema (trees_of t.base ts) old.now.trees new.now.trees it.2 (made_trees t.base ts) t.empty) })
      (same meta there.0) (same held there.1)

pub done_spans : (content : Content) (old new : State) (r : Result ℕ Error) → IsMigrating (HasTables []) (pos 1) content old → ExecutesInside 0 spans_text [] old new r → OnOk r (IsMigrating (HasTables made_spans) (pos 1) content new)
done_spans content old new (Ok count) was h = makes [] spans_text spans spans_makes own_spans counted_base base_has content old new count was h.0
done_spans content old new (Err e) was h = tt

pub done_follow : (content : Content) (old new : State) (r : Result ℕ Error) → IsMigrating (HasTables made_spans) (pos 1) content old → ExecutesInside 0 follow_text [] old new r → OnOk r (IsMigrating HasBare (pos 1) content new)
done_follow content old new (Ok count) was h =
    let it = makes made_spans follow_text follow follow_makes own_follow counted_one one_has content old new count was h.0 in
    moves_on (HasTables made_both) HasBare (pos 1) content new new it (it.is_open, it.inside, it.sound, it.beside) (bare it.tables.base it.tables.cut new it.tables.schema_is it.tables.empty) refl refl
done_follow content old new (Err e) was h = tt

-- ---- the row of meta

equals_text : (v : Value) (t : List ℕ) → is_true (binary (Compare Eq Binary) v (Text t)) ≡ is_text t v
unfolding binary
equals_text Null t = refl
equals_text (Text s) t = shown_bool (is_eq (value_cmp (Text s) (Text t))) ∙ ap is_eq (value_cmp-Text s t) ∙ is_eq-slice_cmp s t
equals_text v t = shown_bool (is_eq (value_cmp v (Text t))) ∙ ap is_eq (value_cmp-apart v (Text t) (λ e. cc))

abbrev is_layout : Row → Bool
is_layout row = is_text (codes "layout") (column row 1)

layout_holds : (row : Row) → list_all (holds ([] ∷ row ∷ [])) says_layout ≡ is_layout row
layout_holds row = and-true _ ∙ equals_text (column row 1) (codes "layout")

one_mapped : (f : Row → Value) (rows : List Row) (y : Value) → map f rows ≡ y ∷ [] → (r : Row) × (rows ≡ r ∷ [])
one_mapped f [] y h = absurd (cc)
one_mapped f (x ∷ []) y h = (x, refl)
one_mapped f (x ∷ z ∷ rows) y h = absurd (cc)

none_both : (p : Row → Bool) (rows : List Row) → filter p (filter (λ r. not (p r)) rows) ≡ []
none_both p [] = refl
none_both p (x ∷ rows) = elim (cases_Bool (p x)) [
  | inl passes ↦ rw passes (none_both p rows)
  | inr fails ↦ rw fails (rw fails (none_both p rows))
]

-- the row of the layout, and the one that is put in its place
module _ (rows : List Row) (apart : HasRowids rows) (meta : AllByRecursion IsMetaRow rows) (says : SaysLayout (pos 1) rows) where
  record Found : Type 0 where
    id : ℤ
    key : List ℕ
    n : ℤ
    alone : filter is_layout rows ≡ (Int id ∷ Text key ∷ Int n ∷ []) ∷ []
    named : is_layout (Int id ∷ Text key ∷ Int n ∷ []) ≡ true

  found : Found
  found =
      let one = one_mapped (λ row. column row 2) (filter is_layout rows) (Int (pos 1)) says in
      let has = has_filtered is_layout rows one.0 (subst (λ l. Has l one.0) (sym one.1) (inl refl)) in
      let it = all_has IsMetaRow rows one.0 meta has.0 in
      record { id = it.0; key = it.1; n = it.2; alone = one.1 ∙ ap (λ (r : Row). r ∷ []) it.3; named = subst (λ r. is_layout r ≡ true) it.3 has.1 }

abbrev raised : ℤ → List ℕ → Row
raised id key = Int id ∷ Text key ∷ Int (pos 2) ∷ []

news_raised : (db : Trees) (tree : ℕ) (id : ℤ) (key : List ℕ) (answer : List Row) → answer ≡ (Int id ∷ Int id ∷ Text key ∷ Int (pos 2) ∷ []) ∷ []
    → (edit_of db (record meta { tree = tree }) (ids_of answer) Given 1 answer).news ≡ raised id key ∷ []
news_raised db tree id key answer is = rw (is, cast_int id, cast_int (pos 2)) refl

raises : (content : Content) (old new : State) (count : ℕ) → IsMigrating HasBare (pos 1) content old → Executes raise_text [] old new (Ok count) → IsMigrating HasBare (pos 2) content new
raises content old new count was h =
    let schema = old.now.schema in
    let l = was.tables.laid_out in
    let tree = meta_tree schema in
    let db = old.now.trees in
    let rows = meta_rows old.now in
    let answer = changes schema l.meta.at tree _ _ _ _ l.meta.found raise_text [] old new refl count h
    was.tables.meta_free says_layout (col 1 0 ∷ col 1 0 ∷ col 1 1 ∷ lit (Int (pos 2)) ∷ []) is_layout layout_holds (raise_means schema l.meta.at tree l.meta.found) in
    let a = answer.2 in
    let edit = edit_of db (meta_at schema) (ids_of answer.0) Given 1 answer.0 in
    let it = found rows was.meta_apart was.meta was.says in
    let r : Row = Int it.id ∷ Text it.key ∷ Int it.n ∷ [] in
    let one_row : answer.0 ≡ (Int it.id ∷ Int it.id ∷ Text it.key ∷ Int (pos 2) ∷ []) ∷ [] =
    one_permutation _ answer.0 (subst (λ l. IsPermutation (map (λ r. column r 0 ∷ column r 0 ∷ column r 1 ∷ Int (pos 2) ∷ []) l) answer.0) it.alone answer.1) in
    let news = news_raised db tree it.id it.key answer.0 one_row in
    let left : without_all rows (ids_of answer.0) ≡ without_rowid it.id rows = ap (λ l. without_all rows (ids_of l)) one_row in
    let row = raised it.id it.key in
    let free : is_taken (without_rowid it.id rows) row ≡ false = fresh_alone _ row (ap₂ are_fresh (sym left) (sym news) ∙ a.step.fresh) in
    let meta_is : meta_rows new.now ≡ put_row row (without_rowid it.id rows) = ap (λ s. new.now.trees (meta_tree s)) a.schema_is ∙ a.step.rows ∙ ap₂ put_all left news in
    let rest : without_rowid it.id rows ≡ filter (λ x. not (is_layout x)) rows = left_is is_layout it.id r rows was.meta_apart.apart it.alone (own_id it.id) in
    let first : filter is_layout (row ∷ without_rowid it.id rows) ≡ row ∷ [] = rw (it.named, rest, none_both is_layout rows) refl in
    let says : filter is_layout (put_row row (without_rowid it.id rows)) ≡ row ∷ [] = one_permutation row _
    (subst (λ l. IsPermutation l (filter is_layout (put_row row (without_rowid it.id rows)))) first (IsPermutation-filter is_layout (row ∷ without_rowid it.id rows) (put_row row (without_rowid it.id rows)) (put_among row (without_rowid it.id rows) free))) in
    let held_is : held_rows new.now ≡ held_rows old.now = same_rows old new (codes "held") a.schema_is (stays schema l.held.at (held_at schema) db new.now.trees edit l.held.found a.step (λ same. meta_held schema l (sym same))) in
    record {
      is_open = a.shown.is_open;
      inside = a.shown.mode ∙ was.inside;
      tables = record {
        laid_out = subst IsLaidOut (sym a.schema_is) l;
        spans = same_rows old new (codes "spans") a.schema_is (stays schema l.spans.at (spans_at schema) db new.now.trees edit l.spans.found a.step (λ same. meta_spans schema l (sym same))) ∙ was.tables.spans;
        follow = same_rows old new (codes "follow") a.schema_is (stays schema l.follow.at (follow_at schema) db new.now.trees edit l.follow.found a.step (follow_meta schema l)) ∙ was.tables.follow;
        meta_free = subst (λ (s : Schema). AllByRecursion (IsApart s (meta_tree s)) s.tables) (sym a.schema_is) was.tables.meta_free;
      };
      meta_apart = rw meta_is (rowids_put row (without_rowid it.id rows) refl free (rowids_without it.id rows was.meta_apart));
      says = ap (λ l. map (λ (row : Row). column row 2) (filter is_layout l)) meta_is ∙ ap (map (λ (row : Row). column row 2)) says;
      meta = rw meta_is (all-put_row IsMetaRow row (without_rowid it.id rows) (it.id, it.key, pos 2, refl) (all_filtered IsMetaRow _ rows was.meta));
      held_apart = rw held_is was.held_apart;
      held = rw held_is was.held;
      rows = rw held_is was.rows;
      lawful = was.lawful;
      sound = a.sound;
      beside = still_beside old new edit l.meta.at was.inside was.beside was.sound a l.meta.found (own_meta old.committed.schema)
          (keys_there new.now (subst HasMeta (sym a.schema_is) l.meta) ∙ ap (filter has_other_key) meta_is ∙ put_left_out has_other_key row (without_rowid it.id rows) (ap not it.named) free ∙ ap (filter has_other_key) rest ∙ filtered_again has_other_key rows
          ∙ sym (keys_there old.now l.meta));
    }

pub done_raise : (content : Content) (old new : State) (r : Result ℕ Error) → IsMigrating HasBare (pos 1) content old → ExecutesInside 0 raise_text [] old new r → OnOk r (IsMigrating HasBare (pos 2) content new)
done_raise content old new (Ok count) was h = raises content old new count was h.0
done_raise content old new (Err e) was h = tt
