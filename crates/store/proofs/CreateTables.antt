-- What each statement that makes the tables does, where it succeeds.
use Rattle.store.proofs.Names.{◌≡◌, inl, inr, ℕ, ◌++◌, codes, pos, List, [], ◌∷◌, false, true, cond, map, filter, None, Ok, Err, Result, OnOk, refl, sym, ap, subst, ◌∙◌, AllByRecursion, list_any, IsPermutation, IsPermutation-map, list_any-IsPermutation, eq_by_cmp, Null, Int, Text, Blob, Row, Table, Schema, table_named, created, next_tree, KeepsRows, edit_of, are_fresh, is_taken, next_rowid, put_all, Chosen, Trees, put_row, all-put_row, Error, Database, IsDatabase, Tally, lacks_sequence, all_has, State, ExecutesInside, Executes, IsPlain, command_of, runs_as, Names, name_cmp_total, name_cmp-same, meta, held, spans, spans_text, follow, follow_text, IsVacant, IsLaidOut, meta_at, held_at, follow_at, meta_tree, held_tree, spans_tree, follow_tree, AreNames, IsFollowRow, IsHeldRow, HasRowids, name_in, meta_rows, held_rows, span_rows, follow_rows, IsNaming, IsWorking, with_tables, LiesBeside, has_other_key}
use Rattle.std.specs.FinSet as set
use Rattle.sqlite_schema.specs.declared.command.Command.TheVariants.{CreateTable}
use Rattle.sqlite_schema.specs.Names.{same_name}
use Rattle.sqlite_rules.specs.Lists.{Has}
use Rattle.sqlite.specs.Listing.{understood}
use Rattle.sqlite.specs.State.{Writes}
use Rattle.sqlite.proofs.Callers.{statement_of}
use Rattle.binlog.specs.Filter.{Name, name_cmp}
use Rattle.store.specs.Layout.{meta_text, held_text, spans_at}
use Rattle.store.specs.Inside.{StoresNames}
use Rattle.store.specs.Making.{IsMaking, layout_row, trees_of, with_meta, with_held, with_spans, new_layout, layout_text, layout_terms, add_name_text, add_name_terms}
use Rattle.store.proofs.Beside.{made, laid_out, meta_at_one, meta_at_two, meta_at_three, meta_at_base, held_at_one, spans_at_two, follow_at_three, counted_base, counted_one, counted_two, counted_three}
use Rattle.store.proofs.AnyCreateTable.{MakesTable, runs_made, meta_makes, held_makes, spans_makes, follow_makes, layout_means, add_name_means}
use Rattle.store.proofs.Statements.{puts, Applied, went, same_value, cast_null, cast_int}
use Rattle.store.proofs.RowLemmas.{put_among}
use Rattle.store.specs.Beside.{own_names, other_keys}
use Rattle.store.proofs.Keys.{keys_same, keys_vacant, keys_none}
use Rattle.store.proofs.BesideStays.{beside_made, own_meta, own_held, own_spans, own_follow}
use Rattle.store.proofs.Effects.{fresh_alone, same_rows, stays, still_beside, meta_held, meta_spans, follow_held, follow_spans, follow_meta}

-- ---- tables

-- the trees of the tables that have been made are those of tables of the schema
pub made_trees : (base : Schema) (ts : List Table) → AllByRecursion (λ tree. (t : Table) × Has (with_tables base ts).tables t × (t.tree ≡ tree)) (trees_of base ts)
made_trees base [] = tt
made_trees base (t ∷ ts) = (
  (made (with_tables base ts) t, has_last (with_tables base ts).tables (made (with_tables base ts) t), refl),
  later (with_tables base ts) t (trees_of base ts) (made_trees base ts),
)
  where
    has_last : (xs : List Table) (x : Table) → Has (xs ++ x ∷ []) x
    has_last [] x = inl refl
    has_last (y ∷ ys) x = inr (has_last ys x)

    has_more : (xs : List Table) (x y : Table) → Has xs y → Has (xs ++ x ∷ []) y
    has_more [] x y h = absurd h
    has_more (z ∷ zs) x y (inl h) = inl h
    has_more (z ∷ zs) x y (inr h) = inr (has_more zs x y h)

    later : (schema : Schema) (x : Table) (trees : List ℕ) → AllByRecursion (λ tree. (t : Table) × Has schema.tables t × (t.tree ≡ tree)) trees → AllByRecursion (λ tree. (t : Table) × Has (created schema x).tables t × (t.tree ≡ tree)) trees
    later schema x [] all = tt
    later schema x (tree ∷ trees) all = ((all.0.0, has_more schema.tables (made schema x) all.0.0 all.0.1, all.0.2), later schema x trees all.1)

pub still_empty : (schema : Schema) (trees : List ℕ) (old new : Trees) → KeepsRows schema.tables old new → AllByRecursion (λ tree. (t : Table) × Has schema.tables t × (t.tree ≡ tree)) trees → AllByRecursion (λ tree. old tree ≡ []) trees
    → AllByRecursion (λ tree. new tree ≡ []) trees
still_empty schema [] old new kept there empty = tt
still_empty schema (tree ∷ trees) old new kept there empty =
    let same = all_has (λ (t : Table). new t.tree ≡ old t.tree) schema.tables there.0.0 kept there.0.1 in
    (subst (λ n. new n ≡ old n) there.0.2 same ∙ empty.0, still_empty schema trees old new kept there.1 empty.1)

module _ (schema : Schema) (sql : List ℕ) (table : Table) (m : MakesTable sql table) (counted : lacks_sequence (created schema table) ≡ false) (old new : State) (has : old.now.schema ≡ schema) where
  -- a table is made, with no row in it, and the rows of the others stay
  pub creates : (count : ℕ) → Executes sql [] old new (Ok count) → (new.now.schema ≡ created schema table) × (new.now.trees (next_tree schema) ≡ []) × KeepsRows schema.tables old.now.trees new.now.trees × Writes old new None CreateTable sql [] count
  creates count h =
      let known = runs_made schema sql table m [] old new count has h in
      let text : statement_of sql (understood schema sql) ≡ sql = ap (statement_of sql) known ∙ m.whole in
      let plain : IsPlain (understood schema sql) = rw known (refl, refl) in
      let w = subst (λ t. Writes old new None CreateTable t [] count) text (runs_as sql [] old new schema has CreateTable (ap command_of known) plain count h) in
      let all = went w.changed in
      let first = went all.1 in
      let done = first.1 in
      let both : Ok done.table ≡ Ok table = sym done.defined ∙ m.makes in
      let same : done.table ≡ table = same_value both in
      let schema_is : first.0.schema ≡ created schema table = done.is ∙ ap (λ s. created s done.table) has ∙ ap (created schema) same in
      let none : lacks_sequence first.0.schema ≡ false = ap lacks_sequence schema_is ∙ counted in
      let now : new.now ≡ first.0 = ap (λ (p : Tally × Database). p.1) (same_value all.2) ∙ same_value (rw none at first.2) in
      let empty : new.now.trees (next_tree schema) ≡ [] = ap (λ (d : Database). d.trees (next_tree schema)) now ∙ subst (λ s. first.0.trees (next_tree s) ≡ []) has done.empty in
      let kept : KeepsRows schema.tables old.now.trees new.now.trees =
      subst (λ (d : Database). KeepsRows schema.tables old.now.trees d.trees) (sym now) (subst (λ (s : Schema). KeepsRows s.tables old.now.trees first.0.trees) has done.others) in
      (ap (λ (d : Database). d.schema) now ∙ schema_is, empty, kept, w)

-- what lies beside is as it was committed, also after a table of the store is made
pub still_made : (schema : Schema) (table : Table) (old new : State) (sql : List ℕ) (count : ℕ) → old.now.schema ≡ schema → old.in_transaction ≡ true → LiesBeside old.committed old.now → IsDatabase old.now → list_any (same_name table.name) (own_names old.committed.schema) ≡ true
    → new.now.schema ≡ created schema table → KeepsRows schema.tables old.now.trees new.now.trees → Writes old new None CreateTable sql [] count → other_keys new.now ≡ other_keys old.now → LiesBeside new.committed new.now
still_made schema table old new sql count has inside beside sound named is kept w keys =
    subst (λ c. LiesBeside c new.now) (sym (w.shown.committed_is ∙ ap (λ b. cond b old.committed new.now) inside))
    (beside_made old.committed old.now new.now table beside sound w.sound w.frozen named (is ∙ ap (λ s. created s table) (sym has)) (subst (λ (s : Schema). KeepsRows s.tables old.now.trees new.now.trees) (sym has) kept) keys)

-- meta has no row while the tables are made, if it is there
abbrev HasNoKey : List Table → Type 0
HasNoKey ts = (base : Schema) → IsVacant base → (db : Database) → db.schema ≡ with_tables base ts → AllByRecursion (λ tree. db.trees tree ≡ []) (trees_of base ts) → other_keys db ≡ []

no_row : (schema : Schema) (tree : ℕ) (db : Database) → db.schema ≡ schema → meta_tree schema ≡ tree → db.trees tree ≡ [] → other_keys db ≡ []
no_row schema tree db is at none = keys_none db (ap (filter has_other_key) (ap (λ s. db.trees (meta_tree s)) is ∙ ap db.trees at ∙ none))

no_key : HasNoKey []
no_key base v db is none = keys_vacant db (ap (λ s. table_named s (codes "meta")) is ∙ v.no_meta)

no_key_one : HasNoKey with_meta
no_key_one base v db is none = no_row (with_tables base with_meta) (next_tree base) db is (meta_at_one base v) none.0

no_key_two : HasNoKey with_held
no_key_two base v db is none = no_row (with_tables base with_held) (next_tree base) db is (meta_at_two base v) none.1.0

no_key_three : HasNoKey with_spans
no_key_three base v db is none = no_row (with_tables base with_spans) (next_tree base) db is (meta_at_three base v) none.1.1.0

no_key_four : HasNoKey new_layout
no_key_four base v db is none = no_row (with_tables base new_layout) (next_tree base) db is (meta_at_base base v) none.1.1.1.0

module _ (ts : List Table) (sql : List ℕ) (table : Table) (m : MakesTable sql table) (named : (schema : Schema) → list_any (same_name table.name) (own_names schema) ≡ true) (counted : (base : Schema) → IsVacant base → lacks_sequence (created (with_tables base ts) table) ≡ false)
    (before : HasNoKey ts) (after : HasNoKey (table ∷ ts)) (old new : State) where
  done : (r : Result ℕ Error) → IsMaking ts old → ExecutesInside 0 sql [] old new r → OnOk r (IsMaking (table ∷ ts) new)
  done (Ok count) was h =
      let schema = with_tables was.base ts in
      let it = creates schema sql table m (counted was.base was.vacant) old new was.schema_is count h.0 in
      let empty : AllByRecursion (λ tree. new.now.trees tree ≡ []) (trees_of was.base (table ∷ ts)) = (it.1, still_empty schema (trees_of was.base ts) old.now.trees new.now.trees it.2 (made_trees was.base ts) was.empty) in
      record {
        is_open = it.3.shown.is_open;
        inside = it.3.shown.mode ∙ was.inside;
        base = was.base;
        vacant = was.vacant;
        schema_is = it.0;
        empty = empty;
        sound = it.3.sound;
        beside = still_made schema table old new sql count was.schema_is was.inside was.beside was.sound (named old.committed.schema) it.0 it.2 it.3
            (after was.base was.vacant new.now it.0 empty ∙ sym (before was.base was.vacant old.now was.schema_is was.empty));
      }
  done (Err e) was h = tt

pub done_meta : (old new : State) (r : Result ℕ Error) → IsMaking [] old → ExecutesInside 0 meta_text [] old new r → OnOk r (IsMaking with_meta new)
done_meta old new r was h = done [] meta_text meta meta_makes own_meta counted_base no_key no_key_one old new r was h

pub done_held : (old new : State) (r : Result ℕ Error) → IsMaking with_meta old → ExecutesInside 0 held_text [] old new r → OnOk r (IsMaking with_held new)
done_held old new r was h = done with_meta held_text held held_makes own_held counted_one no_key_one no_key_two old new r was h

pub done_spans : (old new : State) (r : Result ℕ Error) → IsMaking with_held old → ExecutesInside 0 spans_text [] old new r → OnOk r (IsMaking with_spans new)
done_spans old new r was h = done with_held spans_text spans spans_makes own_spans counted_two no_key_two no_key_three old new r was h

pub done_follow : (old new : State) (r : Result ℕ Error) → IsMaking with_spans old → ExecutesInside 0 follow_text [] old new r → OnOk r (IsMaking new_layout new)
done_follow old new r was h = done with_spans follow_text follow follow_makes own_follow counted_three no_key_three no_key_four old new r was h

-- ---- the row of meta

-- the tables are there, and none has a row
record IsBare (s : State) : Type 0 where
  laid_out : IsLaidOut s.now.schema
  meta : meta_rows s.now ≡ []
  held : held_rows s.now ≡ []
  spans : span_rows s.now ≡ []
  follow : follow_rows s.now ≡ []

bare : (s : State) → IsMaking new_layout s → IsBare s
bare s was =
    let schema = with_tables was.base new_layout in
    let rows : (tree : Schema → ℕ) (at : ℕ) → tree schema ≡ at → s.now.trees at ≡ [] → s.now.trees (tree s.now.schema) ≡ [] = λ tree at is none. ap (λ x. s.now.trees (tree x)) was.schema_is ∙ ap s.now.trees is ∙ none in
    record {
      laid_out = subst IsLaidOut (sym was.schema_is) (laid_out was.base was.vacant);
      meta = rows meta_tree (next_tree was.base) (meta_at_base was.base was.vacant) was.empty.1.1.1.0;
      held = rows held_tree (next_tree (with_tables was.base with_meta)) (held_at_one was.base was.vacant) was.empty.1.1.0;
      spans = rows spans_tree (next_tree (with_tables was.base with_held)) (spans_at_two was.base was.vacant) was.empty.1.0;
      follow = rows follow_tree (next_tree (with_tables was.base with_spans)) (follow_at_three was.base was.vacant) was.empty.0;
    }

news_marked : (db : Trees) (table : Table) → table ≡ record meta { tree = table.tree } → db table.tree ≡ [] → (edit_of db (record meta { tree = table.tree }) [] Chosen 0 ((Null ∷ Text (codes "layout") ∷ Int (pos 2) ∷ []) ∷ [])).news ≡ layout_row ∷ []
news_marked db table is none = rw (none, cast_null, cast_int (pos 2)) refl

-- a row that is put into a table of the store, with the rows of the other tables as they were
module _ (old new : State) (l : IsLaidOut old.now.schema) where
  abbrev schema : Schema
  schema = old.now.schema

  abbrev db : Trees
  db = old.now.trees

  marked : (count : ℕ) → Executes layout_text [] old new (Ok count) → Applied schema old new (edit_of db (meta_at schema) [] Chosen 0 ((Null ∷ Text (codes "layout") ∷ Int (pos 2) ∷ []) ∷ []))
  marked count h = puts schema l.meta.at (meta_tree schema) _ _ _ _ l.meta.found layout_text [] old new refl count h layout_terms 3 (layout_means schema l.meta.at (meta_tree schema) l.meta.found)

  named : (name : Name) (count : ℕ) → Executes add_name_text (Blob name.0 ∷ Blob name.1 ∷ []) old new (Ok count) → Applied schema old new (edit_of db (follow_at schema) [] Chosen 0 ((Null ∷ Blob name.0 ∷ Blob name.1 ∷ []) ∷ []))
  named name count h =
      puts schema l.follow.at (follow_tree schema) _ _ _ _ l.follow.found add_name_text (Blob name.0 ∷ Blob name.1 ∷ []) old new refl count h
      add_name_terms 3 (add_name_means schema l.follow.at (follow_tree schema) l.follow.found)

marks : (old new : State) (count : ℕ) → IsMaking new_layout old → Executes layout_text [] old new (Ok count) → IsNaming set.empty new
marks old new count was h =
    let b = bare old was in
    let l = b.laid_out in
    let schema = old.now.schema in
    let a = marked old new l count h in
    let edit = edit_of old.now.trees (meta_at schema) [] Chosen 0 ((Null ∷ Text (codes "layout") ∷ Int (pos 2) ∷ []) ∷ []) in
    let meta_is : meta_rows new.now ≡ layout_row ∷ [] =
    ap (λ s. new.now.trees (meta_tree s)) a.schema_is ∙ a.step.rows ∙ ap (put_all (old.now.trees (meta_tree schema))) (news_marked old.now.trees (meta_at schema) refl b.meta) ∙ ap (λ rows. put_all rows (layout_row ∷ [])) b.meta in
    let follow_is : follow_rows new.now ≡ [] = same_rows old new (codes "follow") a.schema_is (stays schema l.follow.at (follow_at schema) old.now.trees new.now.trees edit l.follow.found a.step (follow_meta schema l)) ∙ b.follow in
    record {
      is_open = a.shown.is_open;
      inside = a.shown.mode ∙ was.inside;
      laid_out = subst IsLaidOut (sym a.schema_is) l;
      meta = meta_is;
      held = same_rows old new (codes "held") a.schema_is (stays schema l.held.at (held_at schema) old.now.trees new.now.trees edit l.held.found a.step (λ same. meta_held schema l (sym same))) ∙ b.held;
      spans = same_rows old new (codes "spans") a.schema_is (stays schema l.spans.at (spans_at schema) old.now.trees new.now.trees edit l.spans.found a.step (λ same. meta_spans schema l (sym same))) ∙ b.spans;
      follow = rw follow_is (record { lawful = tt; names_are = refl });
      sound = a.sound;
      beside = still_beside old new edit l.meta.at was.inside was.beside was.sound a l.meta.found (own_meta old.committed.schema)
          (keys_none new.now (ap (filter has_other_key) meta_is) ∙ sym (keys_none old.now (ap (filter has_other_key) b.meta)));
    }

pub done_layout : (old new : State) (r : Result ℕ Error) → IsMaking new_layout old → ExecutesInside 0 layout_text [] old new r → OnOk r (IsNaming set.empty new)
done_layout old new (Ok count) was h = marks old new count was h.0
done_layout old new (Err e) was h = tt

-- ---- a row of follow

-- a set is that of any order of its list
pub same_names : (a b : List Name) → IsPermutation a b → set.from_list {R = name_cmp} a ≡ set.from_list b
same_names a b moved = set.same_set name_cmp_total name_cmp-same (set.from_list a) (set.from_list b) (λ q.
    set.contains-from_list name_cmp_total a q ∙ list_any-IsPermutation (eq_by_cmp name_cmp q) a b moved ∙ sym (set.contains-from_list name_cmp_total b q))

abbrev new_name : List Row → Name → Row
new_name rows name = Int (next_rowid rows) ∷ Blob name.0 ∷ Blob name.1 ∷ []

named_put : (rows : List Row) (names : Names) (name : Name) → is_taken rows (new_name rows name) ≡ false → AreNames rows names → AreNames (put_row (new_name rows name) rows) (set.insert names name)
named_put rows names name free was = record {
  lawful = all-put_row IsFollowRow (new_name rows name) rows (_, name, refl) was.lawful;
  names_are = ap (λ (s : Names). set.insert s name) was.names_are
      ∙ same_names (map name_in (new_name rows name ∷ rows)) (map name_in (put_row (new_name rows name) rows))
      (IsPermutation-map name_in (new_name rows name ∷ rows) (put_row (new_name rows name) rows) (put_among (new_name rows name) rows free));
}

news_named : (db : Trees) (tree : ℕ) (name : Name) → (edit_of db (record follow { tree = tree }) [] Chosen 0 ((Null ∷ Blob name.0 ∷ Blob name.1 ∷ []) ∷ [])).news ≡ new_name (db tree) name ∷ []
news_named db tree name = rw cast_null refl

names_one : (old new : State) (names : Names) (name : Name) (count : ℕ) → IsNaming names old → Executes add_name_text (Blob name.0 ∷ Blob name.1 ∷ []) old new (Ok count) → IsNaming (set.insert names name) new
names_one old new names name count was h =
    let l = was.laid_out in
    let schema = old.now.schema in
    let rows = follow_rows old.now in
    let a = named old new l name count h in
    let edit = edit_of old.now.trees (follow_at schema) [] Chosen 0 ((Null ∷ Blob name.0 ∷ Blob name.1 ∷ []) ∷ []) in
    let news = news_named old.now.trees (follow_tree schema) name in
    let free : is_taken rows (new_name rows name) ≡ false = fresh_alone rows (new_name rows name) (ap (are_fresh rows) (sym news) ∙ a.step.fresh) in
    let meta_is : meta_rows new.now ≡ meta_rows old.now = same_rows old new (codes "meta") a.schema_is (stays schema l.meta.at (meta_at schema) old.now.trees new.now.trees edit l.meta.found a.step (λ same. follow_meta schema l (sym same))) in
    let follow_is : follow_rows new.now ≡ put_row (new_name rows name) rows = ap (λ s. new.now.trees (follow_tree s)) a.schema_is ∙ a.step.rows ∙ ap (put_all rows) news in
    record {
      is_open = a.shown.is_open;
      inside = a.shown.mode ∙ was.inside;
      laid_out = subst IsLaidOut (sym a.schema_is) l;
      meta = meta_is ∙ was.meta;
      held = same_rows old new (codes "held") a.schema_is (stays schema l.held.at (held_at schema) old.now.trees new.now.trees edit l.held.found a.step (λ same. follow_held schema l (sym same))) ∙ was.held;
      spans = same_rows old new (codes "spans") a.schema_is (stays schema l.spans.at (spans_at schema) old.now.trees new.now.trees edit l.spans.found a.step (λ same. follow_spans schema l (sym same))) ∙ was.spans;
      follow = rw follow_is (named_put rows names name free was.follow);
      sound = a.sound;
      beside = still_beside old new edit l.follow.at was.inside was.beside was.sound a l.follow.found (own_follow old.committed.schema) (keys_same old.now new.now a.schema_is meta_is);
    }

pub done_name : (old new : State) (names : Names) (name : Name) (r : Result ℕ Error) → IsNaming names old → ExecutesInside 0 add_name_text (Blob name.0 ∷ Blob name.1 ∷ []) old new r → OnOk r (IsNaming (set.insert names name) new)
done_name old new names name (Ok count) was h = names_one old new names name count was h.0
done_name old new names name (Err e) was h = tt

-- the same in a database that has rows
names_more : (old new : State) (names : Names) (name : Name) (count : ℕ) → IsWorking old → AreNames (follow_rows old.now) names → Executes add_name_text (Blob name.0 ∷ Blob name.1 ∷ []) old new (Ok count) → StoresNames old new (set.insert names name)
names_more old new names name count was were h =
    let l = was.laid_out in
    let schema = old.now.schema in
    let rows = follow_rows old.now in
    let a = named old new l name count h in
    let edit = edit_of old.now.trees (follow_at schema) [] Chosen 0 ((Null ∷ Blob name.0 ∷ Blob name.1 ∷ []) ∷ []) in
    let news = news_named old.now.trees (follow_tree schema) name in
    let free : is_taken rows (new_name rows name) ≡ false = fresh_alone rows (new_name rows name) (ap (are_fresh rows) (sym news) ∙ a.step.fresh) in
    let meta_is : meta_rows new.now ≡ meta_rows old.now = same_rows old new (codes "meta") a.schema_is (stays schema l.meta.at (meta_at schema) old.now.trees new.now.trees edit l.meta.found a.step (λ same. follow_meta schema l (sym same))) in
    let held_is : held_rows new.now ≡ held_rows old.now = same_rows old new (codes "held") a.schema_is (stays schema l.held.at (held_at schema) old.now.trees new.now.trees edit l.held.found a.step (λ same. follow_held schema l (sym same))) in
    let spans_is : span_rows new.now ≡ span_rows old.now = same_rows old new (codes "spans") a.schema_is (stays schema l.spans.at (spans_at schema) old.now.trees new.now.trees edit l.spans.found a.step (λ same. follow_spans schema l (sym same))) in
    let follow_is : follow_rows new.now ≡ put_row (new_name rows name) rows = ap (λ s. new.now.trees (follow_tree s)) a.schema_is ∙ a.step.rows ∙ ap (put_all rows) news in
    record {
      working = record {
        is_open = a.shown.is_open;
        inside = a.shown.mode ∙ was.inside;
        laid_out = subst IsLaidOut (sym a.schema_is) l;
        held_apart = subst HasRowids (sym held_is) was.held_apart;
        spans_apart = subst HasRowids (sym spans_is) was.spans_apart;
        lawful = subst (AllByRecursion IsHeldRow) (sym held_is) was.lawful;
        sound = a.sound;
        beside = still_beside old new edit l.follow.at was.inside was.beside was.sound a l.follow.found (own_follow old.committed.schema) (keys_same old.now new.now a.schema_is meta_is);
      };
      schema = a.schema_is;
      committed = a.shown.committed_is ∙ ap (λ b. cond b old.committed new.now) was.inside;
      meta = meta_is;
      held = held_is;
      spans = spans_is;
      names_are = rw follow_is (named_put rows names name free were);
    }

pub done_added : (old new : State) (names : Names) (name : Name) (r : Result ℕ Error) → IsWorking old → AreNames (follow_rows old.now) names → ExecutesInside 0 add_name_text (Blob name.0 ∷ Blob name.1 ∷ []) old new r → OnOk r (StoresNames old new (set.insert names name))
done_added old new names name (Ok count) was were h = names_more old new names name count was were h.0
done_added old new names name (Err e) was were h = tt
