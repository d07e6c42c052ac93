-- What each statement on one row does, where it succeeds.
use Rattle.store.proofs.Names.{◌≡◌, ◌⊎◌, inl, inr, ℕ, ℤ, pos, Option, Some, slice_get, List, [], ◌∷◌, map, filter, Bool, true, false, cond, None, Ok, Err, Result, IfOk, OnOk, ◌++◌, length, suc, unwrap_or, refl, sym, ap, subst, ◌∙◌, AllByRecursion, list_all, IsPermutation, Value, Null, Int, Blob, Row, Trees, overlay, Term, col, eval_all, Table, Schema, Enforced, Column, Command, Insert, Update, Select, Values, Edit, edit_of, Chosen, Given, Error, Database, IsDatabase, SparesFrozen, Tally, State, Executes, IsUnchanged, runs_as, IsPlain, IsLaidOut, IsFound, IsApart, held_at, held_tree, read_text, insert_text, insert_eight_text, update_text, delete_text, has_key, has_count, spans_tree, add_span_text, drop_span_text, set_end_text, has_start, Key, is_at, has_n, begins_at, shown_span}
use Rattle.std.proofs.Common.{◌/◌}
use Rattle.sqlite_value.specs.Order.{column}
use Rattle.sqlite_sql.specs.Ops.{unary}
use Rattle.sqlite_sql.specs.Term.{holds}
use Rattle.sqlite_rules.specs.Calls.{ids_of}
use Rattle.sqlite_schema.specs.declared.schema.Kind.TheVariants.{Integer}
use Rattle.sqlite_schema.specs.declared.program.Program.{Program}
use Rattle.sqlite_schema.specs.declared.command.Command.TheVariants.{Delete}
use Rattle.sqlite_rules.specs.Cast.{cast}
use Rattle.sqlite_rules.specs.Edit.{taken_by, Applies}
use Rattle.sqlite.specs.Effect.{Answers, value_rows}
use Rattle.sqlite.specs.Rows.{Part, Task, Written}
use Rattle.sqlite.specs.declared.run.Mode.{Mode}
use Rattle.sqlite.specs.Does.{Does, OnTable, OnRows, WritesRows, AtPlace}
use Rattle.sqlite.specs.Listing.{understood}
use Rattle.sqlite.specs.State.{Writes, mode_of, Shown, Shows as Sees}
use Rattle.sqlite.proofs.Callers.{statement_of, reads_as, one_step}
use Rattle.store.specs.Layout.{keyed, among, read_query, insert_terms, insert_eight_terms, spans_at, add_span_terms}
use Rattle.store.specs.Rows.{key_of}
use Rattle.store.proofs.AnySchema.{Means, read_means, insert_means, insert_eight_means, update_means, delete_means, add_span_means, drop_span_means, set_end_means}
use Rattle.store.proofs.Selects.{key_params, key_holds, count_holds, start_holds, answers, stored_read}
use Rattle.store.proofs.Works.{no_works}

-- a new row as a statement gives it, without its rowid
abbrev pub given_row : Key → Row
given_row key = Null ∷ Blob key.schema ∷ Blob key.table ∷ Blob key.image ∷ Int (pos 1) ∷ []

-- the parameters of a statement on rows of a table
abbrev pub eight_params : List ℕ → List ℕ → List (List ℕ) → Row
eight_params schema table images = Blob schema ∷ Blob table ∷ map Blob images

-- a part that gave a value did not stop on the way
pub went : {B E R : Type 0} {b : B} {Stops : E → Type 0} → ((stop : E) × Stops stop × (Ok b ≡ Err stop)) ⊎ R → R
went (inl stopped) = absurd (let e = stopped.2 in cc)
went (inr on) = on

pub same_value : {B E : Type 0} {a b : B} → ◌≡◌ {A = Result B E} (Ok a) (Ok b) → a ≡ b
same_value e = cc

either : (b : Bool) (x : Value) → cond b x x ≡ x
either true x = refl
either false x = refl

pub cast_null : cast Integer Null ≡ Null
unfolding unary
cast_null = either _ Null

pub cast_int : (n : ℤ) → cast Integer (Int n) ≡ Int n
unfolding unary
cast_int n = either _ (Int n)

pub unchanged : (sql : List ℕ) (params : Row) (old new : State) (rows : List Row) (schema : Schema) → old.now.schema ≡ schema → IsPlain (understood schema sql) → Shown sql params old new rows → IsUnchanged old new
unfolding Shown
unchanged sql params old new rows schema has plain h =
    let known = sym h.1.is ∙ ap (λ s. understood s sql) has in
    let bare = subst IsPlain (sym known) plain in
    (rw bare.0 at h.2).3

-- What a write of one edit leaves.
pub record Applied (schema : Schema) (old new : State) (edit : Edit) : Type 0 where
  pub step : Applies schema Enforced old.now.trees edit new.now.trees
  pub schema_is : new.now.schema ≡ schema
  pub shown : Sees old new new.now (cond old.in_transaction old.committed new.now) old.in_transaction
  pub sound : IsDatabase new.now
  pub frozen : SparesFrozen old.now new.now

-- a command on a table is one on the table with this index
pub on_table : (limit : Option ℕ) (mode : Mode) (params : Row) (db : Database) (at : ℕ) (table : Table) (P : Task → Part (Tally × Database)) (out : Result (Tally × Database) (Option Error)) → slice_get db.schema.tables at ≡ Some table → OnTable limit mode params db at P out
    → P (record { limit = limit; keys = mode.keys; schema = db.schema; table = table; params = params }) out
on_table limit mode params db at table P out there h =
    subst (λ t. AtPlace (λ table. P (record { limit = limit; keys = mode.keys; schema = db.schema; table = table; params = params })) t out) there h

-- ---- A statement that writes the rows of one table of the store.

module _ (schema : Schema) (at tree : ℕ) (name : List ℕ) (columns : List Column) (key_columns : List ℕ) (checks : List Term) (found : IsFound schema at (record (keyed name columns key_columns checks) { tree = tree }))
    (sql : List ℕ) (params : Row) (old new : State) (has : old.now.schema ≡ schema) (count : ℕ) (h : Executes sql params old new (Ok count)) where
  abbrev table : Table
  table = record (keyed name columns key_columns checks) { tree = tree }

  abbrev db : Trees
  db = old.now.trees

  -- what a command makes of the database, under the schema
  abbrev Makes : Command → Type 0
  Makes command = Writes old new None command (statement_of sql (understood schema sql)) params count

  changed_by : (command : Command) (w : Makes command) → Does old.step_limit (mode_of old) params (record old.now { schema = schema }) (statement_of sql (understood schema sql)) None command (Ok (w.tally, new.now))
  changed_by command w = subst (λ s. Does old.step_limit (mode_of old) params (record old.now { schema = s }) (statement_of sql (understood schema sql)) None command (Ok (w.tally, new.now))) has w.changed

  on_rows : (command : Command) (w : Makes command) → OnTable old.step_limit (mode_of old) params (record old.now { schema = schema }) at (λ task. OnRows task (mode_of old) None command db) (Ok (w.tally, new.now))
      → (it : Written) × WritesRows (record { limit = old.step_limit; keys = Enforced; schema = schema; table = table; params = params }) db command (Ok it)
      × ((new.now ≡ record { schema = schema; trees = it.trees }) × (w.tally.rows ≡ Some (length it.rows)))
  on_rows command w out =
      let done = went (on_table old.step_limit (mode_of old) params (record old.now { schema = schema }) at table (λ task. OnRows task (mode_of old) None command db) (Ok (w.tally, new.now)) found.by_index out) in
      let end = same_value (went (went done.2).2).2 in
      (done.0, done.1, (ap (λ (p : Tally × Database). p.1) end, ap (λ (p : Tally × Database). p.0.rows) end))

  applied : (command : Command) (w : Makes command) (edit : Edit) (trees next : Trees) → new.now ≡ record { schema = schema; trees = trees } → trees ≡ next → Applies schema Enforced db edit next → Applied schema old new edit
  applied command w edit trees next now same step = record {
    step = subst (Applies schema Enforced db edit) (sym (ap (λ (d : Database). d.trees) now ∙ same)) step;
    schema_is = ap (λ (d : Database). d.schema) now;
    shown = w.shown;
    sound = w.sound;
    frozen = w.frozen;
  }

  -- INSERT of rows that the text has
  pub puts : (terms : List Term) (width : ℕ) → Means schema sql (Insert at (Values terms width)) → Applied schema old new (edit_of db table [] Chosen 0 (value_rows (params ++ []) width (length terms / width) terms))
  puts terms width m =
      let command = Insert at (Values terms width) in
      let w = runs_as sql params old new schema has command m.is m.plain count h in
      let done = on_rows command w (changed_by command w) in
      let given = went done.1 in
      let put = went (went given.2).2 in
      let counted = went put.2 in
      let edit = edit_of db table [] Chosen 0 given.0 in
      subst (λ rows. Applied schema old new (edit_of db table [] Chosen 0 rows)) given.1.1
      (applied command w edit done.0.trees put.0 done.2.0 (ap (λ (it : Written). it.trees) (same_value counted.2) ∙ same_value counted.1) (one_step schema _ db put.0 edit (no_works schema tree [] edit.news (inl refl)) put.1))

  -- DELETE and UPDATE of the rows that pass the tests, to which no table refers
  module _ (free : AllByRecursion (IsApart schema tree) schema.tables) (tests shown : List Term) (p : Row → Bool) (says : (row : Row) → list_all (holds (params ∷ row ∷ [])) tests ≡ p row) where
    abbrev program : Program
    program = record { lets = []; body = among tree tests shown }

    abbrev Shows : List Row → Type 0
    Shows rows = IsPermutation (map (λ r. eval_all shown (params ∷ r ∷ [])) (filter p (db tree))) rows

    of_answer : (rows : List Row) → Answers (record { schema = schema; trees = db }) program params rows → Shows rows
    of_answer rows a = answers tests params p says tree shown (overlay db []) Null rows (db tree) (stored_read db tree found.stored) (a.answer Null)

    pub removes : Means schema sql (Delete at program) → (rows : List Row) × Shows rows × Applied schema old new (edit_of db table (ids_of rows) Given 0 []) × (count ≡ length rows)
    removes m =
        let command = Delete at program in
        let w = runs_as sql params old new schema has command m.is m.plain count h in
        let done = on_rows command w (changed_by command w) in
        let queried = went done.1 in
        let put = went queried.2 in
        let edit = edit_of db table (ids_of queried.0) Given 0 [] in (
          queried.0,
          of_answer queried.0 queried.1,
          applied command w edit done.0.trees put.0 done.2.0 (ap (λ (it : Written). it.trees) (same_value put.2)) (one_step schema _ db put.0 edit (no_works schema tree (taken_by db edit) edit.news (inr free)) put.1),
          w.counted ∙ ap (λ n. unwrap_or n 0) done.2.1 ∙ ap (λ (it : Written). length it.rows) (same_value put.2) ∙ as_many queried.0,
        )
      where
        as_many : (rows : List Row) → length (taken_by db (edit_of db table (ids_of rows) Given 0 [])) ≡ length rows
        as_many [] = refl
        as_many (r ∷ rows) = ap suc (as_many rows)

    pub changes : Means schema sql (Update at program) → (rows : List Row) × Shows rows × Applied schema old new (edit_of db table (ids_of rows) Given 1 rows)
    changes m =
        let command = Update at program in
        let w = runs_as sql params old new schema has command m.is m.plain count h in
        let done = on_rows command w (changed_by command w) in
        let queried = went done.1 in
        let put = went queried.2 in
        let edit = edit_of db table (ids_of queried.0) Given 1 queried.0 in (
          queried.0,
          of_answer queried.0 queried.1,
          applied command w edit done.0.trees put.0 done.2.0 (ap (λ (it : Written). it.trees) (same_value put.2)) (one_step schema _ db put.0 edit (no_works schema tree (taken_by db edit) edit.news (inr free)) put.1),
        )

module _ (schema : Schema) (l : IsLaidOut schema) where
  abbrev held_found : IsFound schema l.held.at (held_at schema)
  held_found = l.held.found

  abbrev spans_found : IsFound schema l.spans.at (spans_at schema)
  spans_found = l.spans.found

  pub reads : (old new : State) (key : Key) (rows : List Row) → old.now.schema ≡ schema → Shown read_text (key_params key []) old new rows
      → IsPermutation (map (λ r. column r 4 ∷ []) (filter (is_at key) (old.now.trees (held_tree schema)))) rows
  reads old new key rows has h =
      let it = read_means schema l.held.at (held_tree schema) held_found in
      let got = reads_as read_text (key_params key []) old new schema has (Select (record { lets = []; body = read_query (held_tree schema) }) _) it.is it.plain it.elsewhere rows h in
      answers has_key (key_params key []) (is_at key) (key_holds key []) (held_tree schema) (col 1 4 ∷ []) (overlay old.now.trees []) Null rows (old.now.trees (held_tree schema)) (stored_read old.now.trees (held_tree schema) held_found.stored) (got.answer Null)

  pub shown_reads : {X : Type 0} (items : X → List Row) (r : Result X Error) (old new : State) (key : Key) → old.now.schema ≡ schema → IfOk r (λ x. Shown read_text (key_params key []) old new (items x))
      → IfOk r (λ x. IsPermutation (map (λ r. column r 4 ∷ []) (filter (is_at key) (old.now.trees (held_tree schema)))) (items x))
  shown_reads items (Ok x) old new key has h = reads old new key (items x) has h
  shown_reads items (Err e) old new key has h = h

  pub shown_same : {X : Type 0} (items : X → List Row) (r : Result X Error) (old new : State) (key : Key) → old.now.schema ≡ schema → IfOk r (λ x. Shown read_text (key_params key []) old new (items x))
      → OnOk r (IsUnchanged old new)
  shown_same items (Ok x) old new key has h = unchanged read_text (key_params key []) old new (items x) schema has (read_means schema l.held.at (held_tree schema) held_found).plain h
  shown_same items (Err e) old new key has h = h

  module _ (old new : State) (has : old.now.schema ≡ schema) where
    pub inserts : (key : Key) (count : ℕ) → Executes insert_text (key_params key []) old new (Ok count) → Applied schema old new (edit_of old.now.trees (held_at schema) [] Chosen 0 (map given_row (key ∷ [])))
    inserts key count h =
        puts schema l.held.at (held_tree schema) _ _ _ _ held_found insert_text (key_params key []) old new has count h insert_terms 5
        (insert_means schema l.held.at (held_tree schema) held_found)

    pub inserts_eight : (s t b c d e f g i j : List ℕ) (count : ℕ) → Executes insert_eight_text (eight_params s t (b ∷ c ∷ d ∷ e ∷ f ∷ g ∷ i ∷ j ∷ [])) old new (Ok count)
        → Applied schema old new (edit_of old.now.trees (held_at schema) [] Chosen 0 (map given_row (map (key_of s t) (b ∷ c ∷ d ∷ e ∷ f ∷ g ∷ i ∷ j ∷ []))))
    inserts_eight s t b c d e f g i j count h =
        puts schema l.held.at (held_tree schema) _ _ _ _ held_found insert_eight_text (eight_params s t (b ∷ c ∷ d ∷ e ∷ f ∷ g ∷ i ∷ j ∷ [])) old new has count h insert_eight_terms 5
        (insert_eight_means schema l.held.at (held_tree schema) held_found)

    pub adds_span : (source : List ℕ) (lo hi : ℤ) (count : ℕ) → Executes add_span_text (Blob source ∷ Int lo ∷ Int hi ∷ []) old new (Ok count)
        → Applied schema old new (edit_of old.now.trees (spans_at schema) [] Chosen 0 ((Null ∷ Blob source ∷ Int lo ∷ Int hi ∷ []) ∷ []))
    adds_span source lo hi count h =
        puts schema l.spans.at (spans_tree schema) _ _ _ _ spans_found add_span_text (Blob source ∷ Int lo ∷ Int hi ∷ []) old new has count h
        add_span_terms 4 (add_span_means schema l.spans.at (spans_tree schema) spans_found)

    module _ (free : AllByRecursion (IsApart schema (spans_tree schema)) schema.tables) where
      pub drops_span : (source : List ℕ) (lo : ℤ) (count : ℕ) → Executes drop_span_text (Blob source ∷ Int lo ∷ []) old new (Ok count)
          → (rows : List Row) × IsPermutation (map (λ r. column r 0 ∷ []) (filter (λ r. begins_at source lo (shown_span r)) (old.now.trees (spans_tree schema)))) rows
          × Applied schema old new (edit_of old.now.trees (spans_at schema) (ids_of rows) Given 0 [])
      drops_span source lo count h =
          let it = removes schema l.spans.at (spans_tree schema) _ _ _ _ spans_found drop_span_text (Blob source ∷ Int lo ∷ []) old new has count h
          free has_start (col 1 0 ∷ []) (λ r. begins_at source lo (shown_span r)) (start_holds source lo []) (drop_span_means schema l.spans.at (spans_tree schema) spans_found) in
          (it.0, it.1, it.2)

      pub sets_end : (source : List ℕ) (lo hi : ℤ) (count : ℕ) → Executes set_end_text (Blob source ∷ Int lo ∷ Int hi ∷ []) old new (Ok count)
          → (rows : List Row) × IsPermutation (map (λ r. column r 0 ∷ column r 0 ∷ column r 1 ∷ column r 2 ∷ Int hi ∷ []) (filter (λ r. begins_at source lo (shown_span r)) (old.now.trees (spans_tree schema)))) rows
          × Applied schema old new (edit_of old.now.trees (spans_at schema) (ids_of rows) Given 1 rows)
      sets_end source lo hi count h =
          changes schema l.spans.at (spans_tree schema) _ _ _ _ spans_found set_end_text (Blob source ∷ Int lo ∷ Int hi ∷ []) old new has count h
          free has_start (col 1 0 ∷ col 1 0 ∷ col 1 1 ∷ col 1 2 ∷ col 0 2 ∷ []) (λ r. begins_at source lo (shown_span r)) (start_holds source lo (Int hi ∷ [])) (set_end_means schema l.spans.at (spans_tree schema) spans_found)

    module _ (free : AllByRecursion (IsApart schema (held_tree schema)) schema.tables) where
      pub deletes : (key : Key) (n : ℤ) (count : ℕ) → Executes delete_text (key_params key (Int n ∷ [])) old new (Ok count)
          → (rows : List Row) × IsPermutation (map (λ r. column r 0 ∷ []) (filter (has_n key n) (old.now.trees (held_tree schema)))) rows
          × Applied schema old new (edit_of old.now.trees (held_at schema) (ids_of rows) Given 0 []) × (count ≡ length rows)
      deletes key n count h =
          removes schema l.held.at (held_tree schema) _ _ _ _ held_found delete_text (key_params key (Int n ∷ [])) old new has count h
          free has_count (col 1 0 ∷ []) (has_n key n) (count_holds key n) (delete_means schema l.held.at (held_tree schema) held_found)

      pub updates : (key : Key) (n : ℤ) (count : ℕ) → Executes update_text (key_params key (Int n ∷ [])) old new (Ok count)
          → (rows : List Row) × IsPermutation (map (λ r. column r 0 ∷ column r 0 ∷ column r 1 ∷ column r 2 ∷ column r 3 ∷ Int n ∷ []) (filter (is_at key) (old.now.trees (held_tree schema)))) rows
          × Applied schema old new (edit_of old.now.trees (held_at schema) (ids_of rows) Given 1 rows)
      updates key n count h =
          changes schema l.held.at (held_tree schema) _ _ _ _ held_found update_text (key_params key (Int n ∷ [])) old new has count h
          free has_key (col 1 0 ∷ col 1 0 ∷ col 1 1 ∷ col 1 2 ∷ col 1 3 ∷ col 0 3 ∷ []) (is_at key) (key_holds key (Int n ∷ [])) (update_means schema l.held.at (held_tree schema) held_found)
