-- What the texts mean that ask for whole tables, in any schema in which the table's name finds it.
use Rattle.store.proofs.Names.{◌≡◌, ◌<◌, inl, inr, ℕ, zero, suc, slice_get, Bool, false, true, List, [], ◌∷◌, map, length, codes, Ok, Some, None, refl, ap, ◌∙◌, arith, AllByRecursion, Binary, Term, col, Table, Column, Schema, Select, Core, Parsed, Carried, Output, nothing, max_budget, Name, Context, meta, held, spans, follow, AsksAll, all_meta_text, all_held_text, listed_text, IsFound}
use Rattle.sqlite_rules.specs.Lists.{Has}
use Rattle.sqlite_value.specs.Keys.{ascending}
use Rattle.sqlite_schema.specs.declared.schema.Kind.TheVariants.{Any}
use Rattle.sqlite_schema.specs.Names.{same_name}
use Rattle.sqlite_ast.specs.declared.Core.{roll-Core, out-Core}
use Rattle.sqlite_ast.specs.declared.Select as select
use Rattle.sqlite_ast.specs.declared.Statement.TheVariants as written
use Rattle.sqlite_resolve.specs.Lowering.{alone}
use Rattle.sqlite_schema.specs.Names.{column_named, place_of}
use Rattle.sqlite_typing.specs.Types.{row_classes, are_typed}
use Rattle.sqlite_sql.specs.Term.{reads_below}
use Rattle.sqlite_value.specs.declared.keys.Key.{Key}
use Rattle.sqlite_resolve.specs.declared.state.State.{State}
use Rattle.sqlite_resolve.specs.Scope.{is_rowid, alias_of, declared}
use Rattle.sqlite_resolve.specs.Program.{query}
use Rattle.sqlite_resolve.specs.Compile.{first}
use Rattle.sqlite_tied.specs.Compute.{everything}
use Rattle.store.specs.Layout.{required, executed}
use Rattle.store.specs.Load.{IsFilled, columns_from, whole, all_spans_text, all_follow_text, all_executed_text}
use Rattle.store.proofs.AnySchema.{Means, means}
use Rattle.store.proofs.Compiler.{only_over, only_bound, after_reading, less, carried_last, with_keys, stands_for_column, stands_for_rowid, Field, IsField, written_columns, written_order, with_outputs, outputs_are, keys_are, no_tests, from_table, IsOver, IsOrdered, drafted, program_is, query_is, compiled_select}

-- ---- The texts as they are written.

abbrev core_of : Name → List Name → Core
core_of table columns = roll-Core (record { distinct = false; shown = written_columns columns; from = from_table table ∷ []; filter = None; group = []; having = None })

abbrev select_of : Name → List Name → List Name → select.Select
select_of table columns by = select.roll-Select (record { with = []; first = core_of table columns; others = []; order = written_order by; limit = None; offset = None })

-- SELECT columns FROM table ORDER BY by, in a text of this length
abbrev parsed_of : Name → List Name → List Name → ℕ → Parsed
parsed_of table columns by len = record { statement = written.Select (select_of table columns by); names = []; formats = []; start = 0; end = len; tail = len }

abbrev meta_columns : List Name
meta_columns = codes "rowid" ∷ codes "k" ∷ codes "v" ∷ []

abbrev held_columns : List Name
held_columns = codes "rowid" ∷ codes "schema_name" ∷ codes "table_name" ∷ codes "image" ∷ codes "n" ∷ []

abbrev spans_columns : List Name
spans_columns = codes "rowid" ∷ codes "source" ∷ codes "lo" ∷ codes "hi" ∷ []

abbrev follow_columns : List Name
follow_columns = codes "rowid" ∷ codes "schema_name" ∷ codes "table_name" ∷ []

abbrev executed_columns : List Name
executed_columns = codes "rowid" ∷ codes "source" ∷ codes "number" ∷ []

abbrev by_rowid : List Name
by_rowid = codes "rowid" ∷ []

abbrev by_key : List Name
by_key = codes "schema_name" ∷ codes "table_name" ∷ codes "image" ∷ []

-- The text is this SELECT.
pub record Reads (text : List ℕ) (table : Name) (columns by : List Name) (len : ℕ) : Type 0 where
  pub parses : first text ≡ Ok (parsed_of table columns by len)
  over : IsOver (core_of table columns) table (written_columns columns) None
  ordered : IsOrdered (select_of table columns by) (core_of table columns) (written_order by)

-- It is, if it is parsed so: the parts of the statement compute where it is written out.
module _ (text : List ℕ) (table : Name) (columns by : List Name) (len : ℕ) where
  read_as : first text ≡ Ok (parsed_of table columns by len)
      → out-Core (core_of table columns) ≡ record { distinct = false; shown = written_columns columns; from = from_table table ∷ []; filter = None; group = []; having = None }
      → select.out-Select (select_of table columns by) ≡ record { with = []; first = core_of table columns; others = []; order = written_order by; limit = None; offset = None } → Reads text table columns by len
  read_as parses core parts = record {
    parses = parses;
    over = record { shown = rw core refl; from = rw core refl; filter = rw core refl; distinct = rw core refl; group = rw core refl; having = rw core refl };
    ordered = record { with = rw parts refl; first = rw parts refl; others = rw parts refl; order = rw parts refl; limit = rw parts refl; offset = rw parts refl };
  }

pub reads_meta : Reads all_meta_text (codes "meta") meta_columns by_rowid 43
unfolding everything
reads_meta = read_as all_meta_text (codes "meta") meta_columns by_rowid 43 refl refl refl

pub reads_executed : Reads all_executed_text (codes "executed") executed_columns by_rowid 57
unfolding everything
reads_executed = read_as all_executed_text (codes "executed") executed_columns by_rowid 57 refl refl refl

pub reads_held : Reads all_held_text (codes "held") held_columns by_rowid 72
unfolding everything
reads_held = read_as all_held_text (codes "held") held_columns by_rowid 72 refl refl refl

pub reads_spans : Reads all_spans_text (codes "spans") spans_columns by_rowid 54
unfolding everything
reads_spans = read_as all_spans_text (codes "spans") spans_columns by_rowid 54 refl refl refl

pub reads_follow : Reads all_follow_text (codes "follow") follow_columns by_rowid 64
unfolding everything
reads_follow = read_as all_follow_text (codes "follow") follow_columns by_rowid 64 refl refl refl

reads_listed : Reads listed_text (codes "held") held_columns by_key 97
unfolding everything
reads_listed = read_as listed_text (codes "held") held_columns by_key 97 refl refl refl

-- ---- A table and its columns.

pub has_index : (tables : List Table) (at : ℕ) (table : Table) → slice_get tables at ≡ Some table → Has tables table
has_index [] at table h = absurd (cc)
has_index (t ∷ tables) zero table h = inl (let e = h in cc)
has_index (t ∷ tables) (suc at) table h = inr (has_index tables at table h)

abbrev rowid_field : Field
rowid_field = record { name = codes "rowid"; term = col 1 0; carried = nothing; label = codes "rowid" }

abbrev column_field : Table → ℕ → Column → Field
column_field table k c = record { name = c.name; term = col 1 (place_of table k); carried = declared table k c; label = c.name }

abbrev fields_from : Table → ℕ → List Column → List Field
fields_from table k [] = []
fields_from table k (c ∷ cs) = column_field table k c ∷ fields_from table (suc k) cs

abbrev fields_of : Table → List Field
fields_of table = rowid_field ∷ fields_from table 0 table.columns

-- Each of these columns is found by its name, and by its place from this one on.
abbrev AreColumns : Table → ℕ → List Column → Type 0
AreColumns table k [] = Unit {0}
AreColumns table k (c ∷ cs) = ((column_named table c.name ≡ Some k) × (slice_get table.columns k ≡ Some c)) × AreColumns table (suc k) cs

-- A table without a column for its rowid, whose columns have different names.
record IsListed (table : Table) : Type 0 where
  columns : AreColumns table 0 table.columns
  no_rowid : column_named table (codes "rowid") ≡ None
  no_key : table.key ≡ None

meta_listed : (tree : ℕ) → IsListed (record meta { tree = tree })
unfolding same_name
meta_listed tree = record { columns = ((refl, refl), ((refl, refl), tt)); no_rowid = refl; no_key = refl }

executed_listed : (tree : ℕ) → IsListed (record executed { tree = tree })
unfolding same_name
executed_listed tree = record { columns = ((refl, refl), ((refl, refl), tt)); no_rowid = refl; no_key = refl }

held_listed : (tree : ℕ) → IsListed (record held { tree = tree })
unfolding same_name
held_listed tree = record { columns = ((refl, refl), ((refl, refl), ((refl, refl), ((refl, refl), tt)))); no_rowid = refl; no_key = refl }

spans_listed : (tree : ℕ) → IsListed (record spans { tree = tree })
unfolding same_name
spans_listed tree = record { columns = ((refl, refl), ((refl, refl), ((refl, refl), tt))); no_rowid = refl; no_key = refl }

follow_listed : (tree : ℕ) → IsListed (record follow { tree = tree })
unfolding same_name
follow_listed tree = record { columns = ((refl, refl), ((refl, refl), tt)); no_rowid = refl; no_key = refl }

names_rowid : is_rowid (codes "rowid") ≡ true
unfolding is_rowid same_name
names_rowid = refl

module _ (schema : Schema) (at : ℕ) (table : Table) (f : IsFound schema at table) (l : IsListed table) where
  module _ (shown : List Output) (may_aggregate : Bool) where
    abbrev over_table : Context
    over_table = only_over schema table.name at shown may_aggregate

    rowid_stands : IsField over_table rowid_field
    rowid_stands = stands_for_rowid schema at table f.by_index table.name shown may_aggregate (codes "rowid") names_rowid l.no_rowid f.stored l.no_key

    columns_stand : (k : ℕ) (cs : List Column) → AreColumns table k cs → AllByRecursion (IsField over_table) (fields_from table k cs)
    columns_stand k [] are = tt
    columns_stand k (c ∷ cs) are = (stands_for_column schema at table f.by_index table.name shown may_aggregate c.name k c are.0.0 are.0.1, columns_stand (suc k) cs are.1)

    fields_stand : AllByRecursion (IsField over_table) (fields_of table)
    fields_stand = (rowid_stands, columns_stand 0 table.columns l.columns)

  abbrev shown_all : List Output
  shown_all = with_outputs [] (fields_of table)

  -- The text, the columns that its rows are ordered by, and how much of the budget the compiler has left after each list.
  module _ (text : List ℕ) (len : ℕ) (by : List Field) (rest last_budget : ℕ) (carried last : Carried)
      (reads : Reads text table.name (map (λ (x : Field). x.name) (fields_of table)) (map (λ (x : Field). x.name) by) len)
      (by_stand : AllByRecursion (IsField (over_table shown_all false)) by) (by_inside : AllByRecursion (λ x. (alias_of x.name shown_all ≡ None) × (reads_below 1 x.term ≡ false)) by)
      (enough : length (fields_of table) < max_budget) (left : length by < rest)
      (rest_is : after_reading 2 (less (length (fields_of table)) max_budget) (carried_last nothing (fields_of table)) ≡ after_reading 2 rest carried)
      (last_is : after_reading 2 (less (length by) rest) (carried_last carried by) ≡ after_reading 2 last_budget last)
      (terms_are : map (λ o. o.term) shown_all ≡ columns_from 0 (suc (length table.columns)))
      (project_fits : are_typed [] (row_classes table ∷ []) (columns_from 0 (suc (length table.columns))) ≡ true)
      (order_fits : are_typed [] (row_classes table ∷ []) (map (λ (k : Term × Key). k.0) (with_keys [] by)) ≡ true)
      (filled : IsFilled table.columns) where
    abbrev labels : List Name
    labels = map (λ o. o.name) shown_all

    abbrev reading_all : State
    reading_all = after_reading 2 rest carried

    whole_query : query schema (select_of table.name (map (λ (x : Field). x.name) (fields_of table)) (map (λ (x : Field). x.name) by))
        ≡ Ok ((drafted table.tree [] (columns_from 0 (suc (length table.columns))) (with_keys [] by), labels, map (λ o. o.carried.collation) shown_all), [])
    whole_query = query_is schema table.name at table f.by_name f.by_index _ _ None reads.over shown_all [] _ (with_keys [] by) reading_all rest last_budget carried last
        (outputs_are (over_table [] true) (only_bound table.name at ∷ []) (fields_of table) (fields_stand [] true) 2 max_budget nothing enough ∙ ap (λ s. Ok (shown_all, s)) rest_is)
        (no_tests (over_table shown_all false) reading_all)
        (keys_are (over_table shown_all false) shown_all by by_stand by_inside 2 rest carried left ∙ ap (λ s. Ok (with_keys [] by, s)) last_is) _ reads.ordered
        ∙ ap (λ ts. Ok ((drafted table.tree [] ts (with_keys [] by), labels, map (λ o. o.carried.collation) shown_all), [])) terms_are

    whole_means : Means schema text (Select (record { lets = []; body = whole table.tree (suc (length table.columns)) (with_keys [] by) }) labels)
    whole_means = means schema text (parsed_of table.name (map (λ (x : Field). x.name) (fields_of table)) (map (λ (x : Field). x.name) by) len) _ (compiled_select schema text _ reads.parses refl _ _ labels (map (λ o. o.carried.collation) shown_all) (whole table.tree (suc (length table.columns)) (with_keys [] by)) refl whole_query
        (program_is schema at table f [] (columns_from 0 (suc (length table.columns))) (with_keys [] by) refl project_fits order_fits))

    whole_asks : AsksAll schema text table.tree
    whole_asks = record {
      table = table;
      there = has_index schema.tables at table f.by_index;
      tree_is = refl;
      rowid_apart = l.no_key;
      filled = filled;
      order = with_keys [] by;
      names = labels;
      is = whole_means.is;
      plain = whole_means.plain;
      elsewhere = whole_means.elsewhere;
    }

    whole_order : whole_asks.order ≡ with_keys [] by
    unfolding whole_asks
    whole_order = refl

-- ---- The tables of the store.

pub all_meta_asks : (schema : Schema) (at tree : ℕ) → IsFound schema at (record meta { tree = tree }) → AsksAll schema all_meta_text tree
all_meta_asks schema at tree f =
    let t : Table = record meta { tree = tree } in
    let l = meta_listed tree in
    whole_asks schema at t f l all_meta_text 43 (rowid_field ∷ []) 99997 99996 _ nothing reads_meta (rowid_stands schema at t f l _ false, tt) ((refl, refl), tt) (omega arith) (omega arith) refl refl refl refl refl refl

pub all_executed_asks : (schema : Schema) (at tree : ℕ) → IsFound schema at (record executed { tree = tree }) → AsksAll schema all_executed_text tree
all_executed_asks schema at tree f =
    let t : Table = record executed { tree = tree } in
    let l = executed_listed tree in
    whole_asks schema at t f l all_executed_text 57 (rowid_field ∷ []) 99997 99996 _ nothing reads_executed (rowid_stands schema at t f l _ false, tt) ((refl, refl), tt) (omega arith) (omega arith) refl refl refl refl refl refl

pub all_held_asks : (schema : Schema) (at tree : ℕ) → IsFound schema at (record held { tree = tree }) → AsksAll schema all_held_text tree
all_held_asks schema at tree f =
    let t : Table = record held { tree = tree } in
    let l = held_listed tree in
    whole_asks schema at t f l all_held_text 72 (rowid_field ∷ []) 99995 99994 _ nothing reads_held (rowid_stands schema at t f l _ false, tt) ((refl, refl), tt) (omega arith) (omega arith) refl refl refl refl refl refl

pub all_spans_asks : (schema : Schema) (at tree : ℕ) → IsFound schema at (record spans { tree = tree }) → AsksAll schema all_spans_text tree
all_spans_asks schema at tree f =
    let t : Table = record spans { tree = tree } in
    let l = spans_listed tree in
    whole_asks schema at t f l all_spans_text 54 (rowid_field ∷ []) 99996 99995 _ nothing reads_spans (rowid_stands schema at t f l _ false, tt) ((refl, refl), tt) (omega arith) (omega arith) refl refl refl refl refl refl

pub all_follow_asks : (schema : Schema) (at tree : ℕ) → IsFound schema at (record follow { tree = tree }) → AsksAll schema all_follow_text tree
all_follow_asks schema at tree f =
    let t : Table = record follow { tree = tree } in
    let l = follow_listed tree in
    whole_asks schema at t f l all_follow_text 64 (rowid_field ∷ []) 99997 99996 _ nothing reads_follow (rowid_stands schema at t f l _ false, tt) ((refl, refl), tt) (omega arith) (omega arith) refl refl refl refl refl refl

module _ (schema : Schema) (at tree : ℕ) (f : IsFound schema at (record held { tree = tree })) where
  abbrev held_table : Table
  held_table = record held { tree = tree }

  abbrev key_fields : List Field
  key_fields = column_field held_table 0 (required (codes "schema_name") Any) ∷ column_field held_table 1 (required (codes "table_name") Any) ∷ column_field held_table 2 (required (codes "image") Any) ∷ []

  key_stands : AllByRecursion (IsField (only_over schema (codes "held") at (shown_all schema at held_table f (held_listed tree)) false)) key_fields
  key_stands =
      let all = columns_stand schema at held_table f (held_listed tree) (shown_all schema at held_table f (held_listed tree)) false 0 held_table.columns (held_listed tree).columns in
      (all.0, (all.1.0, (all.1.1.0, tt)))

  pub listed_asks : AsksAll schema listed_text tree
  listed_asks = whole_asks schema at held_table f (held_listed tree) listed_text 97 key_fields 99995 99992 _ _ reads_listed key_stands ((refl, refl), ((refl, refl), ((refl, refl), tt))) (omega arith) (omega arith) refl refl refl refl refl refl

  pub listed_by_key : listed_asks.order ≡ (col 1 1, ascending Binary) ∷ (col 1 2, ascending Binary) ∷ (col 1 3, ascending Binary) ∷ []
  unfolding listed_asks alone
  listed_by_key = whole_order schema at held_table f (held_listed tree) listed_text 97 key_fields 99995 99992 _ _ reads_listed key_stands ((refl, refl), ((refl, refl), ((refl, refl), tt))) (omega arith) (omega arith) refl refl refl refl refl refl
