-- What the statements mean, in any schema in which the table's name finds it.
use Rattle.store.proofs.Names.{◌≡◌, ◌<◌, ℕ, Bool, false, true, List, [], ◌∷◌, codes, Ok, Some, None, refl, ap, arith, Binary, Compare, Eq, Term, col, op2, Table, Schema, Select, Insert, Update, Values, Expr, Core, Parsed, Carried, Output, Command, nothing, max_budget, Name, Context, lower, with_command, IsPlain, command_of, held, spans, read_text, insert_text, insert_eight_text, update_text, delete_text, add_span_text, drop_span_text, set_end_text, has_key, has_count, has_start, IsFound}
use Rattle.sqlite_sql.specs.declared.ops.UnaryOp.TheVariants.{ToNumeric}
use Rattle.sqlite_sql.specs.Term.{op1}
use Rattle.sqlite_schema.specs.declared.schema.Kind.TheVariants.{Integer, Any}
use Rattle.sqlite_schema.specs.declared.command.Command.TheVariants.{Delete}
use Rattle.sqlite_schema.specs.Names.{same_name}
use Rattle.sqlite_ast.specs.declared.Expr.TheVariants as e
use Rattle.sqlite_ast.specs.declared.Binary.TheVariants.{And}
use Rattle.sqlite_ast.specs.declared.Core.{roll-Core}
use Rattle.sqlite_ast.specs.declared.Select as select
use Rattle.sqlite_ast.specs.declared.Rows.TheVariants as rows
use Rattle.sqlite_ast.specs.declared.Conflict.TheVariants.{Abort}
use Rattle.sqlite_ast.specs.declared.Statement.TheVariants as written
use Rattle.sqlite_resolve.specs.declared.write.NewRows.TheVariants as new
use Rattle.sqlite_resolve.specs.Scope.{declared}
use Rattle.sqlite_resolve.specs.Compare.{converted, may_be_text, is_parameter}
use Rattle.sqlite_resolve.specs.Body.{tests}
use Rattle.sqlite_resolve.specs.Order.{sorts}
use Rattle.sqlite_resolve.specs.Program.{query}
use Rattle.sqlite_resolve.specs.Write.{inserted, assigned, row}
use Rattle.sqlite_resolve.specs.Compile.{first, compiled}
use Rattle.sqlite_tied.specs.Compute.{everything}
use Rattle.sqlite.specs.Listing.{understood, reads_listing}
use Rattle.store.specs.Layout.{required, equals, read_query, delete_query, update_query, insert_terms, insert_eight_terms, add_span_terms, drop_span_query, set_end_query}
use Rattle.store.proofs.Compiler.{written_trees, only_over, only_bound, after_reading, less, stands_for_column, Compares, compares, is_given, Field, IsField, written_columns, with_outputs, outputs_are, tests_are, lowered_both, lowered_all, lowered_four, from_table, IsOver, IsOrdered, drafted, program_is, query_is, compiled_select, compiled_insert, compiled_update, compiled_delete, understood_as}

-- What a text means under the schema: this command, whose rows are no answer, and no query on sqlite_schema.
pub record Means (schema : Schema) (text : List ℕ) (c : Command) : Type 0 where
  pub is : command_of (understood schema text) ≡ c
  pub plain : IsPlain (understood schema text)
  pub elsewhere : reads_listing schema text ≡ false

pub means : (schema : Schema) (text : List ℕ) (p : Parsed) (c : Command) → compiled schema text ≡ Ok (with_command p ([], (c, None))) → Means schema text c
means schema text p c is = let it = understood_as schema text (with_command p ([], (c, None))) is in record { is = ap command_of it.0; plain = rw it.0 (refl, refl); elsewhere = it.1 }

-- ---- The texts as they are written.

abbrev names_of_three : List (List ℕ)
names_of_three = codes "?1" ∷ codes "?2" ∷ codes "?3" ∷ []

abbrev key_test : Expr
key_test = e.Binary And (e.Binary And (is_given (codes "schema_name") 1) (is_given (codes "table_name") 2)) (is_given (codes "image") 3)

abbrev count_test : Expr
count_test = e.Binary And key_test (is_given (codes "n") 4)

abbrev start_test : Expr
start_test = e.Binary And (is_given (codes "source") 1) (is_given (codes "lo") 2)

abbrev read_core : Core
read_core = roll-Core (record { distinct = false; shown = written_columns (codes "n" ∷ []); from = from_table (codes "held") ∷ []; filter = Some key_test; group = []; having = None })

abbrev read_select : select.Select
read_select = select.roll-Select (record { with = []; first = read_core; others = []; order = []; limit = None; offset = None })

abbrev read_parsed : Parsed
read_parsed = record { statement = written.Select read_select; names = names_of_three; formats = []; start = 0; end = 76; tail = 76 }

read_parses : first read_text ≡ Ok read_parsed
unfolding everything
read_parses = refl

read_over : IsOver read_core (codes "held") (written_columns (codes "n" ∷ [])) (Some key_test)
unfolding written_trees
read_over = record { shown = refl; from = refl; filter = refl; distinct = refl; group = refl; having = refl }

read_ordered : IsOrdered read_select read_core []
unfolding written_trees
read_ordered = record { with = refl; first = refl; others = refl; order = refl; limit = refl; offset = refl }

abbrev inserted_row : ℕ → List Expr
inserted_row image = e.Parameter 1 ∷ e.Parameter 2 ∷ e.Parameter image ∷ e.Integer (codes "1") ∷ []

abbrev insert_parsed : Parsed
insert_parsed = record { statement = written.Insert Abort (codes "held") [] (rows.Values (inserted_row 3 ∷ [])) [] []; names = names_of_three; formats = []; start = 0; end = 39; tail = 39 }

insert_parses : first insert_text ≡ Ok insert_parsed
unfolding everything
insert_parses = refl

abbrev eight_rows : List (List Expr)
eight_rows = inserted_row 3 ∷ inserted_row 4 ∷ inserted_row 5 ∷ inserted_row 6 ∷ inserted_row 7 ∷ inserted_row 8 ∷ inserted_row 9 ∷ inserted_row 10 ∷ []

abbrev names_of_ten : List (List ℕ)
names_of_ten = codes "?1" ∷ codes "?2" ∷ codes "?3" ∷ codes "?4" ∷ codes "?5" ∷ codes "?6" ∷ codes "?7" ∷ codes "?8" ∷ codes "?9" ∷ codes "?10" ∷ []

abbrev insert_eight_parsed : Parsed
insert_eight_parsed = record { statement = written.Insert Abort (codes "held") [] (rows.Values eight_rows) [] []; names = names_of_ten; formats = []; start = 0; end = 159; tail = 159 }

insert_eight_parses : first insert_eight_text ≡ Ok insert_eight_parsed
unfolding everything
insert_eight_parses = refl

abbrev delete_parsed : Parsed
delete_parsed = record { statement = written.Delete (codes "held") (Some count_test) []; names = codes "?1" ∷ codes "?2" ∷ codes "?3" ∷ codes "?4" ∷ []; formats = []; start = 0; end = 85; tail = 85 }

delete_parses : first delete_text ≡ Ok delete_parsed
unfolding everything
delete_parses = refl

abbrev set_count : List (Name × Expr)
set_count = (codes "n", e.Parameter 4) ∷ []

abbrev update_parsed : Parsed
update_parsed = record { statement = written.Update (codes "held") set_count (Some key_test) []; names = codes "?1" ∷ codes "?2" ∷ codes "?3" ∷ codes "?4" ∷ []; formats = []; start = 0; end = 80; tail = 80 }

update_parses : first update_text ≡ Ok update_parsed
unfolding everything
update_parses = refl

abbrev added_row : List (List Expr)
added_row = (e.Parameter 1 ∷ e.Parameter 2 ∷ e.Parameter 3 ∷ []) ∷ []

abbrev add_span_parsed : Parsed
add_span_parsed = record { statement = written.Insert Abort (codes "spans") [] (rows.Values added_row) [] []; names = names_of_three; formats = []; start = 0; end = 37; tail = 37 }

add_span_parses : first add_span_text ≡ Ok add_span_parsed
unfolding everything
add_span_parses = refl

abbrev drop_span_parsed : Parsed
drop_span_parsed = record { statement = written.Delete (codes "spans") (Some start_test) []; names = codes "?1" ∷ codes "?2" ∷ []; formats = []; start = 0; end = 47; tail = 47 }

drop_span_parses : first drop_span_text ≡ Ok drop_span_parsed
unfolding everything
drop_span_parses = refl

abbrev set_hi : List (Name × Expr)
set_hi = (codes "hi", e.Parameter 3) ∷ []

abbrev set_end_parsed : Parsed
set_end_parsed = record { statement = written.Update (codes "spans") set_hi (Some start_test) []; names = names_of_three; formats = []; start = 0; end = 54; tail = 54 }

set_end_parses : first set_end_text ≡ Ok set_end_parsed
unfolding everything
set_end_parses = refl

-- ---- Statements on one row of held.

module _ (schema : Schema) (at tree : ℕ) (f : IsFound schema at (record held { tree = tree })) where
  abbrev held_table : Table
  held_table = record held { tree = tree }

  module _ (shown : List Output) (may_aggregate : Bool) where
    abbrev over_held : Context
    over_held = only_over schema (codes "held") at shown may_aggregate

    schema_name_is : Compares over_held (codes "schema_name") 1 (equals 1 0)
    unfolding same_name converted
    schema_name_is = compares schema at held_table f.by_index (codes "held") shown may_aggregate (codes "schema_name") 0 1 (required (codes "schema_name") Any) refl refl refl

    table_name_is : Compares over_held (codes "table_name") 2 (equals 2 1)
    unfolding same_name converted
    table_name_is = compares schema at held_table f.by_index (codes "held") shown may_aggregate (codes "table_name") 1 2 (required (codes "table_name") Any) refl refl refl

    image_is : Compares over_held (codes "image") 3 (equals 3 2)
    unfolding same_name converted
    image_is = compares schema at held_table f.by_index (codes "held") shown may_aggregate (codes "image") 2 3 (required (codes "image") Any) refl refl refl

    key_tests : (next budget : ℕ) (last : Carried) → 11 < budget → tests lower over_held [] (Some key_test) (after_reading next budget last) ≡ Ok (has_key, after_reading next (less 11 budget) nothing)
    key_tests next budget last enough =
        tests_are over_held key_test _ (after_reading next budget last) (after_reading next (less 11 budget) nothing)
        (lowered_all over_held (codes "schema_name") (codes "table_name") (equals 1 0) (equals 2 1) schema_name_is table_name_is (codes "image") (equals 3 2) image_is next budget last 696 enough)

    count_is : Compares over_held (codes "n") 4 (op2 (Compare Eq Binary) (col 1 4) (op1 ToNumeric (col 0 3)))
    unfolding same_name converted may_be_text is_parameter
    count_is = compares schema at held_table f.by_index (codes "held") shown may_aggregate (codes "n") 3 4 (required (codes "n") Integer) refl refl refl

    count_tests : (next budget : ℕ) (last : Carried) → 15 < budget → tests lower over_held [] (Some count_test) (after_reading next budget last) ≡ Ok (has_count, after_reading next (less 15 budget) nothing)
    count_tests next budget last enough =
        tests_are over_held count_test _ (after_reading next budget last) (after_reading next (less 15 budget) nothing)
        (lowered_four over_held (codes "schema_name") (codes "table_name") (equals 1 0) (equals 2 1) schema_name_is table_name_is (codes "image") (equals 3 2) image_is
        (codes "n") (op2 (Compare Eq Binary) (col 1 4) (op1 ToNumeric (col 0 3))) count_is next budget last 695 enough)

  abbrev count_field : Field
  count_field = record { name = codes "n"; term = col 1 4; carried = declared held_table 3 (required (codes "n") Integer); label = codes "n" }

  count_stands : IsField (only_over schema (codes "held") at [] true) count_field
  unfolding same_name
  count_stands = stands_for_column schema at held_table f.by_index (codes "held") [] true (codes "n") 3 (required (codes "n") Integer) refl refl

  read_query_is : query schema read_select ≡ Ok ((drafted tree has_key (col 1 4 ∷ []) [], codes "n" ∷ [], Some Binary ∷ []), [])
  unfolding sorts
  read_query_is =
      query_is schema (codes "held") at held_table f.by_name f.by_index read_core (written_columns (codes "n" ∷ [])) (Some key_test) read_over (with_outputs [] (count_field ∷ [])) has_key [] []
      (after_reading 2 99999 (count_field.carried)) 99988 99988 nothing nothing
      (outputs_are (only_over schema (codes "held") at [] true) (only_bound (codes "held") at ∷ []) (count_field ∷ []) (count_stands, tt) 2 max_budget nothing (omega arith))
      (key_tests (with_outputs [] (count_field ∷ [])) false 2 99999 (count_field.carried) (omega arith)) refl read_select read_ordered

  pub read_means : Means schema read_text (Select (record { lets = []; body = read_query tree }) (codes "n" ∷ []))
  read_means =
      means schema read_text read_parsed _
      (compiled_select schema read_text read_parsed read_parses refl read_select _ (codes "n" ∷ []) (Some Binary ∷ []) (read_query tree) refl read_query_is
      (program_is schema at held_table f has_key (col 1 4 ∷ []) [] refl refl refl))

  insert_row : inserted schema held_table 3 [] (rows.Values (inserted_row 3 ∷ [])) ≡ Ok (new.Values insert_terms)
  unfolding everything
  insert_row = refl

  pub insert_means : Means schema insert_text (Insert at (Values insert_terms 5))
  insert_means =
      means schema insert_text insert_parsed _
      (compiled_insert schema (codes "held") at held_table f.by_name f.by_index (inserted_row 3 ∷ []) insert_text insert_parsed 3 insert_terms insert_parses refl refl refl refl insert_row refl)

  insert_eight_rows : inserted schema held_table 10 [] (rows.Values eight_rows) ≡ Ok (new.Values insert_eight_terms)
  unfolding everything
  insert_eight_rows = refl

  pub insert_eight_means : Means schema insert_eight_text (Insert at (Values insert_eight_terms 5))
  insert_eight_means =
      means schema insert_eight_text insert_eight_parsed _
      (compiled_insert schema (codes "held") at held_table f.by_name f.by_index eight_rows insert_eight_text insert_eight_parsed 10 insert_eight_terms insert_eight_parses refl refl refl refl insert_eight_rows refl)

  pub delete_means : Means schema delete_text (Delete at (record { lets = []; body = delete_query tree }))
  delete_means =
      means schema delete_text delete_parsed _
      (compiled_delete schema (codes "held") at held_table f.by_name f.by_index (Some count_test) has_count 100000 99985 nothing nothing delete_text delete_parsed (delete_query tree) delete_parses refl refl refl refl
      (count_tests [] false 2 100000 nothing (omega arith)) (program_is schema at held_table f has_count (col 1 0 ∷ []) [] refl refl refl))

  -- the old rowid, and then the new row
  abbrev updated_row : List Term
  updated_row = col 1 0 ∷ col 1 0 ∷ col 1 1 ∷ col 1 2 ∷ col 1 3 ∷ col 0 3 ∷ []

  update_assigns : assigned (only_over schema (codes "held") at [] false) held_table set_count (after_reading 2 100000 nothing) ≡ Ok ((4 ∷ [], col 0 3 ∷ []), after_reading 2 99999 nothing)
  unfolding everything
  update_assigns = refl

  update_row : row held_table None (4 ∷ []) (col 1 0 ∷ []) (col 0 3 ∷ []) ≡ Ok updated_row
  unfolding everything
  update_row = refl

  pub update_means : Means schema update_text (Update at (record { lets = []; body = update_query tree }))
  update_means =
      means schema update_text update_parsed _
      (compiled_update schema (codes "held") at held_table f.by_name f.by_index (Some key_test) has_key 99999 99988 nothing nothing set_count (4 ∷ []) (col 0 3 ∷ []) updated_row (update_query tree) update_assigns update_row
      (key_tests [] false 2 99999 nothing (omega arith)) update_text update_parsed update_parses refl refl (program_is schema at held_table f has_key updated_row [] refl refl refl))

-- ---- Statements on one row of spans.

module _ (schema : Schema) (at tree : ℕ) (f : IsFound schema at (record spans { tree = tree })) where
  abbrev spans_table : Table
  spans_table = record spans { tree = tree }

  abbrev over_spans : Context
  over_spans = only_over schema (codes "spans") at [] false

  source_is : Compares over_spans (codes "source") 1 (equals 1 0)
  unfolding same_name converted
  source_is = compares schema at spans_table f.by_index (codes "spans") [] false (codes "source") 0 1 (required (codes "source") Any) refl refl refl

  start_is : Compares over_spans (codes "lo") 2 (op2 (Compare Eq Binary) (col 1 2) (op1 ToNumeric (col 0 1)))
  unfolding same_name converted may_be_text is_parameter
  start_is = compares schema at spans_table f.by_index (codes "spans") [] false (codes "lo") 1 2 (required (codes "lo") Integer) refl refl refl

  start_tests : (budget : ℕ) → 7 < budget → tests lower over_spans [] (Some start_test) (after_reading 2 budget nothing) ≡ Ok (has_start, after_reading 2 (less 7 budget) nothing)
  start_tests budget enough =
      tests_are over_spans start_test _ (after_reading 2 budget nothing) (after_reading 2 (less 7 budget) nothing)
      (lowered_both over_spans (codes "source") (codes "lo") (equals 1 0) (op2 (Compare Eq Binary) (col 1 2) (op1 ToNumeric (col 0 1))) source_is start_is 2 budget nothing 697 enough)

  add_span_row : inserted schema spans_table 3 [] (rows.Values added_row) ≡ Ok (new.Values add_span_terms)
  unfolding everything
  add_span_row = refl

  pub add_span_means : Means schema add_span_text (Insert at (Values add_span_terms 4))
  add_span_means =
      means schema add_span_text add_span_parsed _
      (compiled_insert schema (codes "spans") at spans_table f.by_name f.by_index added_row add_span_text add_span_parsed 3 add_span_terms add_span_parses refl refl refl refl add_span_row refl)

  pub drop_span_means : Means schema drop_span_text (Delete at (record { lets = []; body = drop_span_query tree }))
  drop_span_means =
      means schema drop_span_text drop_span_parsed _
      (compiled_delete schema (codes "spans") at spans_table f.by_name f.by_index (Some start_test) has_start 100000 99993 nothing nothing drop_span_text drop_span_parsed (drop_span_query tree) drop_span_parses refl refl refl refl
      (start_tests 100000 (omega arith)) (program_is schema at spans_table f has_start (col 1 0 ∷ []) [] refl refl refl))

  -- the old rowid, and then the new row
  abbrev longer_row : List Term
  longer_row = col 1 0 ∷ col 1 0 ∷ col 1 1 ∷ col 1 2 ∷ col 0 2 ∷ []

  set_end_assigns : assigned over_spans spans_table set_hi (after_reading 2 100000 nothing) ≡ Ok ((3 ∷ [], col 0 2 ∷ []), after_reading 2 99999 nothing)
  unfolding everything
  set_end_assigns = refl

  set_end_row : row spans_table None (3 ∷ []) (col 1 0 ∷ []) (col 0 2 ∷ []) ≡ Ok longer_row
  unfolding everything
  set_end_row = refl

  pub set_end_means : Means schema set_end_text (Update at (record { lets = []; body = set_end_query tree }))
  set_end_means =
      means schema set_end_text set_end_parsed _
      (compiled_update schema (codes "spans") at spans_table f.by_name f.by_index (Some start_test) has_start 99999 99992 nothing nothing set_hi (3 ∷ []) (col 0 2 ∷ []) longer_row (set_end_query tree) set_end_assigns set_end_row
      (start_tests 99999 (omega arith)) set_end_text set_end_parsed set_end_parses refl refl (program_is schema at spans_table f has_start longer_row [] refl refl refl))
