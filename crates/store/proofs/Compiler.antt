-- How the compiler of `sqlite` takes a statement over one table, in any schema.
use Rattle.store.proofs.Names.{◌≡◌, ◌<◌, ◌+◌, ◌-◌, ◌^◌, ◌==◌, ℕ, zero, suc, pos, Bool, true, false, cond, nat_lt, Option, Some, None, Ok, List, [], ◌∷◌, ◌++◌, map, length, slice_get, codes, refl, ap, ◌∙◌, arith, AllByRecursion, lt-ltb, Int, Term, lit, col, op2, Table, Schema, table_named, Expr, Core, Parsed, Carried, Output, Compiled, nothing, max_budget, Name, Context, lower, with_command, IsFound}
use Rattle.std.proofs.Common.{negsuc}
use Rattle.std.proofs.lemmas.Bool.{lt-leb}
use Rattle.sqlite_value.specs.declared.keys.Collation.{Collation}
use Rattle.sqlite_value.specs.declared.keys.Key.{Key}
use Rattle.sqlite_sql.specs.declared.ops.BinaryOp.TheVariants as by
use Rattle.sqlite_sql.specs.declared.ops.CompareOp.TheVariants as compare
use Rattle.sqlite_sql.specs.Term.{reads_below}
use Rattle.sqlite_sql.specs.Query.{Query, inner, end}
use Rattle.sqlite_schema.specs.declared.schema.Column.{Column as Declared}
use Rattle.sqlite_schema.specs.declared.program.Table.{Table as Let}
use Rattle.sqlite_schema.specs.declared.command.Command.TheVariants as command
use Rattle.sqlite_schema.specs.Names.{column_named, place_of}
use Rattle.sqlite_ast.specs.declared.Binary.TheVariants as binary
use Rattle.sqlite_ast.specs.declared.Expr.{out-Expr}
use Rattle.sqlite_ast.specs.declared.Expr.TheVariants as e
use Rattle.sqlite_ast.specs.declared.Expr.TheOpen.{Expr-F}
use Rattle.sqlite_ast.specs.declared.Shown.{Shown}
use Rattle.sqlite_ast.specs.declared.Shown.TheVariants.{One}
use Rattle.sqlite_ast.specs.declared.Origin.TheVariants as origin
use Rattle.sqlite_ast.specs.declared.Source.{Source, roll-Source}
use Rattle.sqlite_ast.specs.declared.Core.{out-Core}
use Rattle.sqlite_ast.specs.declared.Sort.{Sort, roll-Sort}
use Rattle.sqlite_ast.specs.declared.Select.{Select, out-Select}
use Rattle.sqlite_ast.specs.declared.Statement.{Statement}
use Rattle.sqlite_ast.specs.declared.Statement.TheVariants as written
use Rattle.sqlite_draft.specs.declared.join.Step.TheVariants.{Inner}
use Rattle.sqlite_draft.specs.declared.query.Draft.{Draft}
use Rattle.sqlite_typing.specs.Types.{filled, row_classes, are_tests, are_typed}
use Rattle.sqlite_resolve.specs.declared.state.State.{State}
use Rattle.sqlite_resolve.specs.declared.scope.Bound.{Bound}
use Rattle.sqlite_resolve.specs.declared.scope.Level.{Level}
use Rattle.sqlite_resolve.specs.declared.scope.Found.TheVariants as found
use Rattle.sqlite_resolve.specs.declared.compare.Affinity.TheVariants as affinity
use Rattle.sqlite_resolve.specs.declared.body.Body.{Body}
use Rattle.sqlite_resolve.specs.declared.select.Clauses.{Clauses}
use Rattle.sqlite_resolve.specs.Lowering.{fresh, take_slot, spend, begin, finish, chosen, first_found, alone}
use Rattle.sqlite_resolve.specs.Scope.{is_rowid, is_among, column_in, rowid_in, column_at, hit, only, in_level, find, column, term_of, alias_of, declared}
use Rattle.sqlite_resolve.specs.Compare.{of_column, of_declared, converted, affinity_of, compared}
use Rattle.sqlite_resolve.specs.Terms.{conjuncts}
use Rattle.sqlite_resolve.specs.Order as order
use Rattle.sqlite_resolve.specs.Body.{bound, bounds, joins, outputs, outputs_from, tests, body, result, matching, heading, is_column, shown as shown_in, table_in}
use Rattle.sqlite_resolve.specs.Body as body'
use Rattle.sqlite_resolve.specs.Expr.{lower_to, node, opened, passes, operation, both, combine, wanted_truth, tests_truth, tests_alias}
use Rattle.sqlite_resolve.specs.Select.{outermost, parts, having, named, assembled, ungrouped, paging, constant_or}
use Rattle.sqlite_resolve.specs.Program.{Building, Shown as Read, sources, source as source_in, query, query_to, level, with, whole, single, viewing, program}
use Rattle.sqlite_resolve.specs.Program as program'
use Rattle.sqlite_resolve.specs.Compile.{read, first, compiled, planned, timed, meaning, returning, shows, command as command_in, small, insert_or_abort, insert, update, delete, new_rows, source_of, values as values_in}
use Rattle.sqlite_resolve.specs.Write.{inserted, row, picked, assigned, deleted, updated, updated_in}
use Rattle.sqlite_resolve.specs.declared.write.NewRows.TheVariants as new
use Rattle.sqlite_ast.specs.declared.Rows.TheVariants as rows
use Rattle.sqlite_ast.specs.declared.Conflict.TheVariants as conflict
use Rattle.sqlite_schema.specs.declared.command.Source.TheVariants as source
use Rattle.sqlite_typing.specs.Types.{accepts_terms}
use Rattle.sqlite_tied.specs.Compute.{everything}
use Rattle.sqlite.specs.Listing.{understood, reads_listing}

-- what a written statement is taken apart by
unfoldable pub written_trees : Unit {0}
unfolding
    Rattle.sqlite_ast.specs.declared.Expr.TheBlock.hidden-the_row-Expr-0 Rattle.sqlite_ast.specs.declared.Expr.TheBlock.shown-the_row-Expr-0 Rattle.sqlite_ast.specs.declared.Expr.TheBlock.hidden-the_row-Expr-1
    Rattle.sqlite_ast.specs.declared.Expr.TheBlock.shown-the_row-Expr-1 Rattle.sqlite_ast.specs.declared.Expr.TheBlock.hidden-the_row-Select-2 Rattle.sqlite_ast.specs.declared.Expr.TheBlock.shown-the_row-Select-2
    Rattle.sqlite_ast.specs.declared.Expr.TheBlock.hidden-the_row-Arm-3 Rattle.sqlite_ast.specs.declared.Expr.TheBlock.shown-the_row-Arm-3 Rattle.sqlite_ast.specs.declared.Expr.TheBlock.hidden-the_row-Shown-4
    Rattle.sqlite_ast.specs.declared.Expr.TheBlock.shown-the_row-Shown-4 Rattle.sqlite_ast.specs.declared.Expr.TheBlock.hidden-the_row-Source-5 Rattle.sqlite_ast.specs.declared.Expr.TheBlock.shown-the_row-Source-5
    Rattle.sqlite_ast.specs.declared.Expr.TheBlock.hidden-the_row-Select-with-4-6 Rattle.sqlite_ast.specs.declared.Expr.TheBlock.shown-the_row-Select-with-4-6 Rattle.sqlite_ast.specs.declared.Expr.TheBlock.hidden-the_row-Select-others-2-7
    Rattle.sqlite_ast.specs.declared.Expr.TheBlock.shown-the_row-Select-others-2-7 Rattle.sqlite_ast.specs.declared.Expr.TheBlock.hidden-the_row-Sort-8 Rattle.sqlite_ast.specs.declared.Expr.TheBlock.shown-the_row-Sort-8
    Rattle.sqlite_ast.specs.declared.Expr.TheViews.out-Expr Rattle.sqlite_ast.specs.declared.Expr.TheViews.roll-Expr Rattle.sqlite_ast.specs.declared.Expr.TheViews.out-Shown
    Rattle.sqlite_ast.specs.declared.Expr.TheViews.roll-Shown Rattle.sqlite_ast.specs.declared.Expr.TheViews.out-Core Rattle.sqlite_ast.specs.declared.Expr.TheViews.roll-Core
    Rattle.sqlite_ast.specs.declared.Expr.TheViews.out-Select Rattle.sqlite_ast.specs.declared.Expr.TheViews.roll-Select Rattle.sqlite_ast.specs.declared.Expr.TheViews.out-Source
    Rattle.sqlite_ast.specs.declared.Expr.TheViews.roll-Source denote.Hole.Carrier.out denote.Hole.Carrier.roll
    denote.Hole.Carrier.shown denote.Hole.Carrier.hidden
written_trees = tt

alike : {A : Type 0} (b : Bool) (x : A) → cond b x x ≡ x
alike true x = refl
alike false x = refl

-- ---- Names in a statement over one table.

-- the table in slot 1
abbrev pub only_bound : Name → ℕ → Bound
only_bound name at = record { name = name; table = at; slot = 1; shared = [] }

abbrev pub only_level : Name → ℕ → List Output → Level
only_level name at shown = record { tables = only_bound name at ∷ []; shown = shown }

-- where a name is looked up: in the table, and then among these columns of the result
abbrev pub only_over : Schema → Name → ℕ → List Output → Bool → Context
only_over schema name at shown may_aggregate = record { schema = schema; levels = only_level name at shown ∷ []; may_aggregate = may_aggregate; may_alias = true }

-- A name alone stands for this term. As a column of the result it has this heading.
pub record StandsFor (cx : Context) (name : Name) (t : Term) (c : Carried) (label : Name) : Type 0 where
  pub is : (s : State) → column cx None name s ≡ Ok (t, record s { last = c })
  pub labelled : (text : Name) → heading cx (e.Column None name) text ≡ label

module _ (schema : Schema) (at : ℕ) (table : Table) (there : slice_get schema.tables at ≡ Some table) (called : Name) (shown : List Output) (may_aggregate : Bool) where
  abbrev cx : Context
  cx = only_over schema called at shown may_aggregate

  module _ (name : Name) (place : ℕ) (c : Declared) (is_named : column_named table name ≡ Some place) (is : slice_get table.columns place ≡ Some c) where
    in_table : column_in schema name (only_bound called at) ≡ Some (found.Column 1 at place)
    unfolding column_in
    in_table = rw (there, is_named) refl

    found_column : find cx None name ≡ Ok (found.Column 1 at place)
    unfolding find in_level only hit is_among
    found_column = rw in_table refl

    at_column : column_at schema 1 at place ≡ Ok (col 1 (place_of table place), declared table place c)
    unfolding column_at
    at_column = rw (there, is) refl

    column_is : (s : State) → column cx None name s ≡ Ok (col 1 (place_of table place), record s { last = declared table place c })
    unfolding column term_of
    column_is s = rw (found_column, at_column) refl

    column_labelled : (text : Name) → heading cx (e.Column None name) text ≡ c.name
    unfolding heading body'.declared written_trees
    column_labelled text = rw (found_column, there, is) refl

    pub stands_for_column : StandsFor cx name (col 1 (place_of table place)) (declared table place c) c.name
    stands_for_column = record { is = column_is; labelled = column_labelled }

  module _ (name : Name) (is_the_rowid : is_rowid name ≡ true) (no_column : column_named table name ≡ None) (stored : table.tree < 2 ^ 31) (no_key : table.key ≡ None) where
    not_in_table : column_in schema name (only_bound called at) ≡ None
    unfolding column_in
    not_in_table = rw (there, no_column) refl

    has_rowid : rowid_in schema (only_bound called at) ≡ Some (found.Rowid 1 at)
    unfolding rowid_in
    has_rowid = rw (there, lt-ltb _ _ stored) refl

    found_rowid : find cx None name ≡ Ok (found.Rowid 1 at)
    unfolding find in_level only hit is_among
    found_rowid = rw (not_in_table, is_the_rowid, has_rowid) refl

    rowid_is : (s : State) → column cx None name s ≡ Ok (col 1 0, record s { last = nothing })
    unfolding column term_of
    rowid_is s = rw found_rowid refl

    rowid_labelled : (text : Name) → heading cx (e.Column None name) text ≡ codes "rowid"
    unfolding heading body'.declared written_trees
    rowid_labelled text = rw (found_rowid, there, no_key) refl

    pub stands_for_rowid : StandsFor cx name (col 1 0) nothing (codes "rowid")
    stands_for_rowid = record { is = rowid_is; labelled = rowid_labelled }

  parameter_is : (n : ℕ) → of_column cx 0 n ≡ affinity.None
  unfolding of_column
  parameter_is n = alike (n == 0) affinity.None

  module _ (place : ℕ) (c : Declared) (is : slice_get table.columns place ≡ Some c) where
    pub affinity_is : of_column cx 1 (suc place) ≡ of_declared c
    unfolding of_column
    affinity_is = rw (there, is) refl

    -- A column that is compared with a parameter lends it its affinity.
    pub compared_with_parameter : (how : Collation) (n : ℕ) → compared cx (by.Compare compare.Eq how) (col 1 (suc place)) (col 0 n)
        ≡ op2 (by.Compare compare.Eq how) (converted (of_declared c) affinity.None (col 1 (suc place))) (converted affinity.None (of_declared c) (col 0 n))
    unfolding compared affinity_of
    compared_with_parameter how n = rw (affinity_is, parameter_is n) refl

-- ---- Expressions.

-- what is left of the budget after this many expressions
abbrev pub less : ℕ → ℕ → ℕ
less zero budget = budget
less (suc n) budget = less n (budget - 1)

-- while a query over one table is read
abbrev pub after_reading : ℕ → ℕ → Carried → State
after_reading next budget last = record { next = next; steps = []; aggregates = []; budget = budget; written = None; last = last }

module _ (cx : Context) (next budget : ℕ) (last : Carried) (depth : ℕ) where
  lowered_column : (name : Name) (t : Term) (c : Carried) (label : Name) → StandsFor cx name t c label → 1 < budget
      → lower_to (suc depth) cx (e.Column None name) (after_reading next budget last) ≡ Ok (t, after_reading next (less 1 budget) c)
  unfolding lower_to node opened passes spend begin finish written_trees
  lowered_column name t c label stands enough = rw (lt-ltb _ _ enough, stands.is) refl

  -- a column that equals a parameter
  lowered_equal : (name : Name) (n : ℕ) (t : Term) (c : Carried) (label : Name) → StandsFor cx name t c label → c.is_written ≡ false → 3 < budget
      → lower_to (suc (suc depth)) cx (e.Binary binary.Eq (e.Column None name) (e.Parameter n)) (after_reading next budget last)
      ≡ Ok (compared cx (by.Compare compare.Eq (first_found c nothing)) t (col 0 (n - 1)), after_reading next (less 3 budget) nothing)
  unfolding lower_to node opened passes operation both combine wanted_truth tests_truth tests_alias spend begin finish chosen written_trees
  lowered_equal name n t c label stands plain enough =
      let first : nat_lt 1 budget ≡ true = lt-ltb _ _ (omega arith) in
      let second : nat_lt 1 (budget - 1) ≡ true = lt-ltb _ _ (omega arith) in
      let third : nat_lt 1 (budget - 1 - 1) ≡ true = lt-ltb _ _ (omega arith) in
      rw (first, second, stands.is, plain, third) refl

  -- two tests
  lowered_and : (all a b : Expr) (x y : Term) (m n : ℕ) (c d : Carried) → out-Expr all ≡ Expr-F.Binary binary.And a b → 1 < budget
      → lower_to depth cx a (after_reading next (less 1 budget) nothing) ≡ Ok (x, after_reading next m c) → lower_to depth cx b (after_reading next m c) ≡ Ok (y, after_reading next n d)
      → lower_to (suc depth) cx all (after_reading next budget last) ≡ Ok (op2 by.And x y, after_reading next n nothing)
  unfolding lower_to node opened passes operation both combine wanted_truth tests_truth tests_alias spend begin finish chosen
  lowered_and all a b x y m n c d is enough first second = rw (is, lt-ltb _ _ enough, first, second) refl

-- The test that a column equals a parameter is this term.
pub record Compares (cx : Context) (name : Name) (n : ℕ) (t : Term) : Type 0 where
  pub is : (next budget : ℕ) (last : Carried) (depth : ℕ) → 3 < budget
      → lower_to (suc (suc depth)) cx (e.Binary binary.Eq (e.Column None name) (e.Parameter n)) (after_reading next budget last) ≡ Ok (t, after_reading next (less 3 budget) nothing)

pub compares : (schema : Schema) (at : ℕ) (table : Table) (there : slice_get schema.tables at ≡ Some table) (called : Name) (shown : List Output) (may_aggregate : Bool) (name : Name) (place n : ℕ) (c : Declared)
    → column_named table name ≡ Some place → slice_get table.columns place ≡ Some c → table.key ≡ None
    → Compares (only_over schema called at shown may_aggregate) name n (op2 (by.Compare compare.Eq c.collation) (converted (of_declared c) affinity.None (col 1 (suc place))) (converted affinity.None (of_declared c) (col 0 (n - 1))))
unfolding first_found
compares schema at table there called shown may_aggregate name place n c is_named is no_key =
    let cx = only_over schema called at shown may_aggregate in
    let how : Carried = record { collation = Some c.collation; is_written = false } in
    let one_more : place + 1 ≡ suc place = omega arith in
    let stands : StandsFor cx name (col 1 (suc place)) how c.name = rw (no_key, one_more) at (stands_for_column schema at table there called shown may_aggregate name place c is_named is) in
    record {
      is = λ next budget last depth enough.
          lowered_equal cx next budget last depth name n (col 1 (suc place)) how c.name stands refl enough
          ∙ ap (λ t. Ok (t, after_reading next (less 3 budget) nothing)) (compared_with_parameter schema at table there called shown may_aggregate place c is c.collation (n - 1));
    }

-- a column equals a parameter
abbrev pub is_given : Name → ℕ → Expr
is_given name n = e.Binary binary.Eq (e.Column None name) (e.Parameter n)

module _ (cx : Context) (a b : Name) (x y : Term) (is_a : Compares cx a 1 x) (is_b : Compares cx b 2 y) where
  abbrev pub both_given : Expr
  both_given = e.Binary binary.And (is_given a 1) (is_given b 2)

  pub lowered_both : (next budget : ℕ) (last : Carried) (depth : ℕ) → 7 < budget → lower_to (suc (suc (suc depth))) cx both_given (after_reading next budget last) ≡ Ok (op2 by.And x y, after_reading next (less 7 budget) nothing)
  unfolding written_trees
  lowered_both next budget last depth enough =
      lowered_and cx next budget last (suc (suc depth)) both_given (is_given a 1) (is_given b 2) x y (less 4 budget) (less 7 budget) nothing nothing refl (omega arith)
      (is_a.is next (less 1 budget) nothing depth (omega arith)) (is_b.is next (less 4 budget) nothing depth (omega arith))

  module _ (c : Name) (z : Term) (is_c : Compares cx c 3 z) where
    abbrev pub all_given : Expr
    all_given = e.Binary binary.And both_given (is_given c 3)

    pub lowered_all : (next budget : ℕ) (last : Carried) (depth : ℕ) → 11 < budget
        → lower_to (suc (suc (suc (suc depth)))) cx all_given (after_reading next budget last) ≡ Ok (op2 by.And (op2 by.And x y) z, after_reading next (less 11 budget) nothing)
    unfolding written_trees
    lowered_all next budget last depth enough =
        lowered_and cx next budget last (suc (suc (suc depth))) all_given both_given (is_given c 3) (op2 by.And x y) z (less 8 budget) (less 11 budget) nothing nothing refl (omega arith)
        (lowered_both next (less 1 budget) nothing depth (omega arith)) (is_c.is next (less 8 budget) nothing (suc depth) (omega arith))

    module _ (d : Name) (w : Term) (is_d : Compares cx d 4 w) where
      abbrev pub four_given : Expr
      four_given = e.Binary binary.And all_given (is_given d 4)

      pub lowered_four : (next budget : ℕ) (last : Carried) (depth : ℕ) → 15 < budget
          → lower_to (suc (suc (suc (suc (suc depth))))) cx four_given (after_reading next budget last) ≡ Ok (op2 by.And (op2 by.And (op2 by.And x y) z) w, after_reading next (less 15 budget) nothing)
      unfolding written_trees
      lowered_four next budget last depth enough =
          lowered_and cx next budget last (suc (suc (suc (suc depth)))) four_given all_given (is_given d 4) (op2 by.And (op2 by.And x y) z) w (less 12 budget) (less 15 budget) nothing nothing refl (omega arith)
          (lowered_all next (less 1 budget) nothing depth (omega arith)) (is_d.is next (less 12 budget) nothing (suc (suc depth)) (omega arith))

-- ---- The columns of the result, and ORDER BY, where each is a name alone.

-- a name, and what it stands for
pub record Field : Type 0 where
  pub name : Name
  pub term : Term
  pub carried : Carried
  pub label : Name

abbrev pub IsField : Context → Field → Type 0
IsField cx f = StandsFor cx f.name f.term f.carried f.label

abbrev pub output_of : Field → Output
output_of f = record { name = f.label; is_alias = false; is_column = true; term = f.term; carried = f.carried }

abbrev pub written_columns : List Name → List Shown
written_columns [] = []
written_columns (name ∷ names) = One (e.Column None name) None name ∷ written_columns names

abbrev pub written_order : List Name → List Sort
written_order [] = []
written_order (name ∷ names) = roll-Sort (record { key = e.Column None name; descending = false; nulls_first = None }) ∷ written_order names

abbrev pub with_outputs : List Output → List Field → List Output
with_outputs done [] = done
with_outputs done (f ∷ fs) = with_outputs (done ++ output_of f ∷ []) fs

abbrev pub with_keys : List (Term × Key) → List Field → List (Term × Key)
with_keys done [] = done
with_keys done (f ∷ fs) = with_keys (done ++ (f.term, record { collation = alone f.carried; descending = false }) ∷ []) fs

-- what the last of them carries
abbrev pub carried_last : Carried → List Field → Carried
carried_last last [] = last
carried_last last (f ∷ fs) = carried_last f.carried fs

module _ (cx : Context) where
  module _ (f : Field) (is : IsField cx f) (next budget : ℕ) (last : Carried) (enough : 1 < budget) where
    one_output : (tables : List Bound) (done : List Output) (more : List Shown)
        → outputs_from lower cx tables done (One (e.Column None f.name) None f.name ∷ more) (after_reading next budget last) ≡ outputs_from lower cx tables (done ++ output_of f ∷ []) more (after_reading next (less 1 budget) f.carried)
    unfolding shown_in is_column written_trees
    one_output tables done more = rw (lowered_column cx next budget last 699 f.name f.term f.carried f.label is enough, is.labelled) refl

    one_key : (shown : List Output) (done : List (Term × Key)) (more : List Sort) → alias_of f.name shown ≡ None → reads_below 1 f.term ≡ false
        → order.sorts_from lower cx shown done (roll-Sort (record { key = e.Column None f.name; descending = false; nulls_first = None }) ∷ more) (after_reading next budget last)
        ≡ order.sorts_from lower cx shown (done ++ (f.term, record { collation = alone f.carried; descending = false }) ∷ []) more (after_reading next (less 1 budget) f.carried)
    unfolding order.sort order.peeled order.alias_in order.key order.is_numeral order.collation_of order.written_on order.placed written_trees
    one_key shown done more no_alias reads = rw (no_alias, lowered_column cx next budget last 699 f.name f.term f.carried f.label is enough, reads) refl

  outputs_after : (tables : List Bound) (done : List Output) (fields : List Field) → AllByRecursion (IsField cx) fields → (next budget : ℕ) (last : Carried) → length fields < budget
      → outputs_from lower cx tables done (written_columns (map (λ (f : Field). f.name) fields)) (after_reading next budget last) ≡ Ok (with_outputs done fields, after_reading next (less (length fields) budget) (carried_last last fields))
  outputs_after tables done [] are next budget last enough = refl
  outputs_after tables done (f ∷ fs) are next budget last enough =
      one_output f are.0 next budget last (omega arith) tables done (written_columns (map (λ (g : Field). g.name) fs)) ∙ outputs_after tables (done ++ output_of f ∷ []) fs are.1 next (budget - 1) f.carried (omega arith)

  keys_after : (shown : List Output) (done : List (Term × Key)) (fields : List Field) → AllByRecursion (IsField cx) fields → AllByRecursion (λ f. (alias_of f.name shown ≡ None) × (reads_below 1 f.term ≡ false)) fields
      → (next budget : ℕ) (last : Carried) → length fields < budget
      → order.sorts_from lower cx shown done (written_order (map (λ (f : Field). f.name) fields)) (after_reading next budget last) ≡ Ok (with_keys done fields, after_reading next (less (length fields) budget) (carried_last last fields))
  keys_after shown done [] are apart next budget last enough = refl
  keys_after shown done (f ∷ fs) are apart next budget last enough =
      one_key f are.0 next budget last (omega arith) shown done (written_order (map (λ (g : Field). g.name) fs)) apart.0.0 apart.0.1
      ∙ keys_after shown (done ++ (f.term, record { collation = alone f.carried; descending = false }) ∷ []) fs are.1 apart.1 next (budget - 1) f.carried (omega arith)

  pub outputs_are : (tables : List Bound) (fields : List Field) → AllByRecursion (IsField cx) fields → (next budget : ℕ) (last : Carried) → length fields < budget
      → outputs lower cx tables (written_columns (map (λ (f : Field). f.name) fields)) (after_reading next budget last) ≡ Ok (with_outputs [] fields, after_reading next (less (length fields) budget) (carried_last last fields))
  unfolding outputs
  outputs_are tables fields are next budget last enough = outputs_after tables [] fields are next budget last enough

  pub keys_are : (shown : List Output) (fields : List Field) → AllByRecursion (IsField cx) fields → AllByRecursion (λ f. (alias_of f.name shown ≡ None) × (reads_below 1 f.term ≡ false)) fields
      → (next budget : ℕ) (last : Carried) → length fields < budget
      → order.sorts lower cx shown (written_order (map (λ (f : Field). f.name) fields)) (after_reading next budget last) ≡ Ok (with_keys [] fields, after_reading next (less (length fields) budget) (carried_last last fields))
  unfolding order.sorts
  keys_are shown fields are apart next budget last enough = keys_after shown [] fields are apart next budget last enough

  -- WHERE
  pub no_tests : (s : State) → tests lower cx [] None s ≡ Ok ([], s)
  unfolding tests
  no_tests s = refl

  pub tests_are : (test : Expr) (t : Term) (old new : State) → lower cx test old ≡ Ok (t, new) → tests lower cx [] (Some test) old ≡ Ok (conjuncts t, new)
  unfolding tests
  tests_are test t old new lowered = rw lowered refl

-- ---- SELECT.

abbrev pub from_table : Name → Source
from_table name = roll-Source (record { is_left = false; origin = origin.Table name; alias = None; on = None; using = [] })

-- The core is SELECT .. FROM the table, with WHERE if there is a test, and no more.
pub record IsOver (core : Core) (name : Name) (columns : List Shown) (test : Option Expr) : Type 0 where
  pub shown : (out-Core core).shown ≡ columns
  pub from : (out-Core core).from ≡ from_table name ∷ []
  pub filter : (out-Core core).filter ≡ test
  pub distinct : (out-Core core).distinct ≡ false
  pub group : (out-Core core).group ≡ []
  pub having : (out-Core core).having ≡ None

-- The SELECT is this core and this ORDER BY.
pub record IsOrdered (s : Select) (core : Core) (by_order : List Sort) : Type 0 where
  pub with : (out-Select s).with ≡ []
  pub first : (out-Select s).first ≡ core
  pub others : (out-Select s).others ≡ []
  pub order : (out-Select s).order ≡ by_order
  pub limit : (out-Select s).limit ≡ None
  pub offset : (out-Select s).offset ≡ None

-- the rows of a tree that pass the tests, in this order
abbrev pub drafted : ℕ → List Term → List Term → List (Term × Key) → Draft
drafted tree filter project by_order = record {
  from = inner tree end;
  filter = filter;
  group = None;
  project = project;
  distinct = false;
  collations = [];
  order = by_order;
  limit = lit (Int (negsuc 0));
  offset = lit (Int (pos 0));
}

abbrev pub asked : ℕ → List Term → List Term → List (Term × Key) → Query
asked tree filter project by_order = record {
  from = inner tree end;
  filter = filter;
  group = None;
  project = project;
  distinct = false;
  collations = [];
  order = by_order;
  limit = lit (Int (negsuc 0));
  offset = lit (Int (pos 0));
}

-- The terms are of types that a comparison takes.
module _ (schema : Schema) (at : ℕ) (table : Table) (f : IsFound schema at table) where
  filled_is : filled schema [] [] (inner table.tree end) [] ≡ Some (row_classes table ∷ [])
  filled_is = rw (lt-leb (2 ^ 31) table.tree f.stored, f.by_tree) refl

  pub program_is : (filter project : List Term) (by_order : List (Term × Key)) → are_tests [] (row_classes table ∷ []) filter ≡ true → are_typed [] (row_classes table ∷ []) project ≡ true
      → are_typed [] (row_classes table ∷ []) (map (λ (k : Term × Key). k.0) by_order) ≡ true
      → program schema [] (drafted table.tree filter project by_order) ≡ Ok (record { lets = []; body = asked table.tree filter project by_order })
  unfolding program
  program_is filter project by_order tests_fit project_fits order_fits = rw (filled_is, tests_fit, project_fits, order_fits) refl

module _ (schema : Schema) (name : Name) (at : ℕ) (table : Table) (finds : table_named schema name ≡ Some at) (there : slice_get schema.tables at ≡ Some table) where
  bounds_are : bounds schema (from_table name ∷ []) (fresh 1 max_budget) ≡ Ok (only_bound name at ∷ [], after_reading 2 max_budget nothing)
  unfolding bounds bound table_in take_slot written_trees
  bounds_are = rw finds refl

  joins_are : (shown : List Output) (s : State) → joins lower (only_over schema name at shown false) (only_bound name at ∷ []) (from_table name ∷ []) s ≡ Ok (record { steps = Inner table.tree ∷ []; filter = [] }, s)
  unfolding everything
  joins_are shown s = rw there refl

  module _ (core : Core) (columns : List Shown) (test : Option Expr) (over : IsOver core name columns test) (shown : List Output) (filter : List Term) (by_order : List Sort) (keys : List (Term × Key))
      (shown_state : State) (budget last_budget : ℕ) (filter_last last : Carried)
      (shown_is : outputs lower (only_over schema name at [] true) (only_bound name at ∷ []) columns (after_reading 2 max_budget nothing) ≡ Ok (shown, shown_state))
      (filter_is : tests lower (only_over schema name at shown false) [] test shown_state ≡ Ok (filter, after_reading 2 budget filter_last))
      (keys_is : order.sorts lower (only_over schema name at shown false) shown by_order (after_reading 2 budget filter_last) ≡ Ok (keys, after_reading 2 last_budget last)) where
    result_is : result lower (outermost schema) (only_level name at []) core (after_reading 2 max_budget nothing) ≡ Ok (shown, shown_state)
    unfolding result
    result_is = rw (over.shown, shown_is) refl

    matching_is : matching lower (outermost schema) (only_level name at shown) core shown_state ≡ Ok (record { steps = Inner table.tree ∷ []; filter = filter }, after_reading 2 budget filter_last)
    unfolding matching
    matching_is = rw (over.from, joins_are shown shown_state, over.filter, filter_is) refl

    abbrev all_body : Body
    all_body = record { level = only_level name at shown; steps = Inner table.tree ∷ []; filter = filter }

    body_is : body lower (outermost schema) core (fresh 1 max_budget) ≡ Ok (all_body, after_reading 2 budget filter_last)
    unfolding body
    body_is = rw (over.from, bounds_are, result_is, matching_is) refl

    abbrev clauses : Clauses
    clauses = record { body = all_body; is_grouped = false; keys = []; collations = []; having = []; order = keys }

    parts_are : parts schema core by_order (fresh 1 max_budget) ≡ Ok (clauses, after_reading 2 last_budget last)
    unfolding parts having order.keys tests
    parts_are = rw (body_is, over.group, over.having, keys_is) refl

    named_is : named schema core by_order (lit (Int (negsuc 0)), lit (Int (pos 0))) ≡ Ok (drafted table.tree filter (map (λ o. o.term) shown) keys, map (λ o. o.name) shown, map (λ o. o.carried.collation) shown)
    unfolding named assembled ungrouped
    named_is = rw (parts_are, over.distinct) refl

    page_is : (s : Select) → (out-Select s).limit ≡ None → (out-Select s).offset ≡ None → paging schema s ≡ Ok (lit (Int (negsuc 0)), lit (Int (pos 0)))
    unfolding paging constant_or
    page_is s limit offset = rw (limit, offset) refl

    sources_are : (deeper : Schema → Select → Building Read) (lets : List Let) → sources deeper schema (out-Core core).from lets ≡ Ok (schema, lets)
    unfolding sources source_in written_trees
    sources_are deeper lets = rw over.from refl

    pub query_is : (s : Select) → IsOrdered s core by_order
        → query schema s ≡ Ok ((drafted table.tree filter (map (λ o. o.term) shown) keys, map (λ o. o.name) shown, map (λ o. o.carried.collation) shown), [])
    unfolding query query_to level with whole program'.alone single viewing
    query_is s it = rw (it.with, page_is s it.limit it.offset, it.others, it.first, it.order, sources_are (query_to 15) [], named_is) refl

-- ---- From a text to its command.

module _ (schema : Schema) (text : List ℕ) (p : Parsed) (parses : first text ≡ Ok p) (untimed : p.formats ≡ []) where
  pub compiled_select : (s : Select) (d : Draft) (names : List Name) (collations : List (Option Collation)) (q : Query) → p.statement ≡ written.Select s → query schema s ≡ Ok ((d, names, collations), [])
      → program schema [] d ≡ Ok (record { lets = []; body = q }) → compiled schema text ≡ Ok (with_command p ([], (command.Select (record { lets = []; body = q }) names, None)))
  unfolding compiled planned timed meaning returning command_in read
  compiled_select s d names collations q is read_is typed = rw (parses, is, untimed, read_is, typed) refl

-- a text that is compiled under the schema is not one on sqlite_schema
pub understood_as : (schema : Schema) (text : List ℕ) (c : Compiled) → compiled schema text ≡ Ok c → (understood schema text ≡ Ok c) × (reads_listing schema text ≡ false)
unfolding understood
understood_as schema text c is = (rw is refl, rw is refl)

-- ---- INSERT, UPDATE and DELETE.

module _ (schema : Schema) (name : Name) (at : ℕ) (table : Table) (finds : table_named schema name ≡ Some at) (there : slice_get schema.tables at ≡ Some table) where
  -- with no list of columns, no ON CONFLICT and no RETURNING
  module _ (values : List (List Expr)) where
    abbrev inserting : Statement
    inserting = written.Insert conflict.Abort name [] (rows.Values values) [] []

    reads_no_time : table.stamps.formats ≡ [] → timed schema [] inserting ≡ []
    unfolding timed
    reads_no_time no_stamps = rw (finds, there) no_stamps

    insert_is : (base : ℕ) (terms : List Term) → inserted schema table base [] (rows.Values values) ≡ Ok (new.Values terms) → accepts_terms terms [] ≡ true
        → command_in schema [] base inserting ≡ Ok (command.Insert at (source.Values terms (length table.columns + 1)))
    unfolding command_in insert_or_abort insert new_rows source_of values_in
    insert_is base terms inserts typed = rw (finds, there, inserts, typed) refl

    pub compiled_insert : (text : List ℕ) (p : Parsed) (base : ℕ) (terms : List Term) → first text ≡ Ok p → p.formats ≡ [] → p.statement ≡ inserting → small p.names + small [] ≡ base → table.stamps.formats ≡ []
        → inserted schema table base [] (rows.Values values) ≡ Ok (new.Values terms) → accepts_terms terms [] ≡ true
        → compiled schema text ≡ Ok (with_command p ([], (command.Insert at (source.Values terms (length table.columns + 1)), None)))
    unfolding compiled planned meaning returning shows
    compiled_insert text p base terms parses untimed is base_is no_stamps inserts typed = rw (parses, is, untimed, reads_no_time no_stamps, base_is, insert_is base terms inserts typed) refl

  module _ (test : Option Expr) (filter : List Term) (budget last_budget : ℕ) (carried last : Carried) where
    picked_is : (project : List Term) → tests lower (only_over schema table.name at [] false) [] test (after_reading 2 budget carried) ≡ Ok (filter, after_reading 2 last_budget last)
        → picked (only_over schema table.name at [] false) table project test (after_reading 2 budget carried) ≡ Ok (drafted table.tree filter project [], after_reading 2 last_budget last)
    unfolding picked
    picked_is project filter_is = rw filter_is refl

    pub compiled_delete : (text : List ℕ) (p : Parsed) (q : Query) → first text ≡ Ok p → p.formats ≡ [] → p.statement ≡ written.Delete name test [] → budget ≡ max_budget → carried ≡ nothing
        → tests lower (only_over schema table.name at [] false) [] test (after_reading 2 budget carried) ≡ Ok (filter, after_reading 2 last_budget last)
        → program schema [] (drafted table.tree filter (col 1 0 ∷ []) []) ≡ Ok (record { lets = []; body = q })
        → compiled schema text ≡ Ok (with_command p ([], (command.Delete at (record { lets = []; body = q }), None)))
    unfolding compiled planned timed meaning returning shows command_in delete deleted
    compiled_delete text p q parses untimed is all none filter_is typed =
        let picks = rw (all, none) at (picked_is (col 1 0 ∷ []) filter_is) in
        rw (parses, is, untimed, finds, there, picks, typed) refl

    module _ (sets : List (Name × Expr)) (places : List ℕ) (terms project : List Term) (q : Query)
        (assigned_is : assigned (only_over schema table.name at [] false) table sets (fresh 2 max_budget) ≡ Ok ((places, terms), after_reading 2 budget carried)) (row_is : row table None places (col 1 0 ∷ []) terms ≡ Ok project)
        (filter_is : tests lower (only_over schema table.name at [] false) [] test (after_reading 2 budget carried) ≡ Ok (filter, after_reading 2 last_budget last)) where
      updated_is : updated schema at table sets test ≡ Ok (drafted table.tree filter project [])
      unfolding updated updated_in
      updated_is = rw (assigned_is, row_is, picked_is project filter_is) refl

      pub compiled_update : (text : List ℕ) (p : Parsed) → first text ≡ Ok p → p.formats ≡ [] → p.statement ≡ written.Update name sets test []
          → program schema [] (drafted table.tree filter project []) ≡ Ok (record { lets = []; body = q })
          → compiled schema text ≡ Ok (with_command p ([], (command.Update at (record { lets = []; body = q }), None)))
      unfolding compiled planned timed meaning returning shows command_in update
      compiled_update text p parses untimed is typed = rw (parses, is, untimed, finds, there, updated_is, typed) refl
