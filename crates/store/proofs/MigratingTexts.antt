-- What the text of the migration that writes a row means.
use Rattle.store.proofs.Names.{◌≡◌, ◌<◌, ◌-◌, ℕ, suc, true, false, nat_lt, List, [], ◌∷◌, codes, pos, Ok, Some, None, refl, arith, lt-ltb, Binary, Null, Int, Term, lit, col, op2, Table, Schema, Update, Expr, Parsed, Carried, nothing, Name, Context, lower, IsFound, meta}
use Rattle.sqlite_value.specs.declared.value.Value.TheVariants.{Text as Bytes}
use Rattle.sqlite_sql.specs.declared.ops.BinaryOp.TheVariants as by
use Rattle.sqlite_sql.specs.declared.ops.CompareOp.TheVariants as compare
use Rattle.sqlite_schema.specs.declared.schema.Column.{Column as Declared}
use Rattle.sqlite_schema.specs.declared.schema.Kind.TheVariants.{Text}
use Rattle.sqlite_schema.specs.Names.{same_name}
use Rattle.sqlite_ast.specs.declared.Binary.TheVariants as binary
use Rattle.sqlite_ast.specs.declared.Expr.TheVariants as e
use Rattle.sqlite_ast.specs.declared.Statement.TheVariants as written
use Rattle.sqlite_resolve.specs.Lowering.{spend, begin, finish, chosen, first_found}
use Rattle.sqlite_resolve.specs.Compare.{compared, converted, affinity_of, spelled}
use Rattle.sqlite_resolve.specs.Body.{tests}
use Rattle.sqlite_resolve.specs.Expr.{lower_to, node, opened, passes, operation, both, combine, wanted_truth, tests_truth, tests_alias}
use Rattle.sqlite_resolve.specs.Write.{assigned, row}
use Rattle.sqlite_resolve.specs.Compile.{first}
use Rattle.sqlite_tied.specs.Compute.{everything}
use Rattle.store.specs.Migrating.{raise_text, says_layout, raise_query}
use Rattle.store.proofs.AnySchema.{Means, means}
use Rattle.store.proofs.Compiler.{written_trees, only_over, after_reading, less, StandsFor, stands_for_column, affinity_is, tests_are, program_is, compiled_update}

abbrev layout_test : Expr
layout_test = e.Binary binary.Eq (e.Column None (codes "k")) (e.Text (codes "layout"))

abbrev set_layout : List (Name × Expr)
set_layout = (codes "v", e.Integer (codes "2")) ∷ []

abbrev raise_parsed : Parsed
raise_parsed = record { statement = written.Update (codes "meta") set_layout (Some layout_test) []; names = []; formats = []; start = 0; end = 40; tail = 40 }

raise_parses : first raise_text ≡ Ok raise_parsed
unfolding everything
raise_parses = refl

module _ (schema : Schema) (at tree : ℕ) (f : IsFound schema at (record meta { tree = tree })) where
  abbrev meta_table : Table
  meta_table = record meta { tree = tree }

  abbrev cx : Context
  cx = only_over schema (codes "meta") at [] false

  abbrev key_column : Declared
  key_column = record { name = codes "k"; kind = Text; is_strict = false; not_null = false; default = Null; collation = Binary }

  abbrev carried_key : Carried
  carried_key = record { collation = Some Binary; is_written = false }

  key_stands : StandsFor cx (codes "k") (col 1 1) carried_key (codes "k")
  unfolding same_name
  key_stands = stands_for_column schema at meta_table f.by_index (codes "meta") [] false (codes "k") 0 key_column refl refl

  key_compared : compared cx (by.Compare compare.Eq Binary) (col 1 1) (lit (Bytes (codes "layout"))) ≡ op2 (by.Compare compare.Eq Binary) (col 1 1) (lit (Bytes (codes "layout")))
  unfolding compared affinity_of converted spelled
  key_compared = rw (affinity_is schema at meta_table f.by_index (codes "meta") [] false 0 key_column refl) refl

  layout_lowered : (budget : ℕ) (last : Carried) (depth : ℕ) → 3 < budget → lower_to (suc (suc depth)) cx layout_test (after_reading 2 budget last) ≡ Ok (op2 (by.Compare compare.Eq Binary) (col 1 1) (lit (Bytes (codes "layout"))), after_reading 2 (less 3 budget) nothing)
  unfolding lower_to node opened passes operation both combine wanted_truth tests_truth tests_alias spend begin finish chosen first_found written_trees
  layout_lowered budget last depth enough =
      let first : nat_lt 1 budget ≡ true = lt-ltb _ _ (omega arith) in
      let second : nat_lt 1 (budget - 1) ≡ true = lt-ltb _ _ (omega arith) in
      let third : nat_lt 1 (budget - 1 - 1) ≡ true = lt-ltb _ _ (omega arith) in
      rw (first, second, key_stands.is, third, key_compared) refl

  layout_tests : tests lower cx [] (Some layout_test) (after_reading 2 99999 nothing) ≡ Ok (says_layout, after_reading 2 99996 nothing)
  layout_tests = tests_are cx layout_test _ (after_reading 2 99999 nothing) (after_reading 2 99996 nothing) (layout_lowered 99999 nothing 698 (omega arith))

  abbrev raised_row : List Term
  raised_row = col 1 0 ∷ col 1 0 ∷ col 1 1 ∷ lit (Int (pos 2)) ∷ []

  raise_assigns : assigned cx meta_table set_layout (after_reading 2 100000 nothing) ≡ Ok ((2 ∷ [], lit (Int (pos 2)) ∷ []), after_reading 2 99999 nothing)
  unfolding everything
  raise_assigns = refl

  raise_row : row meta_table None (2 ∷ []) (col 1 0 ∷ []) (lit (Int (pos 2)) ∷ []) ≡ Ok raised_row
  unfolding everything
  raise_row = refl

  pub raise_means : Means schema raise_text (Update at (record { lets = []; body = raise_query tree }))
  raise_means =
      means schema raise_text raise_parsed _
      (compiled_update schema (codes "meta") at meta_table f.by_name f.by_index (Some layout_test) says_layout 99999 99996 nothing nothing set_layout (2 ∷ []) (lit (Int (pos 2)) ∷ []) raised_row (raise_query tree) raise_assigns raise_row
      layout_tests raise_text raise_parsed raise_parses refl refl (program_is schema at meta_table f says_layout raised_row [] refl refl refl))
