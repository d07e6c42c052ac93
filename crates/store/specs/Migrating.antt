-- Private: migration from layout 1 to layout 2.
use Rattle.std.specs.Prelude.{◌≡◌, ◌≤◌, ◌+◌, ◌^◌, ℕ, ℤ, true, false, None, codes, pos, List, [], ◌∷◌, IsTrue}
use Rattle.std.specs.List.{AllByRecursion}
use Rattle.sqlite_value.specs.declared.value.Value.TheVariants.{Int, Text}
use Rattle.sqlite_value.specs.declared.keys.Collation.TheVariants.{Binary}
use Rattle.sqlite_sql.specs.declared.ops.BinaryOp.TheVariants.{Compare}
use Rattle.sqlite_sql.specs.declared.ops.CompareOp.TheVariants.{Eq}
use Rattle.sqlite_sql.specs.Term.{Term, lit, col, op2}
use Rattle.sqlite_sql.specs.Query.{Query}
use Rattle.sqlite_schema.specs.declared.schema.Schema.{Schema}
use Rattle.sqlite_schema.specs.declared.schema.Table.{Table}
use Rattle.sqlite_schema.specs.Names.{table_named}
use Rattle.sqlite_catalog.specs.Change.{next_tree}
use Rattle.sqlite.specs.Does.{lacks_sequence}
use Rattle.sqlite.specs.Effect.{IsDatabase}
use Rattle.sqlite.specs.State.{State}
use Rattle.gtid.specs.Identifier.{AreGtids}
use Rattle.store.specs.State.{Content}
use Rattle.store.specs.Layout.{held, spans, follow, meta_tree, held_tree, HasTable, HasMeta, IsApart, IsNoParent, IsLaidOut, among}
use Rattle.store.specs.Rows.{HasRowids, SaysLayout, IsMetaRow, IsHeldRow, StandsForFirst, bag_of, count, meta_rows, held_rows, span_rows, follow_rows}
use Rattle.store.specs.Beside.{LiesBeside}
use Rattle.store.specs.Making.{with_tables, trees_of}

-- ---- the tables, one statement after another

-- The schema has meta and held among any other tables, and spans and follow can be made beside them.
pub record IsCut (schema : Schema) : Type 0 where
  pub meta : HasMeta schema
  pub held : HasTable schema held
  pub no_spans : table_named schema (codes "spans") ≡ None
  pub no_follow : table_named schema (codes "follow") ≡ None
  pub meta_free : AllByRecursion (IsApart schema (meta_tree schema)) schema.tables
  pub held_free : AllByRecursion (IsApart schema (held_tree schema)) schema.tables
  pub spans_free : IsNoParent schema (codes "spans")
  pub counted : lacks_sequence schema ≡ false
  pub room : next_tree schema + 4 ≤ 2 ^ 31

abbrev pub made_spans : List Table
made_spans = spans ∷ []

abbrev pub made_both : List Table
made_both = follow ∷ made_spans

-- These tables have been made, and there is no row in them.
pub record HasTables (made : List Table) (s : State) : Type 0 where
  pub base : Schema
  pub cut : IsCut base
  pub schema_is : s.now.schema ≡ with_tables base made
  pub empty : AllByRecursion (λ tree. s.now.trees tree ≡ []) (trees_of base made)

-- There are all tables of layout 2, and spans and follow have no row. No table refers to meta.
pub record HasBare (s : State) : Type 0 where
  pub laid_out : IsLaidOut s.now.schema
  pub spans : span_rows s.now ≡ []
  pub follow : follow_rows s.now ≡ []
  pub meta_free : AllByRecursion (IsApart s.now.schema (meta_tree s.now.schema)) s.now.schema.tables

-- ---- the statements

abbrev pub drop_executed_text : List ℕ
drop_executed_text = codes "DROP TABLE executed"

abbrev pub raise_text : List ℕ
raise_text = codes "UPDATE meta SET v = 2 WHERE k = 'layout'"

abbrev pub says_layout : List Term
says_layout = op2 (Compare Eq Binary) (col 1 1) (lit (Text (codes "layout"))) ∷ []

abbrev pub raise_query : ℕ → Query
raise_query tree = among tree says_layout (col 1 0 ∷ col 1 0 ∷ col 1 1 ∷ lit (Int (pos 2)) ∷ [])

-- ---- inside the transaction

-- The database is of layout 1 and stands for this content, and nothing has changed yet.
pub record IsFirstInside (content : Content) (s : State) : Type 0 where
  pub is_open : IsTrue s.is_open
  pub inside : s.in_transaction ≡ true
  pub settled : s.now ≡ s.committed
  pub meta_apart : HasRowids (meta_rows s.now)
  pub held_apart : HasRowids (held_rows s.now)
  pub stands : StandsForFirst s.now content
  pub sound : IsDatabase s.now

-- There are such tables, meta is lawful and says this layout, and the rows of held are those of the content. What lies beside is as it
-- was committed.
pub record IsMigrating (AreThere : State → Type 0) (layout : ℤ) (content : Content) (s : State) : Type 0 where
  pub is_open : IsTrue s.is_open
  pub inside : s.in_transaction ≡ true
  pub tables : AreThere s
  pub meta_apart : HasRowids (meta_rows s.now)
  pub says : SaysLayout layout (meta_rows s.now)
  pub meta : AllByRecursion IsMetaRow (meta_rows s.now)
  pub held_apart : HasRowids (held_rows s.now)
  pub held : AllByRecursion IsHeldRow (held_rows s.now)
  pub rows : content.rows ≡ bag_of (count (held_rows s.now))
  pub lawful : AreGtids content.executed
  pub sound : IsDatabase s.now
  pub beside : LiesBeside s.committed s.now
