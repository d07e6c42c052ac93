-- Private: making the tables of a new database.
use Rattle.std.specs.Prelude.{◌≡◌, ℕ, true, codes, pos, List, [], ◌∷◌, IsTrue}
use Rattle.std.specs.List.{AllByRecursion}
use Rattle.sqlite_value.specs.declared.value.Value.TheVariants.{Null, Int, Text}
use Rattle.sqlite_value.specs.Order.{Row}
use Rattle.sqlite_sql.specs.Term.{Term, lit, col}
use Rattle.sqlite_schema.specs.declared.schema.Schema.{Schema}
use Rattle.sqlite_schema.specs.declared.schema.Table.{Table}
use Rattle.sqlite_catalog.specs.Change.{created, next_tree}
use Rattle.sqlite.specs.Effect.{IsDatabase}
use Rattle.sqlite.specs.State.{State}
use Rattle.binlog.specs.Filter.{Names}
use Rattle.store.specs.State.{Content}
use Rattle.store.specs.Layout.{meta, held, spans, follow, IsVacant, IsLaidOut}
use Rattle.store.specs.Rows.{StandsFor, AreNames, meta_rows, held_rows, span_rows, follow_rows}
use Rattle.store.specs.Inside.{IsWorking}
use Rattle.store.specs.Beside.{LiesBeside}

-- ---- the tables, one after another

-- the schema with these tables, the last of them first
abbrev pub with_tables : Schema → List Table → Schema
with_tables base [] = base
with_tables base (t ∷ ts) = created (with_tables base ts) t

-- their trees
abbrev pub trees_of : Schema → List Table → List ℕ
trees_of base [] = []
trees_of base (t ∷ ts) = next_tree (with_tables base ts) ∷ trees_of base ts

abbrev pub with_meta : List Table
with_meta = meta ∷ []

abbrev pub with_held : List Table
with_held = held ∷ with_meta

abbrev pub with_spans : List Table
with_spans = spans ∷ with_held

-- all four of them
abbrev pub new_layout : List Table
new_layout = follow ∷ with_spans

-- ---- the rows of a new database

abbrev pub layout_text : List ℕ
layout_text = codes "INSERT INTO meta VALUES ('layout', 2)"

abbrev pub layout_terms : List Term
layout_terms = lit Null ∷ lit (Text (codes "layout")) ∷ lit (Int (pos 2)) ∷ []

abbrev pub add_name_text : List ℕ
add_name_text = codes "INSERT INTO follow VALUES (?1, ?2)"

abbrev pub add_name_terms : List Term
add_name_terms = lit Null ∷ col 0 0 ∷ col 0 1 ∷ []

-- the one row of meta
abbrev pub layout_row : Row
layout_row = Int (pos 1) ∷ Text (codes "layout") ∷ Int (pos 2) ∷ []

-- ---- inside the transaction

-- These tables have been made, and there is no row in them. What lies beside is as it was committed.
pub record IsMaking (made : List Table) (s : State) : Type 0 where
  pub is_open : IsTrue s.is_open
  pub inside : s.in_transaction ≡ true
  pub base : Schema
  pub vacant : IsVacant base
  pub schema_is : s.now.schema ≡ with_tables base made
  pub empty : AllByRecursion (λ tree. s.now.trees tree ≡ []) (trees_of base made)
  pub sound : IsDatabase s.now
  pub beside : LiesBeside s.committed s.now

-- There are all tables, the row of meta and these names, and no other row of theirs. What lies beside is as it was committed.
pub record IsNaming (names : Names) (s : State) : Type 0 where
  pub is_open : IsTrue s.is_open
  pub inside : s.in_transaction ≡ true
  pub laid_out : IsLaidOut s.now.schema
  pub meta : meta_rows s.now ≡ layout_row ∷ []
  pub held : held_rows s.now ≡ []
  pub spans : span_rows s.now ≡ []
  pub follow : AreNames (follow_rows s.now) names
  pub sound : IsDatabase s.now
  pub beside : LiesBeside s.committed s.now

-- The database of the transaction stands for this content.
pub record HasMade (s : State) (names : Names) (content : Content) : Type 0 where
  pub working : IsWorking s
  pub stands : StandsFor s.now names content
