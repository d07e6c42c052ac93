-- What lies in a database beside the tables of the store.
use Rattle.std.specs.Prelude.{◌≡◌, ◌≤◌, ◌+◌, ◌%◌, pos, ℕ, Bool, not, ◌&&◌, ◌==◌, is_some, if◌then◌else◌, List, [], ◌∷◌, filter, codes, IsPermutation}
use Rattle.std.specs.List.{AllByRecursion, list_any}
use Rattle.sqlite_value.specs.Order.{Row, column}
use Rattle.sqlite_trees.specs.Tree.{has_rowid}
use Rattle.sqlite_trees.specs.Objects.{catalog_tree, version_tree, number_in}
use Rattle.sqlite_schema.specs.declared.schema.Table.{Table}
use Rattle.sqlite_schema.specs.declared.schema.Index.{Index}
use Rattle.sqlite_schema.specs.declared.schema.Schema.{Schema}
use Rattle.sqlite_schema.specs.Names.{same_name, table_named}
use Rattle.sqlite_catalog.specs.Calls.{KeepsForeign}
use Rattle.sqlite.specs.Effect.{Database}
use Rattle.store.specs.Rows.{is_text, meta_rows}

-- The names of the tables of layout 2, and where there is no table spans, also of layout 1.
unfoldable pub own_names : Schema → List (List ℕ)
own_names schema = codes "meta" ∷ codes "held" ∷ codes "spans" ∷ codes "follow" ∷ (if is_some (table_named schema (codes "spans")) then [] else codes "executed" ∷ [])

-- whether a table with one of these names has this tree
unfoldable pub is_own : List (List ℕ) → Schema → ℕ → Bool
is_own names schema tree = list_any (λ t. (t.tree == tree) && list_any (same_name t.name) names) schema.tables

-- the other tables
unfoldable pub tables_beside : List (List ℕ) → Schema → List Table
tables_beside names schema = filter (λ t. not (is_own names schema t.tree)) schema.tables

-- and their indexes
unfoldable pub indexes_beside : List (List ℕ) → Schema → List Index
indexes_beside names schema = filter (λ i. not (is_own names schema i.table)) schema.indexes

-- a row of meta that does not say the layout
abbrev pub has_other_key : Row → Bool
has_other_key row = not (is_text (codes "layout") (column row 1))

-- The rows of meta with other keys than `layout`, and none where there is no such table.
unfoldable pub other_keys : Database → List Row
other_keys db = if is_some (table_named db.schema (codes "meta")) then filter has_other_key (meta_rows db) else []

-- The list of objects has the tree as one whose SQL is not understood, as a table WITHOUT ROWID, by this row and no other.
pub record IsFrozen (objects : List Row) (tree : ℕ) (row : Row) : Type 0 where
  pub alone : filter (has_rowid (pos (tree + 1))) objects ≡ row ∷ []
  pub frozen : 4 ≤ number_in (column row 5) % 8

-- Beside the tables of the store there are the same tables, indexes and views: declared as they were, on the same trees. The tables have
-- the same rows, and the indexes the same entries. A tree whose SQL is not understood is listed as it was and has the same rows, the texts
-- of those trees and of the triggers stay, and so do the user version and the rows of meta with other keys than `layout`.
pub record LiesBeside (old new : Database) : Type 0 where
  pub tables : tables_beside (own_names old.schema) new.schema ≡ tables_beside (own_names old.schema) old.schema
  pub indexes : indexes_beside (own_names old.schema) new.schema ≡ indexes_beside (own_names old.schema) old.schema
  pub views : new.schema.views ≡ old.schema.views
  pub rows : AllByRecursion (λ t. new.trees t.tree ≡ old.trees t.tree) (tables_beside (own_names old.schema) old.schema)
  pub entries : AllByRecursion (λ i. IsPermutation (old.trees i.tree) (new.trees i.tree)) (indexes_beside (own_names old.schema) old.schema)
  pub frozen : (tree : ℕ) (row : Row) → IsFrozen (old.trees catalog_tree) tree row → IsFrozen (new.trees catalog_tree) tree row × (new.trees tree ≡ old.trees tree)
  pub texts : KeepsForeign (old.trees catalog_tree) (new.trees catalog_tree)
  pub version : new.trees version_tree ≡ old.trees version_tree
  pub keys : other_keys new ≡ other_keys old
