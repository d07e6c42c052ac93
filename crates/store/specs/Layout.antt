-- The tables of the store, and the statements on them.
use Rattle.std.specs.Prelude.{◌≡◌, ◌≢◌, ◌<◌, ◌≤◌, ◌+◌, ◌^◌, ◌==◌, true, false, [], ◌∷◌, ◌++◌, None, Some, codes, List, ℕ, pos, negsuc, IfSome, find, slice_get, unwrap_or, option_and_then}
use Rattle.std.specs.Option.{option_map}
use Rattle.std.specs.List.{AllByRecursion}
use Rattle.sqlite_value.specs.declared.value.Value.TheVariants.{Null, Int}
use Rattle.sqlite_value.specs.declared.keys.Collation.TheVariants.{Binary}
use Rattle.sqlite_value.specs.Keys.{plain}
use Rattle.sqlite_sql.specs.declared.ops.BinaryOp.TheVariants.{Compare}
use Rattle.sqlite_sql.specs.declared.ops.CompareOp.TheVariants.{Gt, Eq}
use Rattle.sqlite_sql.specs.declared.ops.UnaryOp.TheVariants.{ToNumeric}
use Rattle.sqlite_sql.specs.Term.{Term, lit, col, op1, op2}
use Rattle.sqlite_sql.specs.Query.{Query, inner, end}
use Rattle.sqlite_schema.specs.declared.schema.Table.{Table}
use Rattle.sqlite_schema.specs.declared.schema.Column.{Column}
use Rattle.sqlite_schema.specs.declared.schema.Schema.{Schema}
use Rattle.sqlite_schema.specs.declared.schema.Kind.{Kind}
use Rattle.sqlite_schema.specs.declared.schema.Kind.TheVariants.{Integer, Text, Any}
use Rattle.sqlite_schema.specs.Names.{same_name, table_named}
use Rattle.sqlite_schema.specs.Rules.{parent_key}
use Rattle.sqlite_catalog.specs.Change.{next_tree}
use Rattle.sqlite.specs.Does.{lacks_sequence}

-- ---- the texts that make the tables

abbrev pub meta_text : List ℕ
meta_text = codes "CREATE TABLE meta (k TEXT PRIMARY KEY, v INTEGER NOT NULL)"

abbrev pub held_text : List ℕ
held_text = codes "CREATE TABLE held (schema_name BLOB NOT NULL, table_name BLOB NOT NULL, image BLOB NOT NULL, n INTEGER NOT NULL CHECK (n > 0), PRIMARY KEY (schema_name, table_name, image))"

abbrev pub spans_text : List ℕ
spans_text = codes "CREATE TABLE spans (source BLOB NOT NULL, lo INTEGER NOT NULL, hi INTEGER NOT NULL, PRIMARY KEY (source, lo))"

abbrev pub follow_text : List ℕ
follow_text = codes "CREATE TABLE follow (schema_name BLOB NOT NULL, table_name BLOB NOT NULL, PRIMARY KEY (schema_name, table_name))"

-- ---- the tables

abbrev pub required : List ℕ → Kind → Column
required name kind = record { name = name; kind = kind; is_strict = false; not_null = true; default = Null; collation = Binary }

-- a table of these columns whose primary key is those with these numbers, from 1
abbrev pub keyed : List ℕ → List Column → List ℕ → List Term → Table
keyed name columns key_columns checks = record {
  name = name;
  tree = 0;
  columns = columns;
  key = None;
  primary = key_columns;
  uniques = key_columns ∷ [];
  orders = plain ∷ [];
  checks = checks;
  references = [];
  computed = [];
  stamps = record { places = []; terms = []; formats = [] };
  is_counted = false;
}

abbrev pub meta : Table
meta = keyed (codes "meta") (record { name = codes "k"; kind = Text; is_strict = false; not_null = false; default = Null; collation = Binary } ∷ required (codes "v") Integer ∷ []) (1 ∷ []) []

abbrev pub held : Table
held = keyed (codes "held") (required (codes "schema_name") Any ∷ required (codes "table_name") Any ∷ required (codes "image") Any ∷ required (codes "n") Integer ∷ [])
    (1 ∷ 2 ∷ 3 ∷ []) (op2 (Compare Gt Binary) (col 1 4) (lit (Int (pos 0))) ∷ [])

abbrev pub spans : Table
spans = keyed (codes "spans") (required (codes "source") Any ∷ required (codes "lo") Integer ∷ required (codes "hi") Integer ∷ []) (1 ∷ 2 ∷ []) []

abbrev pub follow : Table
follow = keyed (codes "follow") (required (codes "schema_name") Any ∷ required (codes "table_name") Any ∷ []) (1 ∷ 2 ∷ []) []

-- of layout 1
abbrev pub executed : Table
executed = keyed (codes "executed") (required (codes "source") Any ∷ required (codes "number") Integer ∷ []) (1 ∷ 2 ∷ []) []

-- ---- where a schema has them

-- the tree of the table that the name finds
unfoldable pub tree_named : Schema → List ℕ → ℕ
tree_named schema name = unwrap_or (option_map (λ t. t.tree) (option_and_then (slice_get schema.tables) (table_named schema name))) 0

abbrev pub meta_tree : Schema → ℕ
meta_tree schema = tree_named schema (codes "meta")

abbrev pub held_tree : Schema → ℕ
held_tree schema = tree_named schema (codes "held")

abbrev pub spans_tree : Schema → ℕ
spans_tree schema = tree_named schema (codes "spans")

abbrev pub follow_tree : Schema → ℕ
follow_tree schema = tree_named schema (codes "follow")

-- of layout 1
abbrev pub executed_tree : Schema → ℕ
executed_tree schema = tree_named schema (codes "executed")

abbrev pub meta_at : Schema → Table
meta_at schema = record meta { tree = meta_tree schema }

abbrev pub held_at : Schema → Table
held_at schema = record held { tree = held_tree schema }

abbrev pub spans_at : Schema → Table
spans_at schema = record spans { tree = spans_tree schema }

abbrev pub follow_at : Schema → Table
follow_at schema = record follow { tree = follow_tree schema }

abbrev pub executed_at : Schema → Table
executed_at schema = record executed { tree = executed_tree schema }

-- The name of the table, its index in the list and its tree each find the table.
pub record IsFound (schema : Schema) (at : ℕ) (table : Table) : Type 0 where
  pub by_name : table_named schema table.name ≡ Some at
  pub by_index : slice_get schema.tables at ≡ Some table
  pub by_tree : find (λ t. t.tree == table.tree) schema.tables ≡ Some table
  pub stored : table.tree < 2 ^ 31

-- The schema has the table, as it is declared, anywhere in the list and on any tree.
pub record HasTable (schema : Schema) (table : Table) : Type 0 where
  pub at : ℕ
  pub found : IsFound schema at (record table { tree = tree_named schema table.name })

abbrev pub HasMeta : Schema → Type 0
HasMeta schema = HasTable schema meta

-- No reference of the table points to this tree.
abbrev pub IsApart : Schema → ℕ → Table → Type 0
IsApart schema tree table = AllByRecursion (λ ref. IfSome (parent_key schema.tables ref) (λ key. key.0 ≢ tree)) table.references

-- The schema has the tables of the store among any others, and no table refers to held or spans.
pub record IsLaidOut (schema : Schema) : Type 0 where
  pub meta : HasMeta schema
  pub held : HasTable schema held
  pub spans : HasTable schema spans
  pub follow : HasTable schema follow
  pub held_free : AllByRecursion (IsApart schema (held_tree schema)) schema.tables
  pub spans_free : AllByRecursion (IsApart schema (spans_tree schema)) schema.tables

-- No table has a reference that names this table.
abbrev pub IsNoParent : Schema → List ℕ → Type 0
IsNoParent schema name = AllByRecursion (λ t. AllByRecursion (λ ref. same_name name ref.parent ≡ false) t.references) schema.tables

-- The schema has no table of either layout, and the tables of layout 2 can be made beside its own: no reference names held
-- or spans, AUTOINCREMENT has its counters if a table has it, and there are trees for four tables and their indexes.
pub record IsVacant (schema : Schema) : Type 0 where
  pub no_meta : table_named schema (codes "meta") ≡ None
  pub no_executed : table_named schema (codes "executed") ≡ None
  pub no_held : table_named schema (codes "held") ≡ None
  pub no_spans : table_named schema (codes "spans") ≡ None
  pub no_follow : table_named schema (codes "follow") ≡ None
  pub held_free : IsNoParent schema (codes "held")
  pub spans_free : IsNoParent schema (codes "spans")
  pub counted : lacks_sequence schema ≡ false
  pub room : next_tree schema + 8 ≤ 2 ^ 31

-- The schema has the tables of layout 1 among any others, none of which is named spans or follow or has the tree of executed.
-- No table refers to meta or held, and no reference names executed or spans. AUTOINCREMENT has its counters if a table has it, and
-- there are trees for two tables and their indexes.
pub record IsFirstLaidOut (schema : Schema) : Type 0 where
  pub meta : HasMeta schema
  pub executed : HasTable schema executed
  pub held : HasTable schema held
  pub no_spans : table_named schema (codes "spans") ≡ None
  pub no_follow : table_named schema (codes "follow") ≡ None
  pub alone : AllByRecursion (λ t. t.tree ≡ executed_tree schema → t.name ≡ codes "executed") schema.tables
  pub meta_free : AllByRecursion (IsApart schema (meta_tree schema)) schema.tables
  pub held_free : AllByRecursion (IsApart schema (held_tree schema)) schema.tables
  pub executed_free : IsNoParent schema (codes "executed")
  pub spans_free : IsNoParent schema (codes "spans")
  pub counted : lacks_sequence schema ≡ false
  pub room : next_tree schema + 4 ≤ 2 ^ 31

-- of an empty file
abbrev pub no_schema : Schema
no_schema = record { tables = []; indexes = []; views = [] }

-- ---- the statements on one row of held

abbrev pub read_text : List ℕ
read_text = codes "SELECT n FROM held WHERE schema_name = ?1 AND table_name = ?2 AND image = ?3"

abbrev pub insert_text : List ℕ
insert_text = codes "INSERT INTO held VALUES (?1, ?2, ?3, 1)"

-- of eight rows of a table
abbrev pub insert_eight_text : List ℕ
insert_eight_text = codes "INSERT INTO held VALUES (?1, ?2, ?3, 1), (?1, ?2, ?4, 1), (?1, ?2, ?5, 1), (?1, ?2, ?6, 1), (?1, ?2, ?7, 1), (?1, ?2, ?8, 1), (?1, ?2, ?9, 1), (?1, ?2, ?10, 1)"

abbrev pub update_text : List ℕ
update_text = codes "UPDATE held SET n = ?4 WHERE schema_name = ?1 AND table_name = ?2 AND image = ?3"

abbrev pub delete_text : List ℕ
delete_text = codes "DELETE FROM held WHERE schema_name = ?1 AND table_name = ?2 AND image = ?3 AND n = ?4"

-- ---- the statements on one row of spans

abbrev pub add_span_text : List ℕ
add_span_text = codes "INSERT INTO spans VALUES (?1, ?2, ?3)"

abbrev pub drop_span_text : List ℕ
drop_span_text = codes "DELETE FROM spans WHERE source = ?1 AND lo = ?2"

abbrev pub set_end_text : List ℕ
set_end_text = codes "UPDATE spans SET hi = ?3 WHERE source = ?1 AND lo = ?2"

-- ---- what they mean

abbrev pub equals : ℕ → ℕ → Term
equals number parameter = op2 (Compare Eq Binary) (col 1 number) (col 0 parameter)

abbrev pub has_key : List Term
has_key = equals 1 0 ∷ equals 2 1 ∷ equals 3 2 ∷ []

-- a column of integers is compared with what the parameter is as a number
abbrev pub has_count : List Term
has_count = equals 1 0 ∷ equals 2 1 ∷ equals 3 2 ∷ op2 (Compare Eq Binary) (col 1 4) (op1 ToNumeric (col 0 3)) ∷ []

abbrev pub has_start : List Term
has_start = equals 1 0 ∷ op2 (Compare Eq Binary) (col 1 2) (op1 ToNumeric (col 0 1)) ∷ []

-- the rows of a tree that pass the tests
abbrev pub among : ℕ → List Term → List Term → Query
among tree tests shown = record {
  from = inner tree end;
  filter = tests;
  group = None;
  project = shown;
  distinct = false;
  collations = [];
  order = [];
  limit = lit (Int (negsuc 0));
  offset = lit (Int (pos 0));
}

abbrev pub read_query : ℕ → Query
read_query tree = among tree has_key (col 1 4 ∷ [])

abbrev pub delete_query : ℕ → Query
delete_query tree = among tree has_count (col 1 0 ∷ [])

abbrev pub update_query : ℕ → Query
update_query tree = among tree has_key (col 1 0 ∷ col 1 0 ∷ col 1 1 ∷ col 1 2 ∷ col 1 3 ∷ col 0 3 ∷ [])

-- a new row of held, whose image is the parameter of this number, from 0
abbrev pub new_row : ℕ → List Term
new_row image = lit Null ∷ col 0 0 ∷ col 0 1 ∷ col 0 image ∷ lit (Int (pos 1)) ∷ []

abbrev pub insert_terms : List Term
insert_terms = new_row 2

abbrev pub insert_eight_terms : List Term
insert_eight_terms = new_row 2 ++ new_row 3 ++ new_row 4 ++ new_row 5 ++ new_row 6 ++ new_row 7 ++ new_row 8 ++ new_row 9

abbrev pub add_span_terms : List Term
add_span_terms = lit Null ∷ col 0 0 ∷ col 0 1 ∷ col 0 2 ∷ []

abbrev pub drop_span_query : ℕ → Query
drop_span_query tree = among tree has_start (col 1 0 ∷ [])

abbrev pub set_end_query : ℕ → Query
set_end_query tree = among tree has_start (col 1 0 ∷ col 1 0 ∷ col 1 1 ∷ col 1 2 ∷ col 0 2 ∷ [])
