-- What the rows of the tables stand for.
use Rattle.std.specs.Prelude.{◌≡◌, ◌≤◌, ℕ, ◌+◌, ◌-◌, ℤ, pos, Bool, false, IsTrue, ◌&&◌, ◌<◌, ◌^◌, nat_le, if◌then◌else◌, List, [], ◌∷◌, map, filter, bytes_eq, codes, Option, None, Some, IsPermutation}
use Rattle.std.specs.Ordering.{is_eq}
use Rattle.std.specs.List.{AllByRecursion, IsDistinct}
use Rattle.std.specs.FinSet as set
use Rattle.sqlite_value.specs.declared.value.Value.{Value}
use Rattle.sqlite_value.specs.declared.value.Value.TheVariants.{Int, Text, Blob}
use Rattle.sqlite_value.specs.Order.{Row, column, value_cmp}
use Rattle.sqlite_trees.specs.Tree.{rowid}
use Rattle.sqlite_trees.specs.View.{is_int}
use Rattle.sqlite.specs.Effect.{Database}
use Rattle.gtid.specs.Identifier.{Id, Ids, IsSource, IsGtid, AreGtids}
use Rattle.gtid.specs.Span.{IsLeastList}
use Rattle.gtid.specs.declared.span.Span.{Span}
use Rattle.binlog.specs.Filter.{Name, Names}
use Rattle.gather.specs.Image.{IsSomeImage, image}
use Rattle.store.specs.declared.table.held.RowKey.{RowKey}
use Rattle.store.specs.State.{TableRow, Bag, Content, has_image}
use Rattle.store.specs.Changes.{most}
use Rattle.store.specs.Layout.{IsLaidOut, IsFirstLaidOut, meta_tree, executed_tree, held_tree, spans_tree, follow_tree}

-- ---- The tables.

abbrev pub meta_rows : Database → List Row
meta_rows db = db.trees (meta_tree db.schema)

abbrev pub held_rows : Database → List Row
held_rows db = db.trees (held_tree db.schema)

abbrev pub span_rows : Database → List Row
span_rows db = db.trees (spans_tree db.schema)

abbrev pub follow_rows : Database → List Row
follow_rows db = db.trees (follow_tree db.schema)

-- whether two rows have the same rowid
abbrev pub alike : Row → Row → Bool
alike a b = is_eq (value_cmp (rowid a) (rowid b))

-- The rowids are integers, and no two are the same.
pub record HasRowids (rows : List Row) : Type 0 where
  pub apart : IsDistinct alike rows
  pub keyed : AllByRecursion (λ r. IsTrue (is_int (rowid r))) rows

abbrev pub is_blob : List ℕ → Value → Bool
is_blob b (Blob x) = bytes_eq x b
is_blob b _ = false

abbrev pub natural : ℤ → ℕ
natural (pos n) = n
natural _ = 0

abbrev pub number_in : Value → ℕ
number_in (Int n) = natural n
number_in _ = 0

abbrev pub blob_in : Value → List ℕ
blob_in (Blob b) = b
blob_in _ = []

-- ---- held

-- the key of a row of held: the names of schema and table, and the stored image
pub record Key : Type 0 where
  pub schema : List ℕ
  pub table : List ℕ
  pub image : List ℕ

abbrev pub key_of : List ℕ → List ℕ → List ℕ → Key
key_of schema table image = record { schema = schema; table = table; image = image }

abbrev pub key_in : RowKey → Key
key_in row = key_of row.schema.now row.table.now row.image.now

abbrev pub same_key : Key → Key → Bool
same_key a b = bytes_eq a.schema b.schema && (bytes_eq a.table b.table && bytes_eq a.image b.image)

-- a count for each key
abbrev pub KeyCounts : Type 0
KeyCounts = Key → ℕ

abbrev pub with_one : Key → KeyCounts → KeyCounts
with_one key counts = λ k. if same_key key k then counts k + 1 else counts k

abbrev pub without_one : Key → KeyCounts → KeyCounts
without_one key counts = λ k. if same_key key k then counts k - 1 else counts k

abbrev pub is_at : Key → Row → Bool
is_at key row = is_blob key.schema (column row 1) && (is_blob key.table (column row 2) && is_blob key.image (column row 3))

-- the row has this key and this count
abbrev pub has_n : Key → ℤ → Row → Bool
has_n key n row = is_at key row && is_eq (value_cmp (column row 4) (Int n))

-- what one row adds to a count
abbrev pub share : Key → Row → ℕ
share key row = if is_at key row then number_in (column row 4) else 0

-- the sum of n over the rows with the key
abbrev pub count : List Row → KeyCounts
count [] key = 0
count (row ∷ rows) key = share key row + count rows key

-- a row of held: a rowid, a key with a stored image, and a count from 1 on
abbrev pub IsHeldRow : Row → Type 0
IsHeldRow row = (id : ℤ) × (key : Key) × (n : ℕ) × (row ≡ Int id ∷ Blob key.schema ∷ Blob key.table ∷ Blob key.image ∷ Int (pos n) ∷ []) × (1 ≤ n) × (n ≤ most) × IsSomeImage key.image

-- the key of a row's cells
abbrev pub key_for : TableRow → Key
key_for r = key_of r.schema r.table (image r.cells)

-- the rows that the counts stand for: of cells that have an image, the count of their key
abbrev pub bag_of : KeyCounts → Bag
bag_of counts r = if has_image r.cells then counts (key_for r) else 0

-- The outcome of a look-up by key: no row, or the one row and its count.
abbrev pub Finds : Key → List Row → Option ℕ → Type 0
Finds key rows None = filter (is_at key) rows ≡ []
Finds key rows (Some n) = (row : Row) × (filter (is_at key) rows ≡ row ∷ []) × (column row 4 ≡ Int (pos n))

-- the one column of one row, or no row
abbrev pub IsCount : List Row → Option ℕ → Type 0
IsCount rows None = rows ≡ []
IsCount rows (Some n) = (row : Row) × (rows ≡ row ∷ []) × (column row 0 ≡ Int (pos n))

-- ---- spans

-- a row without its rowid
abbrev pub shown_span : Row → Row
shown_span row = column row 1 ∷ column row 2 ∷ column row 3 ∷ []

-- what is stored of a span
abbrev pub stored_span : Span → Row
stored_span s = Blob s.source ∷ Int (pos s.lo) ∷ Int (pos s.hi) ∷ []

abbrev pub shown_spans : List Row → List Row
shown_spans rows = map shown_span rows

-- whether a stored span begins there
abbrev pub begins_at : List ℕ → ℤ → Row → Bool
begins_at source lo shown = is_blob source (column shown 0) && is_eq (value_cmp (column shown 1) (Int lo))

abbrev pub span_from : List ℕ → ℕ → ℕ → Span
span_from source lo hi = record { source = source; lo = lo; hi = hi }

-- whether two spans of one source overlap or touch
abbrev pub touches : Span → Span → Bool
touches a b = bytes_eq a.source b.source && (nat_le a.lo b.hi && nat_le b.lo a.hi)

-- The rows are the least intervals of the set, whose members are GTIDs of transactions. The rows may be in any order.
pub record AreSpans (rows : List Row) (ids : Ids) : Type 0 where
  pub spans : List Span
  pub least : IsLeastList spans ids
  pub lawful : AreGtids ids
  pub rows_are : IsPermutation (map stored_span spans) (shown_spans rows)

-- ---- follow

abbrev pub IsFollowRow : Row → Type 0
IsFollowRow row = (id : ℤ) × (name : Name) × (row ≡ Int id ∷ Blob name.0 ∷ Blob name.1 ∷ [])

abbrev pub name_in : Row → Name
name_in row = (blob_in (column row 1), blob_in (column row 2))

-- The rows are the names of the set.
pub record AreNames (rows : List Row) (names : Names) : Type 0 where
  pub lawful : AllByRecursion IsFollowRow rows
  pub names_are : names ≡ set.from_list (map name_in rows)

-- ---- meta

abbrev pub is_text : List ℕ → Value → Bool
is_text t (Text x) = bytes_eq x t
is_text t _ = false

-- a row of meta: a rowid, a text and an integer
abbrev pub IsMetaRow : Row → Type 0
IsMetaRow row = (id : ℤ) × (key : List ℕ) × (n : ℤ) × (row ≡ Int id ∷ Text key ∷ Int n ∷ [])

-- The only row with the key `layout` has this number.
abbrev pub SaysLayout : ℤ → List Row → Type 0
SaysLayout n rows = map (λ row. column row 2) (filter (λ row. is_text (codes "layout") (column row 1)) rows) ≡ Int n ∷ []

-- ---- The rules of layout 2.

-- a row of spans: a rowid, a source, and an interval of numbers that is not empty
abbrev pub IsSpanRow : Row → Type 0
IsSpanRow row = (id : ℤ) × (s : Span) × (row ≡ Int id ∷ stored_span s) × IsSource s.source × (1 ≤ s.lo) × (s.lo < s.hi) × (s.hi ≤ 2 ^ 63 - 1)

abbrev pub span_in : Row → Span
span_in row = span_from (blob_in (column row 1)) (number_in (column row 2)) (number_in (column row 3))

-- Each value is of its column's type and in its range, and no two spans of a source overlap or touch.
pub record KeepsRules (db : Database) : Type 0 where
  pub meta : AllByRecursion IsMetaRow (meta_rows db)
  pub follow : AllByRecursion IsFollowRow (follow_rows db)
  pub spans : AllByRecursion IsSpanRow (span_rows db)
  pub apart : IsDistinct touches (map span_in (span_rows db))
  pub held : AllByRecursion IsHeldRow (held_rows db)

-- ---- A database.

-- The database is of layout 2, its rows keep its rules, and this is what they stand for.
pub record StandsFor (db : Database) (names : Names) (content : Content) : Type 0 where
  pub laid_out : IsLaidOut db.schema
  pub says : SaysLayout (pos 2) (meta_rows db)
  pub meta : AllByRecursion IsMetaRow (meta_rows db)
  pub follow : AreNames (follow_rows db) names
  pub held : AllByRecursion IsHeldRow (held_rows db)
  pub executed : AreSpans (span_rows db) content.executed
  pub rows : content.rows ≡ bag_of (count (held_rows db))

-- ---- Layout 1.

abbrev pub executed_rows : Database → List Row
executed_rows db = db.trees (executed_tree db.schema)

-- a row of executed: a rowid, and the source and the number of a transaction
abbrev pub IsExecutedRow : Row → Type 0
IsExecutedRow row = (id : ℤ) × (q : Id) × (row ≡ Int id ∷ Blob q.0 ∷ Int (pos q.1) ∷ []) × IsGtid q

abbrev pub id_in : Row → Id
id_in row = (blob_in (column row 1), number_in (column row 2))

-- Each value is of its column's type and in its range.
pub record KeepsFirstRules (db : Database) : Type 0 where
  pub meta : AllByRecursion IsMetaRow (meta_rows db)
  pub executed : AllByRecursion IsExecutedRow (executed_rows db)
  pub held : AllByRecursion IsHeldRow (held_rows db)

-- The database is of layout 1, its rows keep its rules, and this is what they stand for.
pub record StandsForFirst (db : Database) (content : Content) : Type 0 where
  pub laid_out : IsFirstLaidOut db.schema
  pub says : SaysLayout (pos 1) (meta_rows db)
  pub rules : KeepsFirstRules db
  pub executed : content.executed ≡ set.from_list (map id_in (executed_rows db))
  pub rows : content.rows ≡ bag_of (count (held_rows db))
