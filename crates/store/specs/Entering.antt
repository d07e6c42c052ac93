-- The outcome of opening a database.
use Rattle.std.specs.Prelude.{◌≡◌, ◌≢◌, ◌⊎◌, ℕ, ℤ, pos, Bool, true, false, ◌&&◌, ◌||◌, is_some, IsTrue, IfSome, Option, None, Some, List, codes}
use Rattle.std.specs.Option.{option_copied}
use Rattle.std.specs.Borrow.{Bor}
use Rattle.sqlite_schema.specs.declared.schema.Schema.{Schema}
use Rattle.sqlite_schema.specs.Names.{table_named}
use Rattle.sqlite_trees.specs.Tree.{Trees}
use Rattle.sqlite.specs.Effect.{Database, IsDatabase}
use Rattle.sqlite.specs.State.{State}
use Rattle.gtid.specs.Identifier.{Ids}
use Rattle.binlog.specs.Filter.{Names}
use Rattle.store.specs.declared.fault.StoreFault.{StoreFault}
use Rattle.store.specs.declared.fault.StoreFault.TheVariants.{Database as Db, Memory, Damaged, Layout, Follows}
use Rattle.store.specs.declared.layout.Tables.{Tables}
use Rattle.store.specs.State.{Content}
use Rattle.store.specs.Layout.{IsVacant, IsFirstLaidOut, HasMeta, IsLaidOut}
use Rattle.store.specs.Beside.{LiesBeside}
use Rattle.store.specs.Rows.{StandsFor, StandsForFirst, SaysLayout, KeepsRules, KeepsFirstRules, HasRowids, meta_rows, span_rows}
use Rattle.store.specs.Apply.{IsAtRest, Rests}
use Rattle.store.specs.Faults.{IsFailure}
use Rattle.store.specs.Open.{nothing, all, MayStandFor}

-- ---- Which tables are there.

abbrev pub has_table : Schema → List ℕ → Bool
has_table schema name = is_some (table_named schema name)

abbrev pub tables_of : Schema → Tables
tables_of schema = record {
  meta = has_table schema (codes "meta");
  executed = has_table schema (codes "executed");
  held = has_table schema (codes "held");
  spans = has_table schema (codes "spans");
  follow = has_table schema (codes "follow");
}

-- all tables of layout 1, or of layout 2, besides meta
abbrev pub has_first : Tables → Bool
has_first t = t.executed && t.held

abbrev pub has_second : Tables → Bool
has_second t = t.held && (t.spans && t.follow)

abbrev pub has_any : Tables → Bool
has_any t = t.meta || (t.executed || (t.held || (t.spans || t.follow)))

-- There is none of the tables; or there are those of layout 1 among any others, or those of layout 2; or `meta` is as declared and names
-- another layout or none, or of its layout a table is missing. A table named `executed` may stand beside layout 2, if `meta` does not
-- say 1.
pub data IsKnown (db : Database) : Type 0 where
  blank : IsVacant db.schema → IsKnown db
  first : IsFirstLaidOut db.schema → IsKnown db
  second : IsLaidOut db.schema → ((tables_of db.schema).executed ≡ true → ¬ SaysLayout (pos 1) (meta_rows db)) → IsKnown db
  lacking : HasMeta db.schema → (SaysLayout (pos 1) (meta_rows db) → has_first (tables_of db.schema) ≡ false) → (SaysLayout (pos 2) (meta_rows db) → has_second (tables_of db.schema) ≡ false) → IsKnown db

-- The connection is open and in no transaction that has changed anything, and its tables are known.
pub record IsReady (s : State) : Type 0 where
  pub is_open : IsTrue s.is_open
  pub settled : s.now ≡ s.committed
  pub known : IsKnown s.now

-- ---- Which names are wanted.

-- the names that are asked for, if any are
abbrev pub wanted_of : Option (Bor Names) → Option Names
wanted_of only = option_copied only

-- the names that a new database is made for: the wanted ones, or those that admit all tables
abbrev pub names_for : Option Names → Names
names_for None = all
names_for (Some names) = names

-- Any names will do, or these alone.
abbrev pub IsWanted : Option Names → Names → Type 0
IsWanted wanted names = IfSome wanted (λ only. names ≡ only)

-- ---- What a database stands for.

abbrev pub IsStored : Names → Database → Content → Type 0
IsStored names db content = StandsFor db names content ⊎ ((names ≡ all) × StandsForFirst db content)

-- A database without any of the tables stands for the empty content, and is made for these names.
abbrev pub IsOf : Names → Names → Database → Content → Type 0
IsOf only names db content = ((IsVacant db.schema × (content ≡ nothing)) × (names ≡ only)) ⊎ IsStored names db content

-- ---- Why a database is refused.

pub data IsDamaged (db : Database) : Type 0 where
  no_meta : (tables_of db.schema).meta ≡ false → has_any (tables_of db.schema) ≡ true → IsDamaged db
  no_layout : (tables_of db.schema).meta ≡ true → ((n : ℤ) → ¬ SaysLayout n (meta_rows db)) → IsDamaged db
  lacks_first : (tables_of db.schema).meta ≡ true → SaysLayout (pos 1) (meta_rows db) → has_first (tables_of db.schema) ≡ false → IsDamaged db
  lacks_second : (tables_of db.schema).meta ≡ true → SaysLayout (pos 2) (meta_rows db) → has_second (tables_of db.schema) ≡ false → IsDamaged db
  breaks_first : (tables_of db.schema).meta ≡ true → SaysLayout (pos 1) (meta_rows db) → ¬ KeepsFirstRules db → IsDamaged db
  breaks_second : (tables_of db.schema).meta ≡ true → SaysLayout (pos 2) (meta_rows db) → ¬ KeepsRules db → IsDamaged db

-- The database has this layout, which is none of the two.
abbrev pub IsOtherLayout : Database → ℤ → Type 0
IsOtherLayout db n = ((tables_of db.schema).meta ≡ true) × SaysLayout n (meta_rows db) × (n ≢ pos 1) × (n ≢ pos 2)

-- The database has another layout, is damaged, or was made for other names. A failure of the database and running out
-- of memory have no cause in what the database stands for.
abbrev pub IsWhy : Option Names → Database → StoreFault → Type 0
IsWhy wanted db Damaged = IsDamaged db
IsWhy wanted db (Layout n) = IsOtherLayout db n
IsWhy wanted db Follows = (names : Names) × (content : Content) × IsStored names db content × (¬ IsWanted wanted names)
IsWhy wanted db (Db e) = Unit {0}
IsWhy wanted db Memory = Unit {0}
IsWhy wanted db _ = ⊥

-- A database that stands for a content is refused where it failed, memory ran out, or it was made for other names.
abbrev pub IsRefusedOpening : Option Names → Names → StoreFault → Type 0
IsRefusedOpening wanted names fault = IsFailure fault ⊎ ((fault ≡ Follows) × (¬ IsWanted wanted names))

-- ---- The outcome.

-- The connection is at rest with what its database stood for, and the set in memory is that of the content. What lies beside is as it was.
pub record IsEntered (only : Option Names) (old new : State) (executed : Ids) (names : Names) : Type 0 where
  pub content : Content
  pub of : IsOf (names_for only) names old.now content
  pub rest : IsAtRest new names content
  pub executed_is : executed ≡ content.executed
  pub wanted : IsWanted only names
  pub beside : LiesBeside old.now new.now
  pub same : IsLaidOut old.now.schema → new.now ≡ old.now

-- It is refused with its reason, and nothing has changed.
abbrev pub IsTurned : Option Names → State → State → StoreFault → Type 0
IsTurned wanted old new fault = IsWhy wanted old.now fault × Rests old new

-- What may be committed stands for the same content as the database did, and what lies beside is as it was.
pub record MayEnter (only : Names) (old : State) (trees : Trees) : Type 0 where
  pub names : Names
  pub content : Content
  pub of : IsOf only names old.now content
  pub may : MayStandFor old.now names content trees

-- ---- What a crash leaves.

-- Under some schema, which they list and obey, the trees stand for this content and these names. If they have no table
-- yet, they are to be made for these names.
pub record IsLeft (only names : Names) (content : Content) (trees : Trees) : Type 0 where
  pub db : Database
  pub trees_are : trees ≡ db.trees
  pub sound : IsDatabase db
  pub of : IsOf only names db content
  pub spans_apart : IsLaidOut db.schema → HasRowids (span_rows db)

-- The connection is open and in no transaction that has changed anything, and it reads what a crash left.
pub record ReadsLeft (only names : Names) (content : Content) (s : State) : Type 0 where
  pub is_open : IsTrue s.is_open
  pub settled : s.now ≡ s.committed
  pub left : IsLeft only names content s.now.trees
