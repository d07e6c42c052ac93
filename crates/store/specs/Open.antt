-- Databases before they are opened.
use Rattle.std.specs.Prelude.{◌≡◌, IsTrue}
use Rattle.std.specs.FinSet as set
use Rattle.sqlite_trees.specs.Tree.{Trees}
use Rattle.sqlite.specs.Effect.{Database, IsDatabase}
use Rattle.sqlite.specs.State.{State}
use Rattle.gtid.specs.Identifier.{Ids}
use Rattle.binlog.specs.Filter.{Names}
use Rattle.store.specs.State.{Content}
use Rattle.store.specs.Layout.{IsVacant}
use Rattle.store.specs.Beside.{LiesBeside}
use Rattle.store.specs.Rows.{StandsFor, StandsForFirst, HasRowids, span_rows, meta_rows, held_rows}

-- nothing is executed, and there is no row
abbrev pub nothing : Content
nothing = record { executed = set.empty; rows = λ _. 0 }

-- the empty filter, which admits all tables
abbrev pub all : Names
all = set.empty

-- The connection is open and in no transaction that has changed anything, and its database has none of the
-- tables.
pub record IsBlank (s : State) : Type 0 where
  pub is_open : IsTrue s.is_open
  pub settled : s.now ≡ s.committed
  pub vacant : IsVacant s.now.schema

-- The connection is open and in no transaction that has changed anything, and its database has layout 1 and stands for
-- this content.
pub record IsFirstAtRest (s : State) (content : Content) : Type 0 where
  pub is_open : IsTrue s.is_open
  pub settled : s.now ≡ s.committed
  pub meta_apart : HasRowids (meta_rows s.now)
  pub held_apart : HasRowids (held_rows s.now)
  pub stands : StandsForFirst s.now content
  pub sound : IsDatabase s.now

-- Under some schema, which they list and obey, the trees stand for this content, and what lies beside is as in the old database.
pub record MayStandFor (old : Database) (names : Names) (content : Content) (trees : Trees) : Type 0 where
  pub db : Database
  pub trees_are : trees ≡ db.trees
  pub stands : StandsFor db names content
  pub sound : IsDatabase db
  pub beside : LiesBeside old db
  pub spans_apart : HasRowids (span_rows db)

-- If the database had layout 1, was at rest and had this executed set, the trees stand for the same content.
abbrev pub MayMigrate : State → Ids → Trees → Type 0
MayMigrate old executed trees = (content : Content) → IsFirstAtRest old content → executed ≡ content.executed → MayStandFor old.now all content trees
