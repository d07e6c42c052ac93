-- What a source's binary log makes of its tables, and a database that has the source's rows. MySQL Reference Manual, "GTID Format and
-- Storage" (gtid_executed), "The Binary Log", "TRUNCATE TABLE Statement".
use Rattle.std.specs.Prelude.{◌≡◌, ◌⊎◌, ℕ, true, false, if◌then◌else◌, List, [], ◌∷◌}
use Rattle.std.specs.FinSet as set
use Rattle.gtid.specs.Identifier.{Id, Ids}
use Rattle.binlog.specs.Cell.{CellValue}
use Rattle.binlog.specs.Filter.{Names, admits, is_read}
use Rattle.gather.specs.Transaction.{ChangeValue, DeliveryValue, changed_schema, changed_table}
use Rattle.store.specs.State.{TableRow, row_of, Bag, Content}
use Rattle.store.specs.Open.{nothing, all}
use Rattle.store.specs.Changes.{HasOutcome, done}
use Rattle.replica.specs.Marks.{is_of_copy}
use Rattle.replica.specs.Clear.{TableClear, IsCleared}
use Rattle.replica.specs.Copies.{HasNothing, HasJust, HaveNoRows}
use Rattle.replica.specs.Copied.{AreAdded}

-- ---- The log.

-- A step of a log: a transaction, with its changes of all tables; or a statement after which a table begins anew, without the rows
-- that it had.
pub data LogStep : Type 0 where
  committed : DeliveryValue → LogStep
  emptied : TableClear → LogStep

abbrev pub step_id : LogStep → Id
step_id (committed d) = (d.source, d.number)
step_id (emptied clear) = (clear.source, clear.number)

-- What a step makes of the source's rows, and of the set that it has executed.
abbrev pub MakesStep : LogStep → Content → Content → Type 0
MakesStep (committed d) old new = HasOutcome all old d (done new)
MakesStep (emptied clear) old new = (set.contains old.executed (clear.source, clear.number) ≡ false) × IsCleared clear old new

-- a step, and what the source holds after it
pub record Logged : Type 0 where
  pub step : LogStep
  pub after : Content

-- From what the source holds each step leads to what it holds after it, and none is of a copy.
abbrev pub AreLogged : Content → List Logged → Type 0
AreLogged was [] = Unit {0}
AreLogged was (l ∷ ls) = MakesStep l.step was l.after × (is_of_copy (step_id l.step).0 ≡ false) × AreLogged l.after ls

-- The whole log of a source, from its first transaction on.
abbrev pub IsWholeLog : List Logged → Type 0
IsWholeLog log = AreLogged nothing log

-- This holds of what the source held before the log, or after one of its steps.
abbrev pub HasPoint : (Content → Type 0) → Content → List Logged → Type 0
HasPoint Is was [] = Is was
HasPoint Is was (l ∷ ls) = Is was ⊎ HasPoint Is l.after ls

-- ---- A database.

-- The database has executed what the source had, and besides it copies alone, and has the same rows of tables of this kind.
pub record AgreesOn (Of : List ℕ → List ℕ → Type 0) (content was : Content) : Type 0 where
  pub just : HasJust content.executed was.executed
  pub rows : (schema table : List ℕ) (cells : List CellValue) → Of schema table → content.rows (row_of schema table cells) ≡ was.rows (row_of schema table cells)

-- tables whose rows are kept; and those of them that are none of others
abbrev pub IsKeptTable : Names → List ℕ → List ℕ → Type 0
IsKeptTable names schema table = admits names schema table ≡ true

abbrev pub IsKeptTableBeside : Names → Names → List ℕ → List ℕ → Type 0
IsKeptTableBeside tables names schema table = (admits names schema table ≡ true) × (set.contains tables (schema, table) ≡ false)

-- Each table that is kept has the rows that the source had of it at the executed set.
abbrev pub HasSourceRows : Names → List Logged → Content → Type 0
HasSourceRows names log content = HasPoint (AgreesOn (IsKeptTable names) content) nothing log

-- The same but for these tables, of which a copy is loaded.
abbrev pub HasSourceRowsBeside : Names → Names → List Logged → Content → Type 0
HasSourceRowsBeside tables names log content = HasPoint (AgreesOn (IsKeptTableBeside tables names) content) nothing log

-- Each table that is kept has them, and of these tables the source had no row then, nor has the database one.
pub record HasSourceRowsWithout (without names : Names) (log : List Logged) (content : Content) : Type 0 where
  pub kept : HasPoint (λ was. AgreesOn (IsKeptTable names) content was × HaveNoRows without was) nothing log
  pub none : HaveNoRows without content

-- ---- What comes from the source.

-- the changes of tables that are read
abbrev pub read_changes : Names → List ChangeValue → List ChangeValue
read_changes names [] = []
read_changes names (c ∷ cs) = if is_read names (changed_schema c) (changed_table c) then c ∷ read_changes names cs else read_changes names cs

-- The transaction is the one of the step, with its changes of tables that are read.
abbrev pub IsReadOf : Names → LogStep → DeliveryValue → Type 0
IsReadOf names (committed whole) d = (d.source ≡ whole.source) × (d.number ≡ whole.number) × (d.changes ≡ read_changes names whole.changes)
IsReadOf names (emptied clear) d = ⊥

-- The transactions are the first ones of the log.
abbrev pub AreFirst : Names → List Logged → List DeliveryValue → Type 0
AreFirst names log [] = Unit {0}
AreFirst names [] (d ∷ ds) = ⊥
AreFirst names (l ∷ ls) (d ∷ ds) = IsReadOf names l.step d × AreFirst names ls ds

-- They are those of the log from a step on, and each step before it is executed.
abbrev pub AreOfLog : Names → Ids → List Logged → List DeliveryValue → Type 0
AreOfLog names executed [] ds = AreFirst names [] ds
AreOfLog names executed (l ∷ ls) ds = AreFirst names (l ∷ ls) ds ⊎ ((set.contains executed (step_id l.step) ≡ true) × AreOfLog names executed ls ds)

-- The log has a step after which the table begins anew, and the source had executed this set before it.
abbrev pub IsEmptiedIn : TableClear → Content → List Logged → Type 0
IsEmptiedIn clear was [] = ⊥
IsEmptiedIn clear was (l ∷ ls) = ((l.step ≡ emptied clear) × (clear.at ≡ was.executed)) ⊎ IsEmptiedIn clear l.after ls

-- ---- A first copy.

-- The rows are those of these tables in the bag, each as often as it is there.
pub record AreCopiesOf (tables : Names) (bag : Bag) (rows : List TableRow) : Type 0 where
  pub copied : Bag
  pub added : AreAdded rows nothing.rows copied
  pub are : (schema table : List ℕ) (cells : List CellValue) → set.contains tables (schema, table) ≡ true → copied (row_of schema table cells) ≡ bag (row_of schema table cells)
  pub alone : (schema table : List ℕ) (cells : List CellValue) → set.contains tables (schema, table) ≡ false → copied (row_of schema table cells) ≡ 0

-- A copy of these tables has the rows that the source had of them when it had executed this set. A database that has executed nothing
-- takes the set over for its other tables too: of these the source had no rows then.
pub record IsCopyAt (names tables : Names) (old : Content) (ids : Ids) (rows : List TableRow) (was : Content) : Type 0 where
  pub executed : ids ≡ was.executed
  pub rows_are : AreCopiesOf tables was.rows rows
  pub others : HasNothing old.executed → (schema table : List ℕ) (cells : List CellValue) → IsKeptTableBeside tables names schema table → was.rows (row_of schema table cells) ≡ 0
