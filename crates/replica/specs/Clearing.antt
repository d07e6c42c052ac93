-- Private: a store while the rows of one table are taken out.
use Rattle.std.specs.Prelude.{◌≡◌, ℕ, Bool, true, false, if◌then◌else◌, IsTrue, List, [], ◌++◌, flat_map, replicate, Result, Ok, Err}
use Rattle.sqlite_trees.specs.declared.store.Store.{Ghosts}
use Rattle.sqlite_schema.specs.declared.schema.Schema.{Schema}
use Rattle.binlog.specs.Filter.{Names}
use Rattle.gather.specs.Transaction.{ChangeValue, delete}
use Rattle.store.specs.State.{Bag, Content}
use Rattle.store.specs.Apply.{IsAtRest}
use Rattle.store.specs.Faults.{IsFailure}
use Rattle.store.specs.Listing.{Entry, ListsBag}
use Rattle.store.specs.declared.fault.StoreFault.{StoreFault}
use Rattle.store.specs.declared.fault.StoreFault.TheVariants.{Memory}
use Rattle.store.specs.declared.listing.ListError.{ListError}
use Rattle.store.specs.declared.listing.ListError.TheVariants.{Store as StoreError, Visitor as VisitorError}
use Rattle.store.specs.declared.store.Store.{Store}
use Rattle.store.specs.Store.{Holds, database, names_of}
use Rattle.replica.specs.declared.source.connections.NoMemory.{NoMemory}
use Rattle.replica.specs.declared.session.end.Reason.{Reason}
use Rattle.replica.specs.declared.change.clearing.ClearEnd.{ClearEnd}
use Rattle.replica.specs.declared.change.clearing.ClearEnd.TheVariants.{Cleared, Repeat, Stopped}
use Rattle.replica.specs.declared.change.clearing.TableRows.{TableRows}
use Rattle.replica.specs.Clear.{TableClear, is_in_table, ClearsTo, IsLeftOfClear}
use Rattle.replica.specs.Noted.{Account, IsLeftOfNoted, IsNotedSinceOpening}
use Rattle.replica.specs.Over.{LeavesOnly, HasStayed}

-- as many deletes of a row of the table as it has copies, and none of another row
abbrev pub deletes_of : List ℕ → List ℕ → Entry → List ChangeValue
deletes_of schema table e = if is_in_table schema table e.0 then replicate e.1 (delete schema table e.0.cells) else []

-- The changes take each row of the table out of the bag, once for each copy.
pub record AreDeletesOf (schema table : List ℕ) (bag : Bag) (changes : List ChangeValue) : Type 0 where
  pub entries : List Entry
  pub lists : ListsBag bag entries
  pub changes_are : changes ≡ flat_map (deletes_of schema table) entries

-- The deletes of a row are appended, and the table stays.
pub record AppendsDeletes (e : Entry) (old new : TableRows) : Type 0 where
  pub same : new.table ≡ old.table
  pub changes_are : new.changes ≡ old.changes ++ deletes_of old.table.value.schema.items old.table.value.table.items e

-- A visitor has appended them, or memory has run out.
abbrev pub TakesRow : TableRows → Entry → Result (Unit {0}) NoMemory → TableRows → Type 0
TakesRow old e (Ok u) new = AppendsDeletes e old new
TakesRow old e (Err cause) new = Unit {0}

-- the deletes that were gathered, or why the list was not read to its end
abbrev pub gathered_of : Result (Unit {0}) (ListError NoMemory) → List ChangeValue → Result (List ChangeValue) StoreFault
gathered_of (Ok u) changes = Ok changes
gathered_of (Err (StoreError cause)) changes = Err cause
gathered_of (Err (VisitorError cause)) changes = Err Memory

-- the end, by what came of a transaction that takes so many rows out
abbrev pub end_by : ℕ → Result Bool Reason → ClearEnd
end_by rows (Ok true) = Cleared rows
end_by rows (Ok false) = Repeat
end_by rows (Err reason) = Stopped reason

module _ {S : Type 0} (g : Ghosts S) where
  -- The deletes of the rows of the table are listed, and the store holds the content that it held; or it failed, and has that content.
  abbrev pub ListsDeletes : List ℕ → List ℕ → Content → Store S g → Result (List ChangeValue) StoreFault → Type 0
  ListsDeletes schema table content new (Ok changes) = AreDeletesOf schema table content.rows changes × Holds g new content
  ListsDeletes schema table content new (Err cause) = IsFailure cause × HasStayed g new content (λ left. left ≡ content)

  -- The store has the content that this end leads to.
  pub record HasCleared (names : Names) (clear : TableClear) (store : Store S g) (old : Content) (end : ClearEnd) : Type 0 where
    pub new : Content
    pub clears : ClearsTo names clear old end new
    pub stays : HasStayed g store new (IsLeftOfClear names clear old end new)

  -- What was reported to an observer since the opening leads from the old content to the one that the store has, and a crash leaves
  -- that, or one transaction more.
  pub record IsClearedSinceOpening (names : Names) (store : Store S g) (old : Content) (was is : Account) : Type 0 where
    pub new : Content
    pub executed : store.executed ≡ new.executed
    pub rest : IsTrue (database g store).is_open → IsAtRest (database g store) (names_of g store) new
    pub noted_of : IsNotedSinceOpening names old new was is []
    pub schema : Schema
    pub leaves : LeavesOnly g schema store (IsLeftOfNoted names noted_of.noted_of.notices new)
