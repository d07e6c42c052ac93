-- What taking all rows of one table out makes of what a replica holds, in one transaction.
use Rattle.std.specs.Prelude.{◌≡◌, ◌≢◌, ◌⊎◌, ℕ, ◌+◌, Bool, true, false, ◌&&◌, if◌then◌else◌, List, [], ◌∷◌}
use Rattle.std.specs.Str.{bytes_eq}
use Rattle.std.specs.FinSet as set
use Rattle.gtid.specs.Identifier.{Ids}
use Rattle.gtid.specs.declared.identifier.Gtid.{Gtid}
use Rattle.binlog.specs.Cell.{CellValue}
use Rattle.binlog.specs.Filter.{Names, admits, is_read}
use Rattle.store.specs.State.{TableRow, row_of, Bag, Content}
use Rattle.store.specs.Listing.{Entry, ListsBag}
use Rattle.store.specs.Faults.{IsFailure}
use Rattle.store.specs.declared.fault.StoreFault.TheVariants as fault
use Rattle.replica.specs.declared.session.end.Reason.TheVariants.{Database, Memory, Halted}
use Rattle.replica.specs.declared.change.clearing.ClearEnd.{ClearEnd}
use Rattle.replica.specs.declared.change.clearing.ClearEnd.TheVariants.{Cleared, Repeat, NotFollowed, OtherSet, Failed, Stopped}
use Rattle.replica.specs.Copies.{HasJust}
use Rattle.replica.specs.Noted.{Account}
use Rattle.replica.specs.Alone.{IsOwnOrHalted}

-- The table whose rows are taken out, the GTID of the transaction that takes them out, and the set that was executed before it.
pub record TableClear : Type 0 where
  pub schema : List ℕ
  pub table : List ℕ
  pub source : List ℕ
  pub number : ℕ
  pub at : Ids

-- the table of these names, this GTID, and this set
abbrev pub clear_of : List ℕ → List ℕ → Gtid → Ids → TableClear
clear_of schema table gtid at = record { schema = schema; table = table; source = gtid.source; number = gtid.number; at = at }

-- No row of the table is there any more, each row of another table is there as often as before, and the GTID is executed too.
pub record IsCleared (clear : TableClear) (old new : Content) : Type 0 where
  pub executed : new.executed ≡ set.insert old.executed (clear.source, clear.number)
  pub gone : (cells : List CellValue) → new.rows (row_of clear.schema clear.table cells) ≡ 0
  pub others : (r : TableRow) → (r.schema ≢ clear.schema) ⊎ (r.table ≢ clear.table) → new.rows r ≡ old.rows r

-- No row has changed, and the GTID is executed too.
pub record IsRecorded (clear : TableClear) (old new : Content) : Type 0 where
  pub executed : new.executed ≡ set.insert old.executed (clear.source, clear.number)
  pub rows : new.rows ≡ old.rows

-- The rows of the table are gone where they are kept. Where they are only read, there are none to be taken out.
abbrev pub IsClearedWhere : Bool → TableClear → Content → Content → Type 0
IsClearedWhere true clear old new = IsCleared clear old new
IsClearedWhere false clear old new = IsRecorded clear old new

-- whether a row is one of the table
abbrev pub is_in_table : List ℕ → List ℕ → TableRow → Bool
is_in_table schema table row = bytes_eq row.schema schema && bytes_eq row.table table

-- how many rows of the table a list has, with copies
abbrev pub rows_in_table : List ℕ → List ℕ → List Entry → ℕ
rows_in_table schema table [] = 0
rows_in_table schema table (e ∷ entries) = (if is_in_table schema table e.0 then e.1 else 0) + rows_in_table schema table entries

-- There are so many rows of the table in the bag, with copies.
pub record HasTableRows (schema table : List ℕ) (bag : Bag) (count : ℕ) : Type 0 where
  pub entries : List Entry
  pub lists : ListsBag bag entries
  pub counted : count ≡ rows_in_table schema table entries

-- So many of its rows were taken out: all where they are kept, and none where they are only read.
abbrev pub HasTakenOut : Bool → List ℕ → List ℕ → Bag → ℕ → Type 0
HasTakenOut true schema table bag count = HasTableRows schema table bag count
HasTakenOut false schema table bag count = count ≡ 0

module _ (names : Names) (clear : TableClear) where
  -- The GTID is not executed, and the table is read.
  pub record IsToBeCleared (old : Content) : Type 0 where
    pub fresh : set.contains old.executed (clear.source, clear.number) ≡ false
    pub followed : is_read names clear.schema clear.table ≡ true

  -- The rows of the table are gone, if the filter admits it.
  abbrev pub IsClearedBy : Content → Content → Type 0
  IsClearedBy old new = IsClearedWhere (admits names clear.schema clear.table) clear old new

  -- Besides, just the set before it is executed: no transaction of the source that changed the table before comes later.
  pub record IsClearedAt (old : Content) : Type 0 where
    pub to_be : IsToBeCleared old
    pub just : HasJust old.executed clear.at

  -- The new content, by how it has ended: the old one without the rows of the table, of which so many were kept; or the old one,
  -- since the GTID was executed, the table is not read, another set is executed than the one before it, the rows could not be
  -- listed, or the transaction was not applied. It is not refused.
  abbrev pub ClearsTo : Content → ClearEnd → Content → Type 0
  ClearsTo old (Cleared rows) new = IsClearedAt old × HasTakenOut (admits names clear.schema clear.table) clear.schema clear.table old.rows rows × IsClearedBy old new
  ClearsTo old Repeat new = (set.contains old.executed (clear.source, clear.number) ≡ true) × (new ≡ old)
  ClearsTo old NotFollowed new = (set.contains old.executed (clear.source, clear.number) ≡ false) × (is_read names clear.schema clear.table ≡ false) × (new ≡ old)
  ClearsTo old OtherSet new = IsToBeCleared old × (¬ HasJust old.executed clear.at) × (new ≡ old)
  ClearsTo old (Failed cause) new = IsToBeCleared old × IsFailure cause × (new ≡ old)
  ClearsTo old (Stopped (Database (fault.Database e))) new = IsClearedAt old × (new ≡ old)
  ClearsTo old (Stopped Memory) new = IsClearedAt old × (new ≡ old)
  ClearsTo old (Stopped Halted) new = IsClearedAt old × (new ≡ old)
  ClearsTo old (Stopped _) new = ⊥

  -- The database failed in the transaction, and what is left has no rows of the table.
  abbrev pub IsClearedLeft : Content → ClearEnd → Content → Type 0
  IsClearedLeft old (Stopped (Database (fault.Database e))) left = IsClearedBy old left
  IsClearedLeft old _ left = ⊥

  -- What a crash leaves: the new content, or the old one without the rows of the table if the database failed.
  abbrev pub IsLeftOfClear : Content → ClearEnd → Content → Content → Type 0
  IsLeftOfClear old end new left = (left ≡ new) ⊎ IsClearedLeft old end left

-- It was ended by the observer only if that has stopped, and by no stream.
abbrev pub MayEndClear : ClearEnd → Account → Type 0
MayEndClear (Stopped reason) is = IsOwnOrHalted reason is.has_stopped
MayEndClear _ is = Unit {0}
