-- A database that follows more tables than before.
use Rattle.std.specs.Prelude.{◌≡◌, ◌⊎◌, ◌<◌, ℕ, true, false, List, length, Option, None, Some, IfSome, IsSomeAnd, Result, Ok, Err, MatchResult, IsTrue}
use Rattle.std.specs.FinSet as set
use Rattle.sqlite_disk.specs.declared.Disk.{Ghosts as Disk}
use Rattle.sqlite_disk.specs.declared.Files.{Files}
use Rattle.sqlite_wal.specs.Reads.{AreClean}
use Rattle.sqlite_trees.specs.Tree.{Trees}
use Rattle.sqlite_trees.specs.declared.store.Store.{Ghosts}
use Rattle.sqlite_trees.specs.View.{IsClean}
use Rattle.sqlite_store.specs.declared.store.FileStore.{FileStore}
use Rattle.sqlite_store.specs.FileStore.{view, recovers}
use Rattle.sqlite_schema.specs.declared.schema.Schema.{Schema}
use Rattle.sqlite.specs.declared.error.Error.{Error}
use Rattle.gtid.specs.Identifier.{Ids, id}
use Rattle.binlog.specs.Filter.{Names, is_read}
use Rattle.store.specs.State.{Content}
use Rattle.store.specs.Changes.{adopted, widened}
use Rattle.store.specs.Apply.{IsAtRest}
use Rattle.store.specs.Faults.{IsFailure}
use Rattle.store.specs.Store.{AreOf, database, names_of}
use Rattle.store.specs.Entering.{IsLeft}
use Rattle.store.specs.declared.store.Store.{Store}
use Rattle.store.specs.declared.fault.StoreFault.TheVariants.{Database}
use Rattle.replica.specs.declared.file.admitting.CopyBegin.{CopyBegin}
use Rattle.replica.specs.declared.file.admitting.AdmitFault.{AdmitFault}
use Rattle.replica.specs.declared.file.admitting.AdmitFault.TheVariants.{AllFollowed, Followed, Unfinished, Failed, GivenUp, HasEnded, HasBegun, NoTables, OtherSet}
use Rattle.replica.specs.File.{AreClosedWith}
use Rattle.replica.specs.Marks.{given_up_number, is_unfinished, NoneUnfinished}
use Rattle.replica.specs.Copies.{IsAtSet, IsNotGivenUp, was_begun, with_marks}
use Rattle.replica.specs.Noted.{KeepsNone}

-- Rows of some table are kept.
abbrev pub KeepsSome : Names → Type 0
KeepsSome names =
    (set.is_subset names set.empty ≡ true) ⊎ ((schema table : List ℕ) × (length schema < 256) × (set.contains names (schema, table) ≡ true))

-- The names that a filter is to have for tables: where rows are kept the tables themselves, and otherwise these that mean them.
abbrev pub StandFor : Names → Names → Names → Names → Type 0
StandFor names tables unkept more = (KeepsSome names × (more ≡ tables)) ⊎ (KeepsNone names × (more ≡ unkept))

-- None of the tables is read.
abbrev pub AreNew : Names → Names → Type 0
AreNew names tables = (schema table : List ℕ) → set.contains tables (schema, table) ≡ true → is_read names schema table ≡ false

-- A copy of these tables may begin: it was not given up, has not ended and was not begun, it has tables, and the database is at its set.
pub record IsToBegin (executed : Ids) (tables : Names) (copy : CopyBegin) : Type 0 where
  pub kept : IsNotGivenUp executed (id copy.first) false
  pub fresh : was_begun executed copy.gtids.now (id copy.first) ≡ false
  pub has_tables : set.is_subset tables set.empty ≡ false
  pub at : IsAtSet executed copy.gtids.now

-- No first copy is unfinished, not all tables are followed, and none of these is read; and the copy that they come with, if they come
-- with one, may begin.
pub record MayAdmit (names : Names) (executed : Ids) (tables : Names) (copy : Option CopyBegin) : Type 0 where
  pub none : NoneUnfinished executed
  pub some : set.is_subset names set.empty ≡ false
  pub are_new : AreNew names tables
  pub begins : IfSome copy (IsToBegin executed tables)

-- Tables may not be admitted for this reason. The last five are of a copy that they come with.
abbrev pub IsNotAdmitted : Names → Ids → Names → Option CopyBegin → AdmitFault → Type 0
IsNotAdmitted names executed tables copy (Unfinished source) = is_unfinished executed source ≡ true
IsNotAdmitted names executed tables copy AllFollowed = set.is_subset names set.empty ≡ true
IsNotAdmitted names executed tables copy (Followed name) =
    (set.contains tables (name.schema.items, name.table.items) ≡ true) × (is_read names name.schema.items name.table.items ≡ true)
IsNotAdmitted names executed tables copy (Failed cause) = IsFailure cause
IsNotAdmitted names executed tables copy GivenUp = IsSomeAnd copy (λ c. set.contains executed (c.first.source, given_up_number) ≡ true)
IsNotAdmitted names executed tables copy HasEnded = IsSomeAnd copy (λ c. IsNotGivenUp executed (id c.first) true)
IsNotAdmitted names executed tables copy HasBegun =
    IsSomeAnd copy (λ c. IsNotGivenUp executed (id c.first) false × (was_begun executed c.gtids.now (id c.first) ≡ true))
IsNotAdmitted names executed tables copy NoTables = IsSomeAnd copy (λ c. set.is_subset tables set.empty ≡ true)
IsNotAdmitted names executed tables copy OtherSet = IsSomeAnd copy (λ c. ¬ IsAtSet executed c.gtids.now)

-- the content once tables are admitted: as it is, or, with a copy, so that this is begun
abbrev pub with_copy_begun : Option CopyBegin → Content → Content
with_copy_begun None content = content
with_copy_begun (Some copy) content = adopted content (with_marks copy.gtids.now (id copy.first))

-- A filter and a content come to these. The tables were admitted: none of them was read, the filter has their names too, and the content
-- is the one of before, in which the copy that they come with is begun; or they were not, for this reason, and both are as before.
abbrev pub AdmitsTo : Names → Content → Names → Names → Option CopyBegin → Result (Unit {0}) AdmitFault → Names → Content → Type 0
AdmitsTo names old tables unkept copy (Ok u) after new =
    MayAdmit names old.executed tables copy × ((more : Names) × StandFor names tables unkept more × (after ≡ widened names more)) × (new ≡ with_copy_begun copy old)
AdmitsTo names old tables unkept copy (Err why) after new = IsNotAdmitted names old.executed tables copy why × (after ≡ names) × (new ≡ old)

-- What a crash leaves: that, or if the database failed, the filter with the names and the content in which the copy is begun.
abbrev pub IsLeftOfAdmit : Names → Content → Names → Names → Option CopyBegin → Result (Unit {0}) AdmitFault → Names → Content → Names → Content → Type 0
IsLeftOfAdmit names old tables unkept copy (Err (Failed (Database e))) after new n c =
    ((n ≡ after) × (c ≡ new)) ⊎ (((more : Names) × StandFor names tables unkept more × (n ≡ widened names more)) × (c ≡ with_copy_begun copy new))
IsLeftOfAdmit names old tables unkept copy _ after new n c = (n ≡ after) × (c ≡ new)

-- The store has this filter and a content to which admitting the tables leads, and a crash leaves only what may be left of it.
pub record HasAdmitted {S : Type 0} (g : Ghosts S) (names : Names) (old : Content) (tables unkept : Names) (copy : Option CopyBegin) (answer : Result (Unit {0}) AdmitFault) (store : Store S g) : Type 0 where
  pub new : Content
  pub leads : AdmitsTo names old tables unkept copy answer (names_of g store) new
  pub executed : store.executed ≡ new.executed
  pub rest : IsTrue (database g store).is_open → IsAtRest (database g store) (names_of g store) new
  pub schema : Schema
  pub leaves : (trees : Trees) → (database g store).may_leave trees → (n : Names) × (c : Content) × AreOf schema n c trees × IsLeftOfAdmit names old tables unkept copy answer (names_of g store) new n c

-- The closed files hold a filter and a content to which it leads. Files that could not be closed may be left with what may be left of
-- these.
abbrev pub AdmitsInFiles : {D : Type 0} {g : Disk D} → Names → Content → Names → Names → Option CopyBegin → Result (Unit {0}) AdmitFault → Result (Files D) (Error × FileStore D g) → Type 0
AdmitsInFiles {D} {g} names old tables unkept copy answer closed = MatchResult closed
    (λ files. AreClean g files.log files.db → (after : Names) × (new : Content) × AdmitsTo names old tables unkept copy answer after new × AreClosedWith g after new files)
    (λ e. IsClean (view e.1) → (after : Names) × (new : Content) × AdmitsTo names old tables unkept copy answer after new
    × ((trees : Trees) → recovers e.1 trees → (n : Names) × (c : Content) × IsLeftOfAdmit names old tables unkept copy answer after new n c × ((only : Names) → IsLeft only n c trees)))
