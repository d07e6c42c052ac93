-- A database file that a first copy of tables was loaded into.
use Rattle.std.specs.Prelude.{ℕ, true, [], Result}
use Rattle.sqlite_disk.specs.declared.Disk.{Ghosts}
use Rattle.sqlite_disk.specs.declared.Files.{Files}
use Rattle.sqlite_store.specs.declared.store.FileStore.{FileStore}
use Rattle.sqlite.specs.declared.error.Error.{Error}
use Rattle.binlog.specs.Filter.{Names}
use Rattle.store.specs.State.{Content}
use Rattle.store.specs.Changes.{adopted}
use Rattle.replica.specs.declared.change.loading.LoadEnd.{LoadEnd}
use Rattle.replica.specs.declared.change.loading.LoadEnd.TheVariants.{Changed, HadEnded, Refused}
use Rattle.replica.specs.declared.file.loaded.LoadedFile.{LoadedFile}
use Rattle.replica.specs.Noted.{Account}
use Rattle.replica.specs.NotedFile.{IsNotedOfFiles}
use Rattle.replica.specs.File.{IsCleanlyClosed, KeepsContent}
use Rattle.replica.specs.Change.{IsAdopted, MayStop, UnlessAdopted}
use Rattle.replica.specs.ChangeFile.{ChangesFile}
use Rattle.replica.specs.Copies.{Copy, MayLoad, MayNotLoad, IsNotGivenUp, with_marks}

-- The copy might be loaded, and the closed files hold what its set with its marks and then its transactions make of the content; or it
-- had ended or might not be loaded, and they hold that content.
abbrev pub LoadsTo : {D : Type 0} {g : Ghosts D} {E : Type 0} → Names → Names → Content → Copy → ℕ → LoadEnd E → Result (Files D) (Error × FileStore D g) → Type 0
LoadsTo only names old copy applied (Changed end) closed =
    (IsCleanlyClosed closed → MayLoad names old copy.ids copy.first copy.tables)
    × ChangesFile copy.left names old (with_marks copy.ids copy.first) (record { applied = applied; end = end; closed = closed })
LoadsTo only names old copy applied HadEnded closed =
    (IsCleanlyClosed closed → IsNotGivenUp old.executed copy.first true) × KeepsContent only names old closed
LoadsTo only names old copy applied (Refused why) closed =
    (IsCleanlyClosed closed → MayNotLoad names old copy.ids copy.first copy.tables why) × KeepsContent only names old closed

abbrev pub LoadsFile : {D : Type 0} {g : Ghosts D} {E : Type 0} → Names → Names → Content → Copy → LoadedFile E D g → Type 0
LoadsFile only names old copy done = LoadsTo only names old copy done.applied done.end done.closed

-- What was reported since the set was added leads from the content with it to the one that the closed files hold.
abbrev pub IsNotedOfLoad : {D : Type 0} {g : Ghosts D} {E : Type 0} → Names → Content → Copy → Account → Account → LoadEnd E → Result (Files D) (Error × FileStore D g) → Type 0
IsNotedOfLoad names old copy was is (Changed end) closed = IsAdopted end → IsNotedOfFiles names (adopted old (with_marks copy.ids copy.first)) was is [] closed
IsNotedOfLoad names old copy was is _ closed = Unit {0}

-- what holds if no set was adopted
abbrev pub UnlessLoaded : {E : Type 0} → LoadEnd E → Type 0 → Type 0
UnlessLoaded (Changed end) P = UnlessAdopted end P
UnlessLoaded _ P = P

-- The observer has ended it only if it has stopped, or waits for nothing.
abbrev pub MayStopLoad : {E : Type 0} → LoadEnd E → Account → Type 0
MayStopLoad (Changed end) is = MayStop end is
MayStopLoad _ is = Unit {0}
