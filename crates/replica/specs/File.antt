-- Databases in files.
use Rattle.std.specs.Prelude.{◌≡◌, ◌⊎◌, ℕ, false, Option, Result, IfErr, MatchResult}
use Rattle.sqlite_disk.specs.declared.Disk.{Ghosts}
use Rattle.sqlite_disk.specs.declared.Files.{Files}
use Rattle.sqlite_wal.specs.Recovery.{Image}
use Rattle.sqlite_wal.specs.Files.{outcomes}
use Rattle.sqlite_wal.specs.Reads.{AreClean, tally_of_files}
use Rattle.sqlite_pool.specs.Stored.{is_summed}
use Rattle.sqlite_trees.specs.Tree.{Trees}
use Rattle.sqlite_trees.specs.View.{IsClean}
use Rattle.sqlite_store.specs.declared.store.FileStore.{FileStore}
use Rattle.sqlite_store.specs.FileStore.{view, recovers}
use Rattle.sqlite_store.specs.Unopened.{state_of}
use Rattle.sqlite.specs.declared.error.Error.{Error}
use Rattle.sqlite.specs.declared.file.Leftover.{Leftover}
use Rattle.sqlite.specs.declared.file.Leftover.TheVariants as left
use Rattle.sqlite.specs.Opening.{HoldsIn}
use Rattle.sqlite.specs.State.{State, HasCleanDisk}
use Rattle.sqlite.specs.Start.{FindsIn}
use Rattle.sqlite.specs.Held.{Held}
use Rattle.sqlite.specs.Files.{HoldsDatabase, IsNothing, IsEmpty, image_of, faults_of, over_files, file_state, IsOpened, IsClosed, IsCleanLeft, LeavesFiles, FailsToOpenFiles, FailsToClose}
use Rattle.sqlite.specs.Closing.{HoldsAlone}
use Rattle.binlog.specs.Filter.{Names}
use Rattle.store.specs.State.{Content}
use Rattle.store.specs.Apply.{Rests}
use Rattle.store.specs.Faults.{IsFailure}
use Rattle.store.specs.Open.{nothing}
use Rattle.store.specs.declared.store.Store.{Store}
use Rattle.store.specs.Store.{Opens}
use Rattle.store.specs.Entering.{IsLeft, IsReady, IsOf, IsWanted, IsRefusedOpening, IsTurned, names_for}
use Rattle.replica.specs.declared.file.Unopened.{Unopened}

-- No database is in the files: the database file is empty or not there, or has what an opening that was cut has made of one, a
-- part of its first page, or a database without tables.
abbrev pub HoldNone : Image → Type 0
HoldNone image = IsNothing image ⊎ ∥ ((trees : Trees) × HoldsDatabase image trees × IsEmpty trees) ∥₁

-- No database is in the files, and one is to be made for these tables; or they hold a database that stands for this content
-- and these tables.
abbrev pub FilesHold : Names → Names → Content → Image → Type 0
FilesHold only names content image =
    (HoldNone image × (names ≡ only) × (content ≡ nothing)) ⊎ ((trees : Trees) × ∥ HoldsDatabase image trees ∥₁ × IsLeft only names content trees)

-- `Is` holds of the tables and the content of the database that the files held, or of the empty one, if none was there. Of files that
-- held something else nothing is said.
abbrev pub OfHeld : Option Names → Image → (Names → Content → Type 0) → Type 0
OfHeld wanted image Is = (names : Names) (content : Content) → FilesHold (names_for wanted) names content image → Is names content

-- Whatever a crash may leave of the database is opened as this content, with these tables.
abbrev pub LeavesContent : Names → Names → Content → State → Type 0
LeavesContent only names content s = HasCleanDisk s → (trees : Trees) → s.may_leave trees → IsLeft only names content trees

-- No page of a database in the files ends with a sum, as none does that is made here.
abbrev pub HaveNoSums : Image → Type 0
HaveNoSums image = (size : ℕ) (trees : Trees) → HoldsIn size image trees → is_summed size ≡ false

-- What the next call may find of files that were not opened as a database: what a crash leaves of them.
abbrev pub MayFindLeft : {D : Type 0} {g : Ghosts D} → Image → Leftover D g → Image → Type 0
MayFindLeft {D} {g} before (left.Files files) next = outcomes g files.log files.db next
MayFindLeft before (left.Unopened files) next = HaveNoSums before × (state_of files).may_leave next
MayFindLeft before (left.Store it) next = (trees : Trees) × recovers it trees × ∥ HoldsDatabase next trees ∥₁

-- A database of this content is refused only by a failure, for memory, or since it was made for other tables, and is left as that
-- content; and where the files could not be opened as a database, they still hold it.
abbrev pub IsUnopened : {D : Type 0} {g : Ghosts D} → Option Names → Names → Content → Image → Unopened D g
    → Type 0
IsUnopened wanted names content image (Unopened.NotOpened why) = Unit {0}
IsUnopened wanted names content image (Unopened.Files error left) =
    IsCleanLeft left → (next : Image) → MayFindLeft image left next → FilesHold (names_for wanted) names content next
IsUnopened wanted names content image (Unopened.Database cause conn) =
    (HasCleanDisk (file_state conn) → IsRefusedOpening wanted names cause)
    × LeavesContent (names_for wanted) names content (file_state conn)

-- The connection is open, has changed nothing, and reads what the files hold.
pub record HasFound {D : Type 0} {g : Ghosts D} (image : Image) (conn : Held (FileStore D g)) : Type 0 where
  pub finds : FindsIn image (file_state conn)
  pub opened : IsOpened conn

-- The store was opened over what a connection has found in the files.
abbrev pub IsOpenedIn : {D : Type 0} {g : Ghosts D} → Option Names → Image
    → Store (FileStore D g) over_files → Type 0
IsOpenedIn {D} {g} wanted image store =
    (before : Held (FileStore D g)) × HasFound image before
    × (IsReady (file_state before) → Opens over_files wanted (file_state before) store)

-- The files were opened with this image, and nothing has happened to them: a crash leaves it, no answer was wrong and no call has failed.
pub record AreJustOpened {D : Type 0} (g : Ghosts D) (image : Image) (files : Files D) : Type 0 where
  pub seen : image_of g files ≡ image
  pub left : (after : Image) → outcomes g files.log files.db after → after ≡ image
  pub clean : AreClean g files.log files.db
  pub no_fault : faults_of g files ≡ 0
  pub no_cause : tally_of_files g (files.log, files.db) ≡ record { caught = 0; refused = 0 }

-- Files that were opened with this image could not be opened as a database: the error is what they met, and they are left as they
-- were, unless there was no database in them (LeavesFiles).
abbrev pub IsLeftOver : {D : Type 0} {g : Ghosts D} → Image → Error → Leftover D g → Type 0
IsLeftOver {D} {g} image error left =
    (files : Files D) × AreJustOpened g image files
    × (IsCleanLeft left → FailsToOpenFiles files left error × LeavesFiles files left)

-- A crash leaves what was found in the files.
abbrev pub LeavesFound : State → State → Type 0
LeavesFound found s = (trees : Trees) → s.may_leave trees → trees ≡ found.committed.trees

-- The database that was found is left as it is, whatever its tables are, by a crash too unless it failed or memory ran out; if they are
-- known, it is refused with its reason. Files that hold none are left as they are.
abbrev pub IsTurnedBack : {D : Type 0} {g : Ghosts D} → Option Names → Image → Unopened D g → Type 0
IsTurnedBack wanted image (Unopened.NotOpened why) = Unit {0}
IsTurnedBack wanted image (Unopened.Files error left) = IsLeftOver image error left
IsTurnedBack {D} {g} wanted image (Unopened.Database cause conn) =
    HasCleanDisk (file_state conn) → (before : Held (FileStore D g)) × HasFound image before
    × Rests (file_state before) (file_state conn)
    × (IsFailure cause ⊎ LeavesFound (file_state before) (file_state conn))
    × (IsReady (file_state before) → IsTurned wanted (file_state before) (file_state conn) cause)

-- The files were not opened, for this reason.
abbrev pub IsNotOpened : {D : Type 0} {g : Ghosts D} → Error → Unopened D g → Type 0
IsNotOpened cause (Unopened.NotOpened why) = why.cause ≡ cause
IsNotOpened cause _ = ⊥

-- What an opening for these names leaves that is refused.
pub record IsTurnedAway {D : Type 0} {g : Ghosts D} (wanted : Option Names) (image : Image)
    (why : Unopened D g) : Type 0 where
  -- A database that stands for a content is refused only if it was made for other tables, fails, or
  -- memory runs out, and is left with that content.
  pub refused : OfHeld wanted image (λ names content. IsUnopened wanted names content image why)
  -- Any other is refused with its reason and left as it is, and so are files that cannot be opened.
  pub turned : IsTurnedBack wanted image why

-- The files were closed, or could not be, with a disk that never lied.
abbrev pub IsCleanlyClosed : {D : Type 0} {g : Ghosts D} → Result (Files D) (Error × FileStore D g) → Type 0
IsCleanlyClosed {D} {g} closed = MatchResult closed (λ files. AreClean g files.log files.db) (λ e. IsClean (view e.1))

-- Files that could not be closed are as a connection left them, and the error is what they met.
abbrev pub WasClosed : {D : Type 0} {g : Ghosts D} → Result (Files D) (Error × FileStore D g) → Type 0
WasClosed {D} {g} closed = IfErr closed (λ e. (conn : Held (FileStore D g)) × IsClosed conn e.1 × (IsClean (view e.1) → FailsToClose conn e.1 e.0))

-- If the tables of the database in the files were known, it stood for a content and for tables that were wanted.
abbrev pub WasWanted : {D : Type 0} {g : Ghosts D} → Option Names → Image
    → Result (Files D) (Error × FileStore D g) → Type 0
WasWanted {D} {g} wanted image closed =
    IsCleanlyClosed closed → (before : Held (FileStore D g)) × HasFound image before
    × (IsReady (file_state before) → (names : Names) × (content : Content)
    × IsOf (names_for wanted) names (file_state before).now content × IsWanted wanted names)

-- What closing the files comes to that held a database which was opened for these names.
pub record ClosesAs {D : Type 0} {g : Ghosts D} (only : Option Names) (image : Image)
    (closed : Result (Files D) (Error × FileStore D g)) : Type 0 where
  -- A database that stood for a content was made for the given tables.
  pub wanted : OfHeld only image (λ names content. IsCleanlyClosed closed → IsWanted only names)
  -- Any other whose tables are known stood for a content too.
  pub entered : WasWanted only image closed
  -- Why they could not be closed is what they met.
  pub closing : WasClosed closed

module _ {D : Type 0} (g : Ghosts D) where
  -- The closed files, and whatever a crash may leave of them, hold a database that stands for this content and these
  -- tables; so does the database file without its log.
  pub record AreClosedWith (names : Names) (content : Content) (files : Files D) : Type 0 where
    pub trees : Trees
    pub stands : (only : Names) → IsLeft only names content trees
    pub seen : HoldsAlone (image_of g files) trees
    pub left : (image : Image) → outcomes g files.log files.db image → HoldsAlone image trees

-- The files hold this content: those that were closed, and whatever a crash leaves of those that could not be.
abbrev pub KeepsContent : {D : Type 0} {g : Ghosts D} → Names → Names → Content → Result (Files D) (Error × FileStore D g) → Type 0
KeepsContent {D} {g} only names content closed = MatchResult closed
    (λ files. AreClean g files.log files.db → AreClosedWith g names content files)
    (λ e. IsClean (view e.1) → (trees : Trees) → recovers e.1 trees → IsLeft only names content trees)
