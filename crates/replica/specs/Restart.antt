-- A replica of a scripted source whose database is in files, stopped anywhere and started again.
use Rattle.std.specs.Prelude.{◌≡◌, ◌⊎◌, ℕ, ◌+◌, ◌^◌, ◌<◌, ◌++◌, List, [], ◌∷◌, length, Option, Some, Result, Ok, Err}
use Rattle.std.specs.List.{AllByRecursion}
use Rattle.sqlite_disk.specs.declared.Disk.{Ghosts}
use Rattle.sqlite_disk.specs.declared.Files.{Files}
use Rattle.sqlite_wal.specs.Recovery.{Image}
use Rattle.sqlite_wal.specs.Reads.{AreClean}
use Rattle.sqlite_wal.specs.Files.{outcomes}
use Rattle.sqlite_trees.specs.Tree.{Trees}
use Rattle.sqlite_trees.specs.View.{IsClean}
use Rattle.sqlite_store.specs.declared.store.FileStore.{FileStore}
use Rattle.sqlite_store.specs.FileStore.{view, recovers}
use Rattle.sqlite.specs.declared.error.Error.{Error}
use Rattle.sqlite.specs.State.{HasCleanDisk}
use Rattle.sqlite.specs.Files.{HoldsDatabase, image_of, file_state, IsCleanLeft}
use Rattle.gtid.specs.Identifier.{Ids}
use Rattle.binlog.specs.Filter.{Names}
use Rattle.store.specs.State.{Content}
use Rattle.store.specs.Entering.{names_for}
use Rattle.scripted_source.specs.Script.{ScriptValue}
use Rattle.replica.specs.declared.source.counted.Counted.{Counted}
use Rattle.replica.specs.declared.session.end.Ended.{Ended}
use Rattle.replica.specs.declared.file.followed.FollowedFile.{FollowedFile}
use Rattle.replica.specs.Settings.{Settings}
use Rattle.replica.specs.Follow.{IsInFull}
use Rattle.replica.specs.Resume.{Reaches, Dialogue, Resumes}
use Rattle.replica.specs.declared.file.Unopened.{Unopened}
use Rattle.replica.specs.File.{FilesHold, MayFindLeft, IsTurnedAway}
use Rattle.replica.specs.FollowFile.{StreamView, FollowsFile}

-- What a source with this history sends to a replica that holds this content, and the prefix of it that a stream has left
-- to read.
pub record IsSent (limit : ℕ) (names : Names) (history : List ScriptValue) (held : Content) (left : Option (List ℕ)) : Type 0 where
  pub last : Content
  pub dialogue : Dialogue
  pub asked : (j : ℕ) → Reaches names history j held → Resumes limit names history j held last dialogue
  pub are_bytes : AllByRecursion (λ b. b < 256) (dialogue.opening ++ dialogue.answer)
  pub fewer : length (dialogue.opening ++ dialogue.answer) < 2 ^ 64
  pub part : List ℕ
  pub more : List ℕ
  pub cut : dialogue.opening ++ dialogue.answer ≡ part ++ more
  pub left_is : left ≡ Some part

-- What the next call may find of the files of this one. Of files that were closed, what they hold, or what a crash leaves
-- of them, with the log or without; of files that could not be closed, what a crash leaves of them.
abbrev pub MayFind : {D : Type 0} {g : Ghosts D} → Result (Files D) (Error × FileStore D g) → Image → Type 0
MayFind {D} {g} (Ok files) next =
    AreClean g files.log files.db × ((image : Image) × ((image ≡ image_of g files) ⊎ outcomes g files.log files.db image) × ((next ≡ image) ⊎ (next ≡ record image { log = [] })))
MayFind (Err e) next = IsClean (view e.1) × ((trees : Trees) × recovers e.1 trees × ∥ HoldsDatabase next trees ∥₁)

-- What the next call may find of the files whose database this one has not opened.
abbrev pub MayFindUnopened : {D : Type 0} {g : Ghosts D} → Image → Unopened D g → Image → Type 0
MayFindUnopened before (Unopened.NotOpened why) next = next ≡ before
MayFindUnopened before (Unopened.Files error left) next = IsCleanLeft left × MayFindLeft before left next
MayFindUnopened before (Unopened.Database cause conn) next =
    HasCleanDisk (file_state conn) × ((trees : Trees) × (file_state conn).may_leave trees × ∥ HoldsDatabase next trees ∥₁)

-- The database in files that were the first image was not opened; the next call may find the second. What is said of the call is
-- the clause `turned` of `follow_file`.
pub record IsLeftUnopened {D : Type 0} (g : Ghosts D) (only : Names) (before next : Image) : Type 0 where
  pub wanted : Option Names
  pub why : Unopened D g
  pub is_for : names_for wanted ≡ only
  pub away : IsTurnedAway wanted before why
  pub finds : MayFindUnopened before why next

module _ {D : Type 0} (g : Ghosts D) {F T E : Type 0} (known : StreamView T) (gives : F → Ids → Result T E → Type 0) (only names : Names) (history : List ScriptValue) where
  -- A source with this history was followed once into files that were the first image before; the next call may find the
  -- second. What is said of the call is the clause `follows` of `follow_file`.
  pub record Starts (before next : Image) : Type 0 where
    pub settings : Settings
    pub connect : F
    pub done : FollowedFile T E D g
    pub follows : (content : Content) → FilesHold only names content before → FollowsFile known (gives connect) settings only names content done
    -- each stream that is given for the executed set of the content that the files held has a prefix of what the source sends
    pub sent : (stream : T) (held : Content) → gives connect held.executed (Ok stream) → FilesHold only names held before → IsSent settings.limit names history held (known.left stream)
    pub finds : MayFind done.closed next

  -- The stream that was given has all that the source sends, all of it was read, and the connection ended by its bytes.
  pub record IsUncut {before next : Image} (start : Starts before next) : Type 0 where
    pub end : Ended
    pub counted : Counted T
    pub connection : start.done.connection ≡ Ok (end, counted)
    pub in_full : IsInFull end.reason
    pub nothing_left : known.left counted.stream ≡ Some []
    pub all_sent : (stream : T) (held : Content) (gave : gives start.connect held.executed (Ok stream)) (hold : FilesHold only names held before) → (start.sent stream held gave hold).more ≡ []

  -- Each time the files are what the call before has left, which may have opened the database or not.
  abbrev pub AreStarts : Image → List Image → Type 0
  AreStarts before [] = Unit {0}
  AreStarts before (next ∷ images) = (Starts before next ⊎ IsLeftUnopened g only before next) × AreStarts next images

-- The files hold the content after the first transactions of the history, this many.
pub record HoldFirst (only names : Names) (history : List ScriptValue) (image : Image) (count : ℕ) : Type 0 where
  pub content : Content
  pub hold : FilesHold only names content image
  pub reached : Reaches names history count content

-- The files hold contents after the first transactions of a history: each time after as many as the time before, or more.
abbrev pub FilesNeverFall : Names → Names → List ScriptValue → ℕ → List Image → Type 0
FilesNeverFall only names history j [] = Unit {0}
FilesNeverFall only names history j (image ∷ images) = (i : ℕ) × HoldFirst only names history image (j + i) × FilesNeverFall only names history (j + i) images
