-- A database file that was changed by transactions that no connection carries.
use Rattle.std.specs.Prelude.{MatchResult}
use Rattle.sqlite_disk.specs.declared.Disk.{Ghosts}
use Rattle.sqlite_wal.specs.Reads.{AreClean}
use Rattle.sqlite_trees.specs.View.{IsClean}
use Rattle.sqlite_store.specs.FileStore.{view}
use Rattle.gtid.specs.Identifier.{Ids}
use Rattle.binlog.specs.Filter.{Names}
use Rattle.store.specs.State.{Content}
use Rattle.replica.specs.declared.file.changed.ChangedFile.{ChangedFile}
use Rattle.replica.specs.File.{AreClosedWith}
use Rattle.replica.specs.FollowFile.{MayHold}
use Rattle.gather.specs.Given.{Supply}
use Rattle.replica.specs.Change.{Changes, IsLeftOfChange}

-- The closed files hold the content that the transactions have led to. Files that could not be closed may be left with that
-- content, or with one step more if the database failed.
abbrev pub ChangesFile : {D : Type 0} {g : Ghosts D} {E : Type 0} → Supply → Names → Content → Ids → ChangedFile E D g → Type 0
ChangesFile {D} {g} left names old ids done = MatchResult done.closed
    (λ files. AreClean g files.log files.db → (change : Changes names old ids left done.applied done.end) × AreClosedWith g names change.new files)
    (λ e. IsClean (view e.1) → (change : Changes names old ids left done.applied done.end) × MayHold names e.1 (IsLeftOfChange names old ids left done.applied done.end change))
