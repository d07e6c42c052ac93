-- What is done with the store of a database in a file.
use Rattle.std.specs.Prelude.{Result, MatchResult}
use Rattle.sqlite_disk.specs.declared.Disk.{Ghosts as Disk}
use Rattle.sqlite_disk.specs.declared.Files.{Files}
use Rattle.sqlite_wal.specs.Reads.{AreClean}
use Rattle.sqlite_trees.specs.declared.store.Store.{Ghosts}
use Rattle.sqlite_trees.specs.View.{IsClean}
use Rattle.sqlite_store.specs.declared.store.FileStore.{FileStore}
use Rattle.sqlite_store.specs.FileStore.{view}
use Rattle.sqlite.specs.declared.error.Error.{Error}
use Rattle.binlog.specs.Filter.{Names}
use Rattle.store.specs.State.{Content}
use Rattle.store.specs.declared.store.Store.{Store}
use Rattle.replica.specs.File.{AreClosedWith}
use Rattle.replica.specs.FollowFile.{MayHold}
use Rattle.replica.specs.Over.{HasStayed}

-- The store has a content of this kind, and a crash leaves only what may be left of it.
pub record HasWorked {S : Type 0} (g : Ghosts S) (is : Content → Type 0) (may_leave : Content → Content → Type 0) (store : Store S g) : Type 0 where
  pub new : Content
  pub leads : is new
  pub stays : HasStayed g store new (may_leave new)

-- The closed files hold a content of this kind. Files that could not be closed may be left with what may be left of one.
abbrev pub WorksInFiles : {D : Type 0} {g : Disk D} → Names → (Content → Type 0) → (Content → Content → Type 0) → Result (Files D) (Error × FileStore D g) → Type 0
WorksInFiles {D} {g} names is may_leave closed = MatchResult closed
    (λ files. AreClean g files.log files.db → (new : Content) × is new × AreClosedWith g names new files)
    (λ e. IsClean (view e.1) → (new : Content) × is new × MayHold names e.1 (may_leave new))
