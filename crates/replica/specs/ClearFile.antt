-- A database file of which the rows of one table were taken out.
use Rattle.std.specs.Prelude.{MatchResult}
use Rattle.sqlite_disk.specs.declared.Disk.{Ghosts}
use Rattle.sqlite_wal.specs.Reads.{AreClean}
use Rattle.sqlite_trees.specs.View.{IsClean}
use Rattle.sqlite_store.specs.FileStore.{view}
use Rattle.binlog.specs.Filter.{Names}
use Rattle.store.specs.State.{Content}
use Rattle.replica.specs.declared.file.cleared.ClearedFile.{ClearedFile}
use Rattle.replica.specs.File.{AreClosedWith}
use Rattle.replica.specs.FollowFile.{MayHold}
use Rattle.replica.specs.Clear.{TableClear, ClearsTo, IsLeftOfClear}

-- The closed files hold the content that the end leads to. Files that could not be closed may be left with that content, or, if
-- the database failed in the transaction, with the old one without the rows of the table.
abbrev pub ClearsFile : {D : Type 0} {g : Ghosts D} → TableClear → Names → Content → ClearedFile D g → Type 0
ClearsFile {D} {g} clear names old done = MatchResult done.closed
    (λ files. AreClean g files.log files.db → (new : Content) × ClearsTo names clear old done.end new × AreClosedWith g names new files)
    (λ e. IsClean (view e.1) → (new : Content) × ClearsTo names clear old done.end new × MayHold names e.1 (IsLeftOfClear names clear old done.end new))
