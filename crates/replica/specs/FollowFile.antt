-- A source that was followed into a database file.
use Rattle.std.specs.Prelude.{◌≡◌, ◌≤◌, ◌<◌, ◌↔◌, ℕ, false, List, Option, Result, Ok, Err, MatchResult}
use Rattle.sqlite_disk.specs.declared.Disk.{Ghosts as Disk}
use Rattle.sqlite_wal.specs.Reads.{AreClean}
use Rattle.sqlite_trees.specs.Tree.{Trees}
use Rattle.sqlite_trees.specs.declared.store.Store.{Ghosts}
use Rattle.sqlite_trees.specs.View.{IsClean}
use Rattle.sqlite_store.specs.declared.store.FileStore.{FileStore}
use Rattle.sqlite_store.specs.FileStore.{view, recovers}
use Rattle.sqlite.specs.Files.{over_files}
use Rattle.gtid.specs.Identifier.{Ids}
use Rattle.binlog.specs.Filter.{Names}
use Rattle.store.specs.State.{Content}
use Rattle.store.specs.declared.store.Store.{Store}
use Rattle.store.specs.Store.{Holds, names_of}
use Rattle.store.specs.Entering.{IsLeft}
use Rattle.replica.specs.declared.source.counted.Counted.{Counted}
use Rattle.replica.specs.declared.session.end.Reason.TheVariants.{ReadFailed, WriteFailed}
use Rattle.replica.specs.declared.session.end.Ended.{Ended}
use Rattle.replica.specs.declared.file.followed.FollowedFile.{FollowedFile}
use Rattle.replica.specs.Settings.{Settings}
use Rattle.replica.specs.Conn.{StoreState}
use Rattle.replica.specs.Crash as crash
use Rattle.replica.specs.File.{AreClosedWith}
use Rattle.replica.specs.Failing.{HaveFailed}
use Rattle.replica.specs.Follow.{Follows, exchange, failed_reads_of, failed_writes_of}

-- What is known of a stream: the bytes that are left to read, the bytes that were written, and how many reads and writes have failed.
pub record StreamView (T : Type 0) : Type 0 where
  pub left : T → Option (List ℕ)
  pub written : T → Option (List ℕ)
  pub failures : T → Option (ℕ × ℕ)

-- A failed read is reported exactly if a read of the stream has failed, and a failed write likewise; no call follows it.
pub record CountsFailures {T : Type 0} (end : Ended) (stream : Counted T) : Type 0 where
  pub read_failed : (end.reason ≡ ReadFailed) ↔ (0 < stream.failed_reads)
  pub write_failed : (end.reason ≡ WriteFailed) ↔ (0 < stream.failed_writes)
  pub once : (stream.failed_reads ≤ 1) × (stream.failed_writes ≤ 1)

module _ {S : Type 0} (g : Ghosts S) {T E : Type 0} (known : StreamView T) (gives : Ids → Result T E → Type 0) (settings : Settings) where
  -- A store that held this content, and had failed or not, has followed a source over a stream that was given for its executed set.
  pub record FollowsOver (before after : Store S g) (held : StoreState) (done : Ended × Counted T) : Type 0 where
    pub stream : T
    pub given : gives held.content.executed (Ok stream)
    pub follows : Follows g settings before after held.broken held.content (exchange known.left known.written stream done.1.stream) done.0
    -- the failures that the stream reports are the one in the end, or none
    pub reported : HaveFailed (known.failures stream) (known.failures done.1.stream) (failed_reads_of done.0.reason) (failed_writes_of done.0.reason)

  -- The source was followed over the stream that was given for the executed set; or none was, and the store is as before.
  abbrev pub Connects : Store S g → Store S g → StoreState → Result (Ended × Counted T) E → Type 0
  Connects before after held (Ok done) = FollowsOver before after held done
  Connects before after held (Err cause) = gives held.content.executed (Err cause) × (after ≡ before)

module _ {D : Type 0} (g : Disk D) {T E : Type 0} (known : StreamView T) (gives : Ids → Result T E → Type 0) (settings : Settings) (names : Names) (old : Content) where
  -- A store with this content and these tables has followed a source over a stream that was given for its executed set, and
  -- this holds of the bytes read, the content afterwards and the end.
  pub record IsFollowed (P : List ℕ → Content → Ended → Type 0) (done : Ended × Counted T) : Type 0 where
    pub before : Store (FileStore D g) over_files
    pub after : Store (FileStore D g) over_files
    pub holds : Holds over_files before old
    pub following : names_of over_files before ≡ names
    pub over : FollowsOver over_files known gives settings before after (record { broken = false; content = old }) done
    pub comes : P over.follows.read over.follows.has_read.new done.0

  -- The source was followed over the stream that was given for the executed set; or none was, and this holds of the content
  -- from before.
  abbrev pub IsFollowedOr : (List ℕ → Content → Ended → Type 0) → Type 0 → Result (Ended × Counted T) E → Type 0
  IsFollowedOr P Q (Ok done) = IsFollowed P done
  IsFollowedOr P Q (Err cause) = gives old.executed (Err cause) × Q

-- Whatever a crash may leave of files that could not be closed is opened as one of these contents, with these tables.
abbrev pub MayHold : {D : Type 0} {g : Disk D} → Names → FileStore D g → (Content → Type 0) → Type 0
MayHold names last among = (trees : Trees) → recovers last trees → (content : Content) × among content × ((only : Names) → IsLeft only names content trees)

-- The closed files hold the content that following the source has led to, and without a stream the one from before. Files
-- that could not be closed may be left with that content, or with one more transaction if the database failed.
abbrev pub FollowsFile : {D : Type 0} {g : Disk D} {T E : Type 0} → StreamView T → (Ids → Result T E → Type 0) → Settings → Names → Names → Content → FollowedFile T E D g → Type 0
FollowsFile {D} {g} known gives settings only names old done = MatchResult done.closed
    (λ files. AreClean g files.log files.db → IsFollowedOr g known gives settings names old (λ read new end. AreClosedWith g names new files) (AreClosedWith g names old files) done.connection)
    (λ e. IsClean (view e.1) → IsFollowedOr g known gives settings names old (λ read new end. MayHold names e.1 (crash.IsLeftOfOne settings.limit names old read new end)) ((trees : Trees) → recovers e.1 trees → IsLeft only names old trees) done.connection)
