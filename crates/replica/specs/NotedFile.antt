-- What is reported to an observer of a database in files.
use Rattle.std.specs.Prelude.{◌≡◌, true, List, Option, Some, Result, MatchResult}
use Rattle.sqlite_disk.specs.declared.Disk.{Ghosts}
use Rattle.sqlite_disk.specs.declared.Files.{Files}
use Rattle.sqlite_wal.specs.Reads.{AreClean}
use Rattle.sqlite_wal.specs.Recovery.{Image}
use Rattle.sqlite_trees.specs.View.{IsClean}
use Rattle.sqlite_store.specs.declared.store.FileStore.{FileStore}
use Rattle.sqlite_store.specs.FileStore.{view}
use Rattle.sqlite.specs.declared.error.Error.{Error}
use Rattle.std.specs.FinSet as set
use Rattle.gtid.specs.Identifier.{Ids}
use Rattle.binlog.specs.Filter.{Names}
use Rattle.store.specs.State.{Content}
use Rattle.replica.specs.declared.source.counted.Counted.{Counted}
use Rattle.replica.specs.declared.session.end.Ended.{Ended}
use Rattle.replica.specs.declared.session.end.Reason.TheVariants.{Until}
use Rattle.store.specs.Entering.{names_for}
use Rattle.replica.specs.File.{OfHeld, AreClosedWith, KeepsContent}
use Rattle.replica.specs.FollowFile.{MayHold, CountsFailures}
use Rattle.replica.specs.Noted.{Account, IsAsked, IsLeftOfNoted, IsNotedSinceOpening, HasReached}

-- The closed files hold a content of this kind; files that could not be closed are left with one, or with more that is executed.
abbrev pub ComeTo : {D : Type 0} {g : Ghosts D} → Names → (Content → Type 0) → Result (Files D) (Error × FileStore D g) → Type 0
ComeTo {D} {g} names Is closed = MatchResult closed
    (λ files. AreClean g files.log files.db → (new : Content) × AreClosedWith g names new files × Is new)
    (λ e. IsClean (view e.1) → (new : Content) × Is new × MayHold names e.1 (λ left. set.is_subset new.executed left.executed ≡ true))

-- What was reported to an observer since the opening leads from this content to the one that the closed files hold. Files that could
-- not be closed may be left with that content, or with one transaction more, which was reported before it.
abbrev pub IsNotedOfFiles : {D : Type 0} {g : Ghosts D} → Names → Content → Account → Account → List Ended
    → Result (Files D) (Error × FileStore D g) → Type 0
IsNotedOfFiles {D} {g} names old was is ends closed = MatchResult closed
    (λ files. AreClean g files.log files.db → (new : Content) × AreClosedWith g names new files × IsNotedSinceOpening names old new was is ends)
    (λ e. IsClean (view e.1) → (new : Content) × (since : IsNotedSinceOpening names old new was is ends)
    × MayHold names e.1 (IsLeftOfNoted names since.noted_of.notices new))

-- The closed files hold the first content in which all of these transactions are executed.
abbrev pub HaveReached : {D : Type 0} {g : Ghosts D} → Names → Content → Ids → Result (Files D) (Error × FileStore D g) → Type 0
HaveReached names old wanted closed = ComeTo names (λ new. HasReached names old new wanted) closed

-- What was reported to an observer of files, and how it stops a call. `was` and `is` are its accounts before and afterwards. Transactions
-- are applied to the content `from content`, where the files held `content`: it is that content, or has a set added to it.
pub record AreNoted {D : Type 0} {g : Ghosts D} (wanted : Option Names) (image : Image) (from : Content → Content) (was is : Account)
    (ends : List Ended) (closed : Result (Files D) (Error × FileStore D g)) : Type 0 where
  -- What was reported leads from that content to the one that the closed files hold, with the ends of these connections. Files that could
  -- not be closed are left with that content, or with one transaction more, which was reported before it.
  pub notes : OfHeld wanted image (λ names content. IsNotedOfFiles names (from content) was is ends closed)
  -- If it had stopped before, nothing is applied: the files hold that content.
  pub keeps : was.has_stopped ≡ true → OfHeld wanted image (λ names content. KeepsContent (names_for wanted) names (from content) closed)

-- The end of a connection that was followed into files for an observer. `was` and `is` are its accounts before and afterwards.
pub record EndsInFiles {D T : Type 0} {g : Ghosts D} (wanted : Option Names) (image : Image) (was is : Account)
    (closed : Result (Files D) (Error × FileStore D g)) (ended : Ended × Counted T) : Type 0 where
  -- A failure of the stream is reported exactly if there was one; at most one call has failed.
  pub counts : CountsFailures ended.0 ended.1
  -- The connection is halted, or ended with `Until`, only if the observer asked for that.
  pub asked : IsAsked ended.0.reason is
  -- Where it is ended with `Until`, the files hold the first content in which all that the observer waited for is executed.
  pub until : ended.0.reason ≡ Until → (ids : Ids) → was.waits ≡ Some ids → OfHeld wanted image (λ names content. HaveReached names content ids closed)
