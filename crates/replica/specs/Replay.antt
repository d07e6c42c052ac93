-- Captured connections that were read into a database file.
use Rattle.std.specs.Prelude.{◌≡◌, ℕ, Bool, false, List, [], ◌∷◌, Option, MatchResult}
use Rattle.sqlite_disk.specs.declared.Disk.{Ghosts}
use Rattle.sqlite_disk.specs.declared.Files.{Files}
use Rattle.sqlite_wal.specs.Reads.{AreClean}
use Rattle.sqlite_trees.specs.Tree.{Trees}
use Rattle.sqlite_trees.specs.View.{IsClean}
use Rattle.sqlite_store.specs.declared.store.FileStore.{FileStore}
use Rattle.sqlite_store.specs.FileStore.{view, recovers}
use Rattle.binlog.specs.Filter.{Names}
use Rattle.store.specs.State.{Content}
use Rattle.store.specs.Entering.{IsLeft}
use Rattle.replica.specs.declared.source.captures.Capture.{Capture}
use Rattle.replica.specs.declared.session.end.Ended.{Ended}
use Rattle.replica.specs.declared.file.replaying.Replayed.{Replayed}
use Rattle.replica.specs.Stream.{Reading, due_after}
use Rattle.replica.specs.Conn.{HasApplied, History}
use Rattle.replica.specs.Crash.{IsLeftOfAll}
use Rattle.replica.specs.Capture.{Reads}
use Rattle.replica.specs.File.{AreClosedWith}

-- ---- Without the reasons why connections end.

-- The first transactions of a connection, those of the payloads that were read, are applied in order, each that is new, and none is
-- refused: so many.
pub record AppliesSome (limit : ℕ) (names : Names) (old : Content) (b : List ℕ) (applied : ℕ) (new : Content) : Type 0 where
  pub reading : Reading limit names b
  pub has_applied : HasApplied names old reading.deliveries (due_after reading.payloads) applied new

-- The same of each connection, in order, as many as its end says.
abbrev pub AppliesEach : ℕ → Names → Content → List (List ℕ) → List Ended → Content → Type 0
AppliesEach limit names old [] [] new = new ≡ old
AppliesEach limit names old (b ∷ bs) (end ∷ ends) new = (mid : Content) × AppliesSome limit names old b end.applied mid × AppliesEach limit names mid bs ends new
AppliesEach limit names old _ _ new = ⊥

-- ---- With them.

module _ {D : Type 0} (g : Ghosts D) where
  -- Connections with these bytes and ends lead from a content to another, which the closed files hold.
  pub record LeadsTo (limit : ℕ) (names : Names) (old : Content) (files : Files D) (bs : List (List ℕ)) (ends : List Ended) : Type 0 where
    pub is : Bool
    pub new : Content
    pub history : History limit names (record { broken = false; content = old }) bs (record { broken = is; content = new }) ends
    pub closed : AreClosedWith g names new files

  -- Connections with these bytes and ends lead from a content to another. Files that could not be closed may be left with
  -- that content, or with one more transaction if the database failed.
  pub record MayLeave (limit : ℕ) (names : Names) (old : Content) (last : FileStore D g) (bs : List (List ℕ)) (ends : List Ended) : Type 0 where
    pub is : Bool
    pub new : Content
    pub history : History limit names (record { broken = false; content = old }) bs (record { broken = is; content = new }) ends
    pub each : (trees : Trees) → recovers last trees → (left : Content) × IsLeftOfAll limit names (record { broken = false; content = old }) bs new ends left × ((only : Names) → IsLeft only names left trees)

-- The captures were read in order, each once, from a content to another, which is in the closed files.
abbrev pub Replays : {D : Type 0} {g : Ghosts D} {R : Type 0} → (R → Option (List ℕ)) → ℕ → Names → Content → List (Capture R) → Replayed D g → Type 0
Replays {D} {g} {R} left limit names old captures done = MatchResult done.closed
    (λ files. AreClean g files.log files.db → Reads left (LeadsTo g limit names old files) captures done.ends.items done.read)
    (λ e. IsClean (view e.1) → Reads left (MayLeave g limit names old e.1) captures done.ends.items done.read)
