-- What a replay of captured connections leaves in files that had no database, for the next call.
use Rattle.replica.proofs.Names.{ℕ, List, [], ◌∷◌, Option, Result, Ok, Err, IfOk, refl, inl, inr, Files, Image, AreClean, FileStore, Error, Names, Content, names_for, Capture, Ended, History, FilesHold}
use Rattle.std.specs.Prelude.{MatchResult}
use Rattle.sqlite_disk.specs.declared.Disk.{Ghosts}
use Rattle.sqlite_wal.specs.Files.{outcomes}
use Rattle.store.specs.Open.{nothing}
use Rattle.replica.specs.declared.source.captures.Halt.{Halt}
use Rattle.replica.specs.Conn.{StoreState}
use Rattle.replica.specs.Capture.{Reads}
use Rattle.replica.specs.File.{HoldNone, OfHeld}
use Rattle.replica.specs.Replay.{AppliesEach, LeadsTo}
use Rattle.replica.proofs.CaptureList.{reads_weaker}

-- connections without the reasons why they end
each_of : (limit : ℕ) (names : Names) (before : StoreState) (bs : List (List ℕ)) (after : StoreState) (ends : List Ended) → History limit names before bs after ends → AppliesEach limit names before.content bs ends after.content
each_of limit names before [] after [] h = h.1
each_of limit names before (b ∷ bs) after (end ∷ ends) h =
    (h.0.content, record { reading = h.1.reading; has_applied = h.1.has_applied }, each_of limit names h.0 bs after ends h.3)
each_of limit names before [] after (end ∷ ends) h = absurd h
each_of limit names before (b ∷ bs) after [] h = absurd h

module _ {D : Type 0} (g : Ghosts D) {R : Type 0} (left : R → Option (List ℕ)) (limit : ℕ) (wanted only : Option Names) (first next : Image) (captures : List (Capture R)) (Says : Names → Content → Type 0) (Rest : Names → Content → Error × FileStore D g → List Ended → Result (Unit {0}) Halt → Type 0) where
  -- what the next call says
  abbrev IsSaid : List (List ℕ) → List Ended → Type 0
  IsSaid bs ends = (new : Content) × AppliesEach limit (names_for wanted) nothing bs ends new × Says (names_for wanted) new

  said_of : (files : Files D) (next_of : outcomes g files.log files.db next) → OfHeld only next Says → (bs : List (List ℕ)) (ends : List Ended) → LeadsTo g limit (names_for wanted) nothing files bs ends → IsSaid bs ends
  said_of files next_of says bs ends l =
      let hold : FilesHold (names_for only) (names_for wanted) l.new next = inr (l.closed.trees, (l.closed.left next next_of).both, l.closed.stands (names_for only)) in
      (l.new, each_of limit (names_for wanted) _ bs _ ends l.history, says (names_for wanted) l.new hold)

  pub listed_again : (ends : List Ended) (read : Result (Unit {0}) Halt) (closed : Result (Files D) (Error × FileStore D g)) → HoldNone first
      → ((names : Names) (content : Content) → FilesHold (names_for wanted) names content first → MatchResult closed (λ files. AreClean g files.log files.db → Reads left (LeadsTo g limit names content files) captures ends read) (λ e. Rest names content e ends read))
      → OfHeld only next Says → IfOk closed (λ files. AreClean g files.log files.db → outcomes g files.log files.db next → Reads left IsSaid captures ends read)
  listed_again ends read (Ok files) none replays says = λ clean next_of.
      reads_weaker left (LeadsTo g limit (names_for wanted) nothing files) IsSaid (said_of files next_of says) captures ends read (replays (names_for wanted) nothing (inl (none, refl, refl)) clean)
  listed_again ends read (Err e) none replays says = tt
