-- Captured connections that were read in order.
use Rattle.std.specs.Prelude.{◌≡◌, ◌≢◌, ◌≤◌, ℕ, Bool, true, false, List, [], ◌∷◌, ◌++◌, length, take, slice_get, Option, Some, Result, Ok, Err, option_to_list, All}
use Rattle.std.specs.Io.KnownBytes.{Consumes, IsAtEnd}
use Rattle.sqlite_trees.specs.declared.store.Store.{Ghosts}
use Rattle.store.specs.State.{Content}
use Rattle.store.specs.declared.store.Store.{Store}
use Rattle.replica.specs.declared.source.captures.Capture.{Capture}
use Rattle.replica.specs.declared.source.captures.Halt.{Halt}
use Rattle.replica.specs.declared.source.captures.Halt.TheVariants.{Reader, Observer}
use Rattle.replica.specs.declared.session.end.Reason.TheVariants.{EndOfInput}
use Rattle.replica.specs.declared.session.end.Ended.{Ended}
use Rattle.replica.specs.Conn.{StoreState}
use Rattle.replica.specs.Over.{HasRead}
use Rattle.replica.specs.Noted.{Account, MayEnd}

module _ {R : Type 0} (left : R → Option (List ℕ)) where
  -- These bytes came of the capture: its first byte, and the next ones of its reader.
  pub record ComesOf (capture : Capture R) (b : List ℕ) : Type 0 where
    pub rest : Option (List ℕ)
    pub read : List ℕ
    pub consumes : Consumes (left capture.reader) rest read
    pub bytes : b ≡ option_to_list capture.first ++ read

  -- The capture was read as a connection of these bytes with this end; if its input ended, these are all its bytes.
  pub record IsReadAs (capture : Capture R) (b : List ℕ) (end : Ended) : Type 0 where
    pub comes : ComesOf capture b
    pub all : end.reason ≡ EndOfInput → IsAtEnd comes.rest

  -- each of the captures, in order
  abbrev pub AreReadAs : List (Capture R) → List (List ℕ) → List Ended → Type 0
  AreReadAs [] [] [] = Unit {0}
  AreReadAs (capture ∷ captures) (b ∷ bs) (end ∷ ends) = IsReadAs capture b end × AreReadAs captures bs ends
  AreReadAs _ _ _ = ⊥

module _ {R : Type 0} (left : R → Option (List ℕ)) (P : List (List ℕ) → List Ended → Type 0) where
  -- These captures were read, in order, each once, and this holds of their bytes and ends.
  pub record AreRead (captures : List (Capture R)) (ends : List Ended) : Type 0 where
    pub bs : List (List ℕ)
    pub are_read : AreReadAs left captures bs ends
    pub holds : P bs ends

  -- After these captures the reader of the next one failed, before its connection had ended. What it had given was read
  -- too.
  pub record AreReadUpTo (captures : List (Capture R)) (next : Option (Capture R)) (ends : List Ended) : Type 0 where
    pub bs : List (List ℕ)
    pub are_read : AreReadAs left captures bs ends
    pub capture : Capture R
    pub is_next : next ≡ Some capture
    pub b : List ℕ
    pub end : Ended
    pub comes : ComesOf left capture b
    pub unended : end.reason ≡ EndOfInput
    pub holds : P (bs ++ b ∷ []) (ends ++ end ∷ [])

  -- All captures were read; or the reader of the one after those with an end failed; or those with an end were read.
  abbrev pub Reads : List (Capture R) → List Ended → Result (Unit {0}) Halt → Type 0
  Reads captures ends (Ok x) = AreRead captures ends
  Reads captures ends (Err (Reader e)) = AreReadUpTo (take (length ends) captures) (slice_get captures (length ends)) ends
  Reads captures ends (Err Observer) = AreRead (take (length ends) captures) ends

module _ {S : Type 0} (g : Ghosts S) {R : Type 0} (left : R → Option (List ℕ)) where
  -- A store that held this content, and had failed or not, has read this capture with this end.
  pub record HasReadOne (limit : ℕ) (before after : Store S g) (held : StoreState) (capture : Capture R) (end : Ended) : Type 0 where
    pub b : List ℕ
    pub is_read : IsReadAs left capture b end
    pub has_read : HasRead g limit before after held.broken held.content b end

  -- The reader of the capture failed, and what it had given did not end the connection.
  pub record HasBrokenOff (limit : ℕ) (before after : Store S g) (was : Bool) (old : Content) (capture : Capture R) : Type 0 where
    pub b : List ℕ
    pub end : Ended
    pub comes : ComesOf left capture b
    pub unended : end.reason ≡ EndOfInput
    pub has_read : HasRead g limit before after was old b end

-- How an observer stops the reading of captures. `was` and `is` are its accounts before and afterwards.
pub record HeedsObserver (was is : Account) (ends : List Ended) (read : Result (Unit {0}) Halt) : Type 0 where
  -- Captures are left unread for the observer only if it has stopped.
  pub asked : read ≡ Err Observer → is.has_stopped ≡ true
  -- No connection is ended by a failure of a stream, and one is halted, or ended with `Until`, only if the observer asked for that.
  pub may_end : All (λ end. MayEnd end.reason is) ends
  -- If all captures were read, and there was one, it has not stopped.
  pub heeds : read ≡ Ok tt → ends ≢ [] → is.has_stopped ≡ false
  -- If it had stopped before, one capture at most was read.
  pub no_more : was.has_stopped ≡ true → length ends ≤ 1
