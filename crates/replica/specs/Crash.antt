-- What a crash may leave of connections.
use Rattle.std.specs.Prelude.{◌≡◌, ℕ, ◌+◌, ◌⊎◌, false, List, ◌∷◌, ◌++◌, length}
use Rattle.binlog.specs.Filter.{Names}
use Rattle.gather.specs.Transaction.{DeliveryValue}
use Rattle.store.specs.State.{Content}
use Rattle.store.specs.Changes.{HasOutcome, done}
use Rattle.sqlite.specs.declared.error.Error.{Error}
use Rattle.store.specs.declared.fault.StoreFault.TheVariants as fault
use Rattle.replica.specs.declared.session.end.Reason.TheVariants.{Database}
use Rattle.replica.specs.declared.session.end.Ended.{Ended}
use Rattle.replica.specs.Stream.{Reading, due_after}
use Rattle.replica.specs.End.{rest_of}
use Rattle.replica.specs.Conn.{HasApplied, NextEnds, Conn, AppliesFirst, StoreState, History}

-- The database failed in the transaction that the next payload ends, and what is left has this transaction too.
pub record IsOneMore (limit : ℕ) (names : Names) (old : Content) (b : List ℕ) (new : Content) (end : Ended) (left : Content) : Type 0 where
  pub cause : Error
  pub failed : end.reason ≡ Database (fault.Database cause)
  pub reading : Reading limit names b
  pub at_is : end.at ≡ length reading.front
  pub has_applied : HasApplied names old reading.deliveries (due_after reading.payloads) end.applied new
  pub next : DeliveryValue
  pub ends : NextEnds (rest_of reading) reading.deliveries next
  pub outcome : HasOutcome names new next (done left)

-- What a crash leaves of a connection: the transactions that were applied, or one more if the database failed.
abbrev pub IsLeftOfOne : ℕ → Names → Content → List ℕ → Content → Ended → Content → Type 0
IsLeftOfOne limit names old b new end left = (left ≡ new) ⊎ IsOneMore limit names old b new end left

-- The connection has applied the first transactions of its bytes, some number of them, and what is left is the content after
-- these; or, if the database failed, after one more transaction, which is new.
pub record LeavesFirst (limit : ℕ) (names : Names) (old : Content) (b : List ℕ) (new : Content) (end : Ended) (left : Content) : Type 0 where
  pub count : ℕ
  pub begun : AppliesFirst limit names old b count end.applied new
  pub left_is : (left ≡ new) ⊎ ((cause : Error) × (end.reason ≡ Database (fault.Database cause)) × AppliesFirst limit names old b (count + 1) (end.applied + 1) left)

-- As IsOneMore, for a list of connections: the additional transaction is of the first connection in which the database
-- failed.
pub record IsOneMoreIn (limit : ℕ) (names : Names) (first : StoreState) (bs : List (List ℕ)) (ends : List Ended) (left : Content) : Type 0 where
  pub before : List (List ℕ)
  pub b : List ℕ
  pub after : List (List ℕ)
  pub ends_before : List Ended
  pub end : Ended
  pub ends_after : List Ended
  pub mid : Content
  pub new : Content
  pub connections : bs ≡ before ++ b ∷ after
  pub ends_are : ends ≡ ends_before ++ end ∷ ends_after
  -- the store has not failed before
  pub history : History limit names first before (record { broken = false; content = mid }) ends_before
  pub conn : Conn limit names false mid b new end
  pub more : IsOneMore limit names mid b new end left

abbrev pub IsLeftOfAll : ℕ → Names → StoreState → List (List ℕ) → Content → List Ended → Content → Type 0
IsLeftOfAll limit names first bs new ends left = (left ≡ new) ⊎ IsOneMoreIn limit names first bs ends left
