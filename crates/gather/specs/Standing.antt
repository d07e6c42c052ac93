-- What a gatherer keeps of the events that it has been given.
use Rattle.std.specs.Prelude.{◌≡◌, ◌⊎◌, ℕ, Bool, true, false, List, [], ◌∷◌, length}
use Rattle.binlog.specs.Event.{EventValue, gtid, begin}
use Rattle.gather.specs.Transaction.{ChangeValue, DeliveryValue, AreChanges, AreDeliveries}
use Rattle.gather.specs.Fault.{has_format, last_block, is_open}
use Rattle.gather.specs.State.{IsAt}
use Rattle.gather.specs.declared.state.State.{State}
use Rattle.gather.specs.declared.gatherer.Gatherer.{Gatherer}

-- The events are lawful, and these are their transactions; `formatted` says whether a format description has come, and
-- the last block has brought the gatherer to this state.
pub record Brings (events : List EventValue) (ds : List DeliveryValue) (formatted : Bool) (state : State) : Type 0 where
  pub deliveries : AreDeliveries events ds
  pub has_format : formatted ≡ has_format events
  pub at : IsAt (last_block events) state

-- The gatherer has been given these events, which are lawful, and has answered their transactions: this is its
-- position.
pub record HasGathered (events : List EventValue) (ds : List DeliveryValue) (g : Gatherer) : Type 0 where
  pub given : Brings events ds g.formatted g.state
  pub goes_on : g.ended ≡ false

-- It has answered a fault.
abbrev pub HasAnsweredFault : Gatherer → Type 0
HasAnsweredFault g = g.ended ≡ true

-- The last block is an open transaction with this body, whose events have brought so many changes.
pub record HasPending (events : List EventValue) (count : ℕ) : Type 0 where
  pub source : List ℕ
  pub number : ℕ
  pub body : List EventValue
  pub block_is : last_block events ≡ gtid source number ∷ begin ∷ body
  pub changes : List ChangeValue
  pub are_changes : AreChanges [] body changes
  pub count_is : count ≡ length changes

-- So many changes are pending: those of the open transaction, or none.
abbrev pub ArePending : List EventValue → ℕ → Type 0
ArePending events count = HasPending events count ⊎ ((is_open (last_block events) ≡ false) × (count ≡ 0))
