-- Private: what a store does with a payload of the dump.
use Rattle.std.specs.Prelude.{◌≡◌, ◌⊎◌, Bool, true, false, if◌then◌else◌, List, [], ◌∷◌, ◌++◌, Result, Ok, Err}
use Rattle.sqlite_trees.specs.declared.store.Store.{Ghosts}
use Rattle.sqlite_trees.specs.Tree.{Trees}
use Rattle.binlog.specs.Event.{EventValue}
use Rattle.gather.specs.Transaction.{DeliveryValue, AreDeliveries}
use Rattle.gather.specs.declared.gatherer.Gatherer.{Gatherer}
use Rattle.store.specs.State.{Content}
use Rattle.store.specs.Changes.{HasOutcome, done, is_executed}
use Rattle.store.specs.declared.fault.StoreFault.{StoreFault}
use Rattle.store.specs.declared.store.Store.{Store}
use Rattle.store.specs.Store.{HoldsAs, AreOf, database, names_of}
use Rattle.replica.specs.declared.session.end.Reason.{Reason}
use Rattle.replica.specs.declared.session.end.Reason.TheVariants.{Refused, Database, Memory, Halted}
use Rattle.replica.specs.Stream.{Carries}
use Rattle.wire.specs.Payload.{Payload}
use Rattle.replica.specs.Conn.{AppliesAll, IsRefusedBy, FailsFor}
use Rattle.replica.specs.PayloadStep.{GathersMore, EndsDump}

-- When a payload of the dump comes: whether the store has failed, and what it holds; and the events that were read in the dump, with
-- their transactions.
pub record SoFar : Type 0 where
  pub is : Bool
  pub now : Content
  pub events : List EventValue
  pub deliveries : List DeliveryValue

abbrev pub so_far : Bool → Content → List EventValue → List DeliveryValue → SoFar
so_far is now es ds = record { is = is; now = now; events = es; deliveries = ds }

module _ {S : Type 0} (g : Ghosts S) (sofar : SoFar) (p : Payload) (old new : Store S g) where
  -- The event is gathered, and its transactions, one or none, are applied.
  pub record GoesFurther (gatherer : Gatherer) (applied : Bool) : Type 0 where
    pub more : List DeliveryValue
    pub gathered : GathersMore (names_of g old) sofar.events sofar.deliveries p more gatherer
    pub after : Content
    pub applies : AppliesAll (names_of g old) sofar.now more (if applied then 1 else 0) after
    pub holds : HoldsAs g sofar.is after new
    pub schema : sofar.is ≡ false → (database g new).now.schema ≡ (database g old).now.schema
    pub kept : sofar.is ≡ true → after ≡ sofar.now

  -- The event ends this transaction.
  pub record EndsOne (d : DeliveryValue) : Type 0 where
    pub event : EventValue
    pub carries : Carries (names_of g old) p event
    pub delivers : AreDeliveries (sofar.events ++ event ∷ []) (sofar.deliveries ++ d ∷ [])

  -- The store is as it was, except that it may have failed.
  pub record IsAsBefore (broken : Bool) : Type 0 where
    pub holds : HoldsAs g broken sofar.now new
    pub schema : broken ≡ false → (database g new).now.schema ≡ (database g old).now.schema

  -- The database failed in the transaction: a crash leaves what was held, or what the transaction makes of it.
  pub record Fails (cause : StoreFault) (d : DeliveryValue) : Type 0 where
    pub rests : IsAsBefore true
    pub fails : FailsFor sofar.is (is_executed sofar.now d) cause
    pub leaves : sofar.is ≡ false → (trees : Trees) → (database g new).may_leave trees
        → (left : Content) × AreOf (database g old).now.schema (names_of g old) left trees × ((left ≡ sofar.now) ⊎ HasOutcome (names_of g old) sofar.now d (done left))

  -- The connection ends: because of the payload, since memory ran out, because a transaction is refused, since the
  -- database failed, or since the observer halted it before a new transaction.
  abbrev pub EndsSo : Reason → Type 0
  EndsSo (Refused refusal) = (d : DeliveryValue) × EndsOne d × IsRefusedBy (names_of g old) sofar.now d refusal × IsAsBefore sofar.is
  EndsSo (Database cause) = (d : DeliveryValue) × EndsOne d × Fails cause d
  EndsSo Memory = (broken : Bool) × (sofar.is ≡ true → broken ≡ true) × IsAsBefore broken
      × (sofar.is ≡ false → broken ≡ true → (trees : Trees) → (database g new).may_leave trees → AreOf (database g old).now.schema (names_of g old) sofar.now trees)
  EndsSo Halted = (d : DeliveryValue) × EndsOne d × (is_executed sofar.now d ≡ false) × IsAsBefore sofar.is
  EndsSo reason = EndsDump (names_of g old) sofar.events p reason × IsAsBefore sofar.is

  abbrev pub TakesEvent : Gatherer → Result Bool Reason → Type 0
  TakesEvent gatherer (Ok applied) = GoesFurther gatherer applied
  TakesEvent gatherer (Err reason) = EndsSo reason
