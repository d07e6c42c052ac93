-- Private: what a store does with one transaction.
use Rattle.std.specs.Prelude.{◌≡◌, ◌⊎◌, Bool, true, false, if◌then◌else◌, [], ◌∷◌, Result, Ok, Err}
use Rattle.sqlite_trees.specs.declared.store.Store.{Ghosts}
use Rattle.sqlite_trees.specs.Tree.{Trees}
use Rattle.gather.specs.Transaction.{DeliveryValue}
use Rattle.store.specs.State.{Content}
use Rattle.store.specs.Changes.{HasOutcome, done, is_executed}
use Rattle.store.specs.declared.fault.StoreFault.TheVariants as fault
use Rattle.store.specs.declared.store.Store.{Store}
use Rattle.store.specs.Store.{Holds, HasFailed, AreOf, database, names_of}
use Rattle.replica.specs.declared.session.end.Reason.{Reason}
use Rattle.replica.specs.declared.session.end.Reason.TheVariants.{Refused, Database, Memory, Halted}
use Rattle.replica.specs.Conn.{AppliesAll, IsRefusedBy, IsOwn}

-- It is not applied since the observer has stopped, or for a reason that is neither the observer's nor a stream's.
abbrev pub IsOwnOrHalted : Reason → Bool → Type 0
IsOwnOrHalted Halted stopped = stopped ≡ true
IsOwnOrHalted reason stopped = IsOwn reason

module _ {S : Type 0} (g : Ghosts S) (now : Content) (d : DeliveryValue) (old new : Store S g) where
  -- It is applied, or was executed.
  pub record IsAppliedOrKnown (applied : Bool) : Type 0 where
    pub after : Content
    pub applies : AppliesAll (names_of g old) now (d ∷ []) (if applied then 1 else 0) after
    pub holds : Holds g new after

  -- The store fails in it, and a crash leaves one of these contents.
  pub record FailsIn (left : Content → Type 0) : Type 0 where
    pub fresh : is_executed now d ≡ false
    pub failed : HasFailed g new now
    pub leaves : (trees : Trees) → (database g new).may_leave trees
        → (content : Content) × AreOf (database g old).now.schema (names_of g old) content trees × left content

  -- Why it is not.
  abbrev pub IsNotApplied : Reason → Type 0
  IsNotApplied (Refused refusal) = IsRefusedBy (names_of g old) now d refusal × Holds g new now
  IsNotApplied (Database (fault.Database e)) = FailsIn (λ left. (left ≡ now) ⊎ HasOutcome (names_of g old) now d (done left))
  IsNotApplied Memory = FailsIn (λ left. left ≡ now)
  IsNotApplied Halted = (is_executed now d ≡ false) × Holds g new now
  IsNotApplied _ = ⊥

  abbrev pub TakesAlone : Result Bool Reason → Type 0
  TakesAlone (Ok applied) = IsAppliedOrKnown applied
  TakesAlone (Err reason) = IsNotApplied reason
