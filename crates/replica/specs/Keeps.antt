-- What a call keeps that may change a store, whatever it answers.
use Rattle.std.specs.Prelude.{◌≡◌, Bool, true, List}
use Rattle.sqlite_trees.specs.declared.store.Store.{Ghosts}
use Rattle.sqlite.specs.State.{HasCleanDisk}
use Rattle.store.specs.State.{Content}
use Rattle.store.specs.declared.store.Store.{Store}
use Rattle.store.specs.Store.{HoldsAs, IsBroken, database, names_of}
use Rattle.replica.specs.declared.session.end.Ended.{Ended}
use Rattle.replica.specs.Noted.{Account, HasGrown, IsLedOver, IsLedSinceOpening}

module _ {S : Type 0} (g : Ghosts S) where
  -- The store follows the same tables, one that had failed stays as it is, and if the disk is clean afterwards, it was so before.
  pub record KeepsStore (before after : Store S g) : Type 0 where
    pub following : names_of g after ≡ names_of g before
    pub broken : IsBroken g before → after ≡ before
    pub clean : HasCleanDisk (database g after) → HasCleanDisk (database g before)

  -- The same of a call that applies transactions and reports them to an observer.
  pub record KeepsObserved (before after : Store S g) (was is : Account) (ends : List Ended) : Type 0 where
    pub store : KeepsStore before after
    -- The observer does not take back that it has stopped, and if it had stopped before, the store stays as it is.
    pub stays : was.has_stopped ≡ true → is.has_stopped ≡ true
    pub heeds : (broken : Bool) (content : Content) → HoldsAs g broken content before → was.has_stopped ≡ true → after ≡ before
    pub grows : HasGrown was is
    -- What was reported to it leads from the content before to the one afterwards, and these are the ends of connections in it.
    pub notes : HasCleanDisk (database g after) → (broken : Bool) (content : Content) → HoldsAs g broken content before → IsLedOver g before after broken content was is ends

  -- The same of one that first reports the store as opened.
  pub record KeepsSinceOpening (before after : Store S g) (was is : Account) (ends : List Ended) : Type 0 where
    pub store : KeepsStore before after
    pub stays : was.has_stopped ≡ true → is.has_stopped ≡ true
    pub heeds : (broken : Bool) (content : Content) → HoldsAs g broken content before → was.has_stopped ≡ true → after ≡ before
    pub notes : HasCleanDisk (database g after) → (broken : Bool) (content : Content) → HoldsAs g broken content before → IsLedSinceOpening g before after broken content was is ends
