use Rattle.replica.proofs.Names.{◌≤◌, [], HasCleanDisk, Content, database, KeepsObserved}
use Rattle.store.specs.Store.{Holds}
use Rattle.replica.specs.Changing.{HasTakenSome}
use Rattle.replica.proofs.change.changing.apply_all.Given as goal

abbrev pub invariant-loop-taken : goal.invariant-loop-taken
invariant-loop-taken g l = record {
  fewer : l.applied ≤ l.taken;
  keeps : KeepsObserved g.S.Store l.fn.store l.store (g.W.Observer.account l.fn.observer) (g.W.Observer.account l.observer) [];
  takes : HasCleanDisk (database g.S.Store l.store) → (old : Content) → Holds g.S.Store l.fn.store old
      → HasTakenSome g.S.Store l.fn.store.following l.store old (g.I.Deliveries.supply l.fn.deliveries) (g.I.Deliveries.supply l.deliveries) l.taken l.applied;
}
