use Rattle.replica.proofs.Names.{◌≡◌, Bool, length, [], HasCleanDisk, Content, HoldsAs, database, IsNoStreamFailure, end_of, MayEnd, HaveFailed, KeepsObserved}
use Rattle.replica.specs.Follow.{IsFollowing, exchange, turns_left}
use Rattle.replica.proofs.source.following.follow_observed.Given as goal

abbrev pub invariant-turns : goal.invariant-turns
invariant-turns g l = record {
  config : l.session.config ≡ l.fn.config;
  piece : length l.buffer.items ≡ 65536;
  reads : l.stream.failed_reads ≡ l.fn.stream.failed_reads;
  writes : l.stream.failed_writes ≡ l.fn.stream.failed_writes;
  reported : HaveFailed (g.T.Duplex.failures l.fn.stream.stream) (g.T.Duplex.failures l.stream.stream) 0 0;
  keeps : KeepsObserved g.S.Store l.fn.store l.store (g.W.Observer.account l.fn.observer) (g.W.Observer.account l.observer) [];
  may_end : IsNoStreamFailure (end_of l.session).reason;
  may : MayEnd (end_of l.session).reason (g.W.Observer.account l.observer);
  following : HasCleanDisk (database g.S.Store l.store) → (was : Bool) (old : Content) → HoldsAs g.S.Store was old l.fn.store
      → IsFollowing g.S.Store l.session l.fn.store l.store was old
      (exchange g.T.Read.remaining g.T.Write.contents l.fn.stream.stream l.stream.stream);
}

abbrev pub decreases-turns : goal.decreases-turns
decreases-turns g l = turns_left l.session
