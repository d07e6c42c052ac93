use Rattle.replica.proofs.Names.{◌≡◌, ◌+◌, ◌≤◌, length, None, [], MayEnd, end_of, room_of, KeepsObserved}
use Rattle.replica.proofs.BytesSoFar.{Fed}
use Rattle.replica.proofs.session.Session.feed_observed.Given as goal

abbrev pub invariant-loop-used : goal.invariant-loop-used
invariant-loop-used g l = record {
  fed : Fed g.S.Store l.fn.self l.fn.store l.self l.store l.bytes l.rest;
  keeps : KeepsObserved g.S.Store l.fn.store l.store (g.W.Observer.account l.fn.observer) (g.W.Observer.account l.observer) [];
  config : l.self.config ≡ l.fn.self.config;
  may_end : MayEnd (end_of l.fn.self).reason (g.W.Observer.account l.fn.observer) → MayEnd (end_of l.self).reason (g.W.Observer.account l.observer);
  room : l.self.ended ≡ None → room_of l.self + length l.bytes ≤ room_of l.fn.self + length l.rest;
}

abbrev pub decreases-loop-used : goal.decreases-loop-used
decreases-loop-used g l = length l.rest
