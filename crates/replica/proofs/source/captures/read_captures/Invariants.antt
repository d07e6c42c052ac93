use Rattle.replica.proofs.Names.{◌≡◌, ◌≢◌, ◌<◌, ◌≤◌, Bool, false, [], length, take, All, HasCleanDisk, Content, HoldsAs, HasReadAll, AreRead, MayEnd, KeepsSinceOpening}
use Rattle.std.proofs.Common.{vec_capacity}
use Rattle.sqlite.specs.Held.{state}
use Rattle.replica.proofs.Keeps.{MissesSince}
use Rattle.replica.proofs.source.captures.read_captures.Given as goal

abbrev pub invariant-loop-capture : goal.invariant-loop-capture
invariant-loop-capture g l = record {
  piece : 0 < length l.piece;
  may : All (λ end. MayEnd end.reason (g.W.Observer.account l.observer)) l.ends.items;
  heeds : l.ends.items ≢ [] → (g.W.Observer.account l.observer).has_stopped ≡ false;
  count : length l.ends.items ≡ length l.yielded;
  room : length l.fn.captures.items ≤ vec_capacity l.ends;
  keeps : KeepsSinceOpening g.S.Store l.fn.store l.store (g.W.Observer.account l.fn.observer) (g.W.Observer.account l.observer) l.ends.items;
  missed : MissesSince g.S.Store l.fn.store l.store (g.W.Observer.account l.fn.observer) (g.W.Observer.account l.observer);
  taken : HasCleanDisk (state g.S.Store l.store.conn) → (was : Bool) (old : Content) → HoldsAs g.S.Store was old l.fn.store
      → AreRead g.R.Read.remaining (HasReadAll g.S.Store l.config.limit l.store (state g.S.Store l.fn.store.conn).now.schema was old) (take (length l.yielded) l.fn.captures.items) l.ends.items;
}
