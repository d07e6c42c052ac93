use Rattle.replica.proofs.Names.{◌≡◌, ◌≤◌, Bool, take, length, All, HasCleanDisk, Content, HoldsAs, IsOwn, streams_of, HasReadAll, KeepsStore}
use Rattle.std.proofs.Common.{vec_len, vec_capacity}
use Rattle.sqlite.specs.Held.{state}
use Rattle.replica.proofs.source.connections.run.Given as goal

abbrev pub invariant-loop-pieces : goal.invariant-loop-pieces
invariant-loop-pieces g l = record {
  room : length l.connections ≤ vec_capacity l.ends;
  count : vec_len l.ends ≡ l.pieces-index;
  keeps : KeepsStore g.S.Store l.fn.store l.store;
  taken : HasCleanDisk (state g.S.Store l.store.conn) → (was : Bool) (old : Content) → HoldsAs g.S.Store was old l.fn.store
      → HasReadAll g.S.Store l.config.limit l.store (state g.S.Store l.fn.store.conn).now.schema was old (streams_of (take l.pieces-index l.connections)) l.ends.items;
  may_end : All (λ end. IsOwn end.reason) l.ends.items;
}
