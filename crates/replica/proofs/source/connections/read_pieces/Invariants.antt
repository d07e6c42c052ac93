use Rattle.replica.proofs.Names.{◌≡◌, Bool, take, HasCleanDisk, Content, HoldsAs, IsOwn, end_of, StandsOver, KeepsStore}
use Rattle.sqlite.specs.Held.{state}
use Rattle.replica.specs.Pieces.{stream_of}
use Rattle.replica.specs.Standing.{having_read}
use Rattle.replica.proofs.source.connections.read_pieces.Given as goal

abbrev pub invariant-loop-piece : goal.invariant-loop-piece
invariant-loop-piece g l = record {
  config : l.session.config ≡ l.fn.config;
  keeps : KeepsStore g.S.Store l.fn.store l.store;
  stands : HasCleanDisk (state g.S.Store l.store.conn) → (was : Bool) (old : Content) → HoldsAs g.S.Store was old l.fn.store
      → StandsOver g.S.Store l.session l.store (state g.S.Store l.fn.store.conn).now.schema (having_read was old (stream_of (take l.piece-index l.pieces)));
  may_end : IsOwn (end_of l.session).reason;
}
