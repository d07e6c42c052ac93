use Rattle.replica.proofs.Names.{◌<◌, length, [], MayEnd, end_of, KeepsObserved}
use Rattle.replica.specs.Over.{taken_from}
use Rattle.replica.proofs.FromReader.{IsTaking, turns_left}
use Rattle.replica.proofs.source.reader.read_stream.Given as goal

abbrev pub invariant-loop-reader : goal.invariant-loop-reader
invariant-loop-reader g l = record {
  some : 0 < length l.piece;
  may : MayEnd (end_of l.session).reason (g.W.Observer.account l.observer);
  keeps : KeepsObserved g.S.Store l.fn.store l.store (g.W.Observer.account l.fn.observer) (g.W.Observer.account l.observer) [];
  taking : IsTaking g.S.Store l.fn.config.limit (taken_from g.R.Read.remaining l.fn.first (length l.fn.piece) l.fn.reader l.reader) l.fn.store l.session l.store;
}

abbrev pub decreases-loop-reader : goal.decreases-loop-reader
decreases-loop-reader g l = turns_left l.session
