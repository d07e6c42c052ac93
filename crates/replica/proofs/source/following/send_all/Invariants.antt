use Rattle.replica.proofs.Names.{◌≡◌, ◌≤◌, ◌-◌, length, take, Appends, Keeps, HaveFailed}
use Rattle.replica.proofs.source.following.send_all.Given as goal

abbrev pub invariant-loop-at : goal.invariant-loop-at
invariant-loop-at g l = record {
  within : l.at ≤ length l.bytes;
  sent : Appends (g.T.Write.contents l.fn.stream.stream) (g.T.Write.contents l.stream.stream) (take l.at l.bytes);
  apart : Keeps (g.T.Read.remaining l.fn.stream.stream) (g.T.Read.remaining l.stream.stream);
  writes : l.stream.failed_writes ≡ l.fn.stream.failed_writes;
  reads : l.stream.failed_reads ≡ l.fn.stream.failed_reads;
  reported : HaveFailed (g.T.Duplex.failures l.fn.stream.stream) (g.T.Duplex.failures l.stream.stream) 0 0;
}

abbrev pub decreases-loop-at : goal.decreases-loop-at
decreases-loop-at g l = length l.bytes - l.at
