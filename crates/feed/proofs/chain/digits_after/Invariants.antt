use Rattle.std.proofs.Common.{◌<◌, length}
use Rattle.feed.proofs.Hashed.{HasHashed}
use Rattle.feed.proofs.chain.digits_after.Given as goal

abbrev pub invariant-loop : goal.invariant-loop
invariant-loop g l = record {
  some : 0 < length l.piece;
  hashed : HasHashed l.fn.digits (g.R.Read.remaining l.fn.reader) (g.R.Read.remaining l.reader) l.hasher;
}
