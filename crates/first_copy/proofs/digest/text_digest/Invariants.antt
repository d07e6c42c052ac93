use Rattle.std.proofs.Common.{◌<◌, length}
use Rattle.first_copy.proofs.TextDigests.{HasHashed}
use Rattle.first_copy.proofs.digest.text_digest.Given as goal

abbrev pub invariant-loop : goal.invariant-loop
invariant-loop g l = record {
  some : 0 < length l.piece;
  hashed : HasHashed (g.R.Read.remaining l.fn.reader) (g.R.Read.remaining l.reader) l.hasher;
}
