use Rattle.first_copy.proofs.Names.{◌≡◌, false, prepend_known}
use Rattle.first_copy.proofs.TextDigests.{HasTaken}
use Rattle.first_copy.proofs.summary.Tallied.take.Given as goal

abbrev pub invariant-loop : goal.invariant-loop
invariant-loop g l = record {
  going : l.fn.loader.ended ≡ false → l.loader.ended ≡ false;
  taken : l.fn.loader.ended ≡ false
      → HasTaken (prepend_known l.fn.loader.line.items (g.R.Read.remaining l.fn.loader.reader)) (prepend_known l.loader.line.items (g.R.Read.remaining l.loader.reader)) l.fn.loader.hasher l.loader.hasher;
}
