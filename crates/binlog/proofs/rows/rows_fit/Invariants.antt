use Rattle.binlog.proofs.Names.{◌≡◌, kinds, owned_pairs, pairs_fit}
use Rattle.std.proofs.Common.{drop}
use Rattle.binlog.proofs.rows.rows_fit.Given as goal

abbrev pub invariant-loop-i : goal.invariant-loop-i
invariant-loop-i l = pairs_fit l.kind (kinds l.types) (owned_pairs l.pairs) ≡ pairs_fit l.kind (kinds l.types) (drop l.i (owned_pairs l.pairs))
