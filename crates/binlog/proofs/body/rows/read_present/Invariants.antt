use Rattle.binlog.proofs.Names.{◌≡◌, ℕ, ◌<◌, true, is_set}
use Rattle.binlog.proofs.body.rows.read_present.Given as goal

abbrev pub invariant-loop-i : goal.invariant-loop-i
invariant-loop-i l = (k : ℕ) → k < l.i → is_set l.bitmap k ≡ true
