use Rattle.columns.proofs.Names.{◌≡◌, ℕ, ◌<◌, true, get_or, is_inner}
use Rattle.columns.proofs.fields.split_field.Given as goal

abbrev pub invariant-loop-i : goal.invariant-loop-i
invariant-loop-i l = (k : ℕ) → k < l.i → is_inner (get_or l.text k 0) ≡ true
