use Rattle.std.proofs.Common.{◌≡◌, ◌++◌}
use Rattle.replica.proofs.recorder.copy_changes.Given as goal

abbrev pub invariant-loop-change : goal.invariant-loop-change
invariant-loop-change l = l.copied ++ l.change-iterator ≡ l.changes
