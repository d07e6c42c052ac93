use Rattle.std.proofs.Common.{◌≡◌, ◌++◌, replicate}
use Rattle.gather.specs.Transaction.{delete}
use Rattle.replica.proofs.change.clearing.delete_copies.Given as goal

abbrev pub invariant-loop-copy : goal.invariant-loop-copy
invariant-loop-copy l = l.changes ≡ l.fn.changes ++ replicate l._copy (delete l.table.value.schema.items l.table.value.table.items l.row)
