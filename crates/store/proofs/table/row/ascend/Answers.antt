use Rattle.std.proofs.Common.{None, arith}
use Rattle.store.proofs.RowChecks.{rise_end, rise_rowids}
use Rattle.store.proofs.table.row.ascend.Goals as goal

pub returns : goal.returns
returns c = λ _. rise_rowids None c.args.rows.now (c.loop-row.invariant (rise_end c.loop-row.last c.args.rows.now c.loop-row.row-index (omega (arith, c.loop-row-test.false))))
