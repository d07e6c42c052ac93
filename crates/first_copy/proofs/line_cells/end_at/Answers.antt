use Rattle.std.proofs.Common.{◌+◌}
use Rattle.first_copy.proofs.LineReading.{tab_before}
use Rattle.first_copy.proofs.line_cells.end_at.Goals as goal

pub returns-then-place-columns : goal.returns-then-place-columns
returns-then-place-columns c = tab_before c.args.columns.now (c.args.place + 1) c.if-place-columns.true
