use Rattle.binlog.proofs.RowWriting.{as_many}
use Rattle.binlog.proofs.row.write_row.Goals as goal

pub write_values-requires-clause-as_many : goal.write_values-requires-clause-as_many
write_values-requires-clause-as_many c = as_many c.args.types.now c.args.cells.now c.requires.fit
