use Rattle.std.proofs.Common.{arith}
use Rattle.binlog.proofs.Columns.{known, no_more_0}
use Rattle.binlog.proofs.column.metadata.plain.Goals as goal

pub unreachable-requires : goal.unreachable-requires
unreachable-requires c = no_more_0 c.args.code (known c.args.code 0 c.requires) (omega arith) (omega arith) (omega arith) (omega arith) (omega arith) (omega arith) (omega arith)
