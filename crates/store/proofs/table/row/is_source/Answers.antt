use Rattle.std.proofs.Common.{arith}
use Rattle.store.proofs.table.row.is_source.Goals as goal

pub returns : goal.returns
returns c = (omega arith, c.are_bytes.ensures)
