use Rattle.std.proofs.Common.{arith}
use Rattle.gtid.proofs.GroupText.{all_bytes}
use Rattle.store.proofs.table.row.are_bytes.Goals as goal

pub returns : goal.returns
returns c = all_bytes c.args.bytes.now (λ i. omega (arith, c.type_inv.bytes i))
