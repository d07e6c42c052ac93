use Rattle.std.proofs.Common.{arith}
use Rattle.columns.proofs.Bytes.{little_all}
use Rattle.columns.proofs.value.float.read_eight.Goals as goal

pub returns-clause-bytes : goal.returns-clause-bytes
returns-clause-bytes c = rw c.read_u64.ensures (little_all 8 c.args.bytes.now c.requires (λ i. omega (arith, c.type_inv.bytes i)))
