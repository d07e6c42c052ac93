use Rattle.std.proofs.Common.{length, refl, ◌∙◌, arith}
use Rattle.byteorder.specs.Numbers.{big_from-lt}
use Rattle.columns.proofs.Bytes.{big_all, big_back}
use Rattle.columns.proofs.value.bytes.read_big.Goals as goal

pub returns-clause-bytes : goal.returns-clause-bytes
returns-clause-bytes c =
    rw c.read_uint.ensures (big_all (length c.args.bytes.now) c.args.bytes.now refl (λ i. omega (arith, c.type_inv.bytes i)))

pub returns-clause-small : goal.returns-clause-small
returns-clause-small c =
    rw c.read_uint.ensures (big_from-lt 0 (length c.args.bytes.now) c.args.bytes.now (λ i. omega (arith, c.type_inv.bytes i)))

pub returns-clause-only : goal.returns-clause-only
returns-clause-only c n small is = c.read_uint.ensures ∙ big_back (length c.args.bytes.now) n c.args.bytes.now small is
