use Rattle.std.proofs.Common.{sym, arith}
use Rattle.gather.proofs.WholeImages.{is_read, is_there}
use Rattle.gather.proofs.image.ImageRef.read.Goals as goal

pub returns-then-not-is_image : goal.returns-then-not-is_image
returns-then-not-is_image c cells is = let yes = is_read cells c.args.bytes.now is in let no = c.if-not-is_image.ensures in absurd cc

pub invariant_of-result : goal.invariant_of-result
invariant_of-result c = is_there c.args.bytes.now (λ i. omega (arith, c.type_inv.bytes i)) (sym c.if-not-is_image.ensures)

pub returns : goal.returns
returns c = is_there c.args.bytes.now (λ i. omega (arith, c.type_inv.bytes i)) (sym c.if-not-is_image.ensures)
