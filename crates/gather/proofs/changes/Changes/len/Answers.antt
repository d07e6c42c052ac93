use Rattle.std.proofs.Common.{length, ap, arith}
use Rattle.gather.proofs.ImagePacking.{count_is}
use Rattle.gather.proofs.changes.Changes.len.Goals as goal

pub returns : goal.returns
returns c = omega (arith, c.len.ensures, count_is c.self.inside.entries.items c.self.inside.images.items, ap length c.self.view_is)
