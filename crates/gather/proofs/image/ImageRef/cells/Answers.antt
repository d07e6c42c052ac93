use Rattle.gather.proofs.Names.{ap, ◌∙◌, take_rest, cells_in}
use Rattle.gather.proofs.ImagePacking.{own_image}
use Rattle.gather.proofs.image.ImageRef.cells.Goals as goal

pub returns : goal.returns
returns c = ap cells_in (take_rest c.bytes.result.now 2) ∙ (own_image c.args.self.now c.bytes.result.now c.bytes.ensures).cells_are
