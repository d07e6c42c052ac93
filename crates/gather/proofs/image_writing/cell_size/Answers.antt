use Rattle.gather.proofs.Names.{length, sym, ap, ◌∙◌, cell_value, cell_image}
use Rattle.gather.proofs.ImageParts.{number_size}
use Rattle.gather.proofs.image_writing.cell_size.Goals as goal

pub returns-in-Number-clause-size : goal.returns-in-Number-clause-size
returns-in-Number-clause-size c = number_size c.in-Number.value c.in-Number.width ∙ ap (λ cell. length (cell_image (cell_value cell))) (sym c.in-Number.is)
