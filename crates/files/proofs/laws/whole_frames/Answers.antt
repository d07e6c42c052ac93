use Rattle.files.proofs.Copies.{of_one_moment}
use Rattle.files.proofs.laws.whole_frames.Goals as goal

pub returns : goal.returns
returns c page_size files frames times copy written copied once whole =
    of_one_moment page_size files frames times written copy copied once whole
