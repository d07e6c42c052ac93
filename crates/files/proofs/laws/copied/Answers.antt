use Rattle.files.proofs.Copies.{stood_for}
use Rattle.files.proofs.laws.copied.Goals as goal

pub returns : goal.returns
returns c page_size files frames times copy written copied takes pages recovers =
    stood_for page_size files frames times written copy copied takes pages recovers
