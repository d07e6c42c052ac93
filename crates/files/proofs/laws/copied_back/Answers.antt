use Rattle.files.proofs.Writers.{back}
use Rattle.files.proofs.laws.copied_back.Goals as goal

pub returns : goal.returns
returns c it log first old new lists was is = back it log first old new lists was is
