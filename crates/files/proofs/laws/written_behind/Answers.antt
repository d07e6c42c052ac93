use Rattle.files.proofs.Writers.{behind}
use Rattle.files.proofs.laws.written_behind.Goals as goal

pub returns : goal.returns
returns c page_size k old new db committed shares = behind page_size k old new db committed shares
