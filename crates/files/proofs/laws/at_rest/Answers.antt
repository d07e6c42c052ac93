use Rattle.files.proofs.Writers.{rest, of_rest}
use Rattle.files.proofs.laws.at_rest.Goals as goal

pub returns-clause-written : goal.returns-clause-written
returns-clause-written c page_size k image first last replays present = rest page_size k image replays first last present

pub returns-clause-taken : goal.returns-clause-taken
returns-clause-taken c page_size k image times replays = of_rest page_size k image replays times
