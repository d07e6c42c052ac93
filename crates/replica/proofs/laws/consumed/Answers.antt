use Rattle.replica.proofs.FeedLosses.{consumed, file_grows, again}
use Rattle.replica.proofs.laws.consumed.Goals as goal

pub returns-clause-once : goal.returns-clause-once
returns-clause-once c names first last runs fed = consumed names first last runs fed

pub returns-clause-grows : goal.returns-clause-grows
returns-clause-grows c r part more = file_grows r part more

pub returns-clause-again : goal.returns-clause-again
returns-clause-again c r ids = again r ids
