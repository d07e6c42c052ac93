use Rattle.store.specs.Changes.{adopted}
use Rattle.replica.proofs.CopyLoads.{loaded_rows, loaded_again, followed_after}
use Rattle.replica.proofs.laws.copied.Goals as goal

pub returns-clause-loaded : goal.returns-clause-loaded
returns-clause-loaded c names source number old new ids ds rows n none few numbered are t = loaded_rows names source number (adopted old ids) ds rows n new none few numbered are t

pub returns-clause-again : goal.returns-clause-again
returns-clause-again c names old mid new ids some others n m first second = loaded_again names old mid new ids some others n m first second

pub returns-clause-followed : goal.returns-clause-followed
returns-clause-followed c names old new copies ds n out t = followed_after names copies old ds n new out t
