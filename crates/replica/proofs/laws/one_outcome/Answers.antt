use Rattle.replica.proofs.OneOutcome as lemma
use Rattle.replica.proofs.laws.one_outcome.Goals as goal

pub returns-clause-content : goal.returns-clause-content
returns-clause-content c limit names was is old new other b end last bytes h k d e = lemma.one_content limit names b bytes was is old new other end last h k d e

pub returns-clause-end : goal.returns-clause-end
returns-clause-end c limit names was is old new other b end last bytes h k d e = lemma.one_ended limit names b bytes was is old new other end last h k d e
