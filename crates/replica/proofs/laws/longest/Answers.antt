use Rattle.replica.proofs.OneEnd as lemma
use Rattle.replica.proofs.laws.longest.Goals as goal

pub returns : goal.returns
returns c limit names b r at bytes e q = lemma.longest limit names b bytes r at e q
