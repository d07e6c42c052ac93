use Rattle.replica.proofs.OneEnd as lemma
use Rattle.replica.proofs.laws.one_end.Goals as goal

pub returns-clause-reported : goal.returns-clause-reported
returns-clause-reported c limit names b r s at other bytes = lemma.one_reason limit names b bytes r s at other

pub returns-clause-at : goal.returns-clause-at
returns-clause-at c limit names b r s at other bytes = lemma.one_end limit names b bytes r s at other
