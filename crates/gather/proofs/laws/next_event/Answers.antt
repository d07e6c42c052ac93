use Rattle.gather.proofs.NextEvents as lemma
use Rattle.gather.proofs.laws.next_event.Goals as goal

pub returns-clause-some : goal.returns-clause-some
returns-clause-some c = lemma.some

pub returns-clause-not_both : goal.returns-clause-not_both
returns-clause-not_both c = lemma.not_both

pub returns-clause-one : goal.returns-clause-one
returns-clause-one c = lemma.one
