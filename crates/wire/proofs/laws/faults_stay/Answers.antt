use Rattle.wire.proofs.OneReading as lemma
use Rattle.wire.proofs.laws.faults_stay.Goals as goal

pub returns-clause-sequence : goal.returns-clause-sequence
returns-clause-sequence c due limit want got bytes more = lemma.more_wrong more

pub returns-clause-too_large : goal.returns-clause-too_large
returns-clause-too_large c due limit bytes more = lemma.more_large more
