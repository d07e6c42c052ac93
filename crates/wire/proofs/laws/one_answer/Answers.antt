use Rattle.wire.proofs.OneReading as lemma
use Rattle.wire.proofs.laws.one_answer.Goals as goal

pub returns-clause-one_wrong_id : goal.returns-clause-one_wrong_id
returns-clause-one_wrong_id c due limit want got want' got' bytes = lemma.one_wrong_id

pub returns-clause-one_fault : goal.returns-clause-one_fault
returns-clause-one_fault c due limit want got bytes = lemma.wrong_or_large

pub returns-clause-in_sequence : goal.returns-clause-in_sequence
returns-clause-in_sequence c due limit want got next bytes more payload whole wrong = lemma.wrong_or_whole more wrong whole

pub returns-clause-not_too_large : goal.returns-clause-not_too_large
returns-clause-not_too_large c due limit next bytes more payload whole large = lemma.large_or_whole more large whole
