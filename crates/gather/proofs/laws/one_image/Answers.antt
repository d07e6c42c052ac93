use Rattle.gather.proofs.WholeImages as lemma
use Rattle.gather.proofs.laws.one_image.Goals as goal

pub returns-clause-one : goal.returns-clause-one
returns-clause-one c = lemma.one_list

pub returns-clause-equal : goal.returns-clause-equal
returns-clause-equal c = lemma.one_bytes
