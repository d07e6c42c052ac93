use Rattle.wire.proofs.OneSpelling as lemma
use Rattle.wire.proofs.laws.shortest_spelling.Goals as goal

pub returns-clause-spells : goal.returns-clause-spells
returns-clause-spells c = lemma.spells

pub returns-clause-shortest : goal.returns-clause-shortest
returns-clause-shortest c = lemma.shortest
