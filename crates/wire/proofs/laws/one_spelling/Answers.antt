use Rattle.wire.proofs.OneSpelling as lemma
use Rattle.wire.proofs.laws.one_spelling.Goals as goal

pub returns : goal.returns
returns c = lemma.one_spelling
