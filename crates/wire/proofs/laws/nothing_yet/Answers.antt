use Rattle.wire.proofs.OneReading as lemma
use Rattle.wire.proofs.laws.nothing_yet.Goals as goal

pub returns : goal.returns
returns c = lemma.nothing_yet
