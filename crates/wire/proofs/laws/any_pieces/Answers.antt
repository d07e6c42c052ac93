use Rattle.wire.proofs.OneReading as lemma
use Rattle.wire.proofs.laws.any_pieces.Goals as goal

pub returns-clause-reads : goal.returns-clause-reads
returns-clause-reads c due limit pieces payloads ending run = lemma.reads run (lemma.nothing_yet due limit)

pub returns-clause-same : goal.returns-clause-same
returns-clause-same c = lemma.any_pieces
