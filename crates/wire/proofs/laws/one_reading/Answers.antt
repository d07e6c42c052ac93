use Rattle.wire.proofs.OneReading as lemma
use Rattle.wire.proofs.SomeReading.{some_reading}
use Rattle.wire.proofs.laws.one_reading.Goals as goal

pub returns-clause-some : goal.returns-clause-some
returns-clause-some c = some_reading

pub returns-clause-one : goal.returns-clause-one
returns-clause-one c = lemma.one_reading
