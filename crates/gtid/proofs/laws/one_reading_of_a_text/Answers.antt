use Rattle.gtid.proofs.OneReading as lemma
use Rattle.gtid.proofs.SomeReading.{some_reading}
use Rattle.gtid.proofs.laws.one_reading_of_a_text.Goals as goal

pub returns : goal.returns
returns c = record { some = some_reading; one_set = lemma.one_set; no_fault = lemma.no_fault; one_fault = lemma.one_fault }
