use Rattle.gtid.proofs.PrintedText as lemma
use Rattle.gtid.proofs.laws.text_is_read.Goals as goal

pub returns : goal.returns
returns c = lemma.text_is_read
