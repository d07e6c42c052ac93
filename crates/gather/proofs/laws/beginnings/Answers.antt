use Rattle.gather.proofs.ShorterLists as lemma
use Rattle.gather.proofs.laws.beginnings.Goals as goal

pub returns : goal.returns
returns c = lemma.beginning
