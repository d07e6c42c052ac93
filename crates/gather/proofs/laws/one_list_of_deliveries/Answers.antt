use Rattle.gather.proofs.OneList as lemma
use Rattle.gather.proofs.laws.one_list_of_deliveries.Goals as goal

pub returns : goal.returns
returns c = lemma.one_list_of_deliveries
