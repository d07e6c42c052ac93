use Rattle.scripted_source.proofs.OneAnswer as lemma
use Rattle.scripted_source.proofs.laws.one_answer.Goals as goal

pub returns : goal.returns
returns c = record {
  one = λ history request a b. lemma.one c.dumps.ensures.one request history a b;
  not_both = λ history request bytes fault. lemma.not_both c.dumps.ensures.one request history bytes fault;
  one_fault = λ history request a b. lemma.one_fault c.dumps.ensures.one request history a b;
}
