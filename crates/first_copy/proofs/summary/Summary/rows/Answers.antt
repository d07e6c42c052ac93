use Rattle.first_copy.proofs.Names.{ap, ◌∙◌, prepend_known}
use Rattle.first_copy.proofs.summary.Summary.rows.Goals as goal

pub returns-in-Ok-clause-text : goal.returns-in-Ok-clause-text
returns-in-Ok-clause-text g c = record {
  ids = c.in_ok-read_head.field-0;
  rest = g.R.Read.remaining c.read_head.new.reader;
  took = c.in_ok-read_head.ensures;
  left_is = ap (λ loader. prepend_known loader.line.items (g.R.Read.remaining loader.reader)) c.new-in-Ok.ensures.loader ∙ c.in_ok-loader.ensures.text;
}
