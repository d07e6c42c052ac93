use Rattle.std.proofs.Common.{◌∙◌, sym}
use Rattle.replica.proofs.Copies.{all_of_copies, not_of_copies}
use Rattle.replica.proofs.change.loading.are_of_copies.Goals as goal

pub returns-clause-all : goal.returns-clause-all
returns-clause-all c all = all_of_copies c.args.gtids.now c.spans.result c.spans.ensures (sym c.are_spans_of_copies.ensures ∙ all)

pub returns-clause-some : goal.returns-clause-some
returns-clause-some c some = not_of_copies c.args.gtids.now c.spans.result c.spans.ensures (sym c.are_spans_of_copies.ensures ∙ some)
