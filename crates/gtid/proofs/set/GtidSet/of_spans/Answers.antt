use Rattle.std.proofs.Common.{◌∙◌}
use Rattle.gtid.proofs.Sets.{contains_listed}
use Rattle.gtid.proofs.set.GtidSet.of_spans.Goals as goal

pub returns-clause-ok : goal.returns-clause-ok
returns-clause-ok c = λ q. contains_listed c.in_ok-merged.merged.items q ∙ c.in_ok-merged.ensures.ok q
