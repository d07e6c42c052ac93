use Rattle.std.proofs.Common.{◌∙◌, sym}
use Rattle.gtid.proofs.SpanGroups.{taken_first}
use Rattle.gtid.proofs.gathering.first_of.Goals as goal

pub returns-in-len1-up-clause-some : goal.returns-in-len1-up-clause-some
returns-in-len1-up-clause-some c = taken_first c.args.source.now c.args.spans.now _ c.in-len1-up.len_at_least (sym c.eq.ensures ∙ c.if-eq.true)
