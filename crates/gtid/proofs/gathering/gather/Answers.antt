use Rattle.std.proofs.Common.{rules}
use Rattle.gtid.proofs.SpanGroups.{rise_from_sort, lawful_sorted, listed_sorted}
use Rattle.gtid.proofs.gathering.gather.Goals as goal

pub gather_rising-requires-clause-lawful : goal.gather_rising-requires-clause-lawful
gather_rising-requires-clause-lawful c = rw c.deref.ensures.value (lawful_sorted c.args.spans.items _ c.sort_unstable_by.ensures.permutation c.requires)

pub gather_rising-requires-clause-rise : goal.gather_rising-requires-clause-rise
gather_rising-requires-clause-rise c = rw c.deref.ensures.value (rise_from_sort _ c.sort_unstable_by.ensures.sorted (λ a r f k. search rules))

pub returns-clause-ok : goal.returns-clause-ok
returns-clause-ok c = listed_sorted c.args.spans.items _ c.gather_rising.result c.sort_unstable_by.ensures.permutation (rw c.deref.ensures.value at c.gather_rising.ensures.ok)
