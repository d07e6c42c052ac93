use Rattle.std.proofs.Common.{rules}
use Rattle.gtid.proofs.SpanGroups.{rise_from_sort}
use Rattle.store.proofs.table.spans.in_order.Goals as goal

pub returns-clause-rise : goal.returns-clause-rise
returns-clause-rise c = rise_from_sort _ c.sort_unstable_by.ensures.sorted (λ a r f k. search rules)
