use Rattle.std.proofs.Common.{sym, ◌∙◌}
use Rattle.gtid.proofs.SpanGroups.{lawful_sorted}
use Rattle.store.proofs.Done.{on_ok}
use Rattle.store.proofs.SpanRows.{set_damaged, set_apart, set_covers}
use Rattle.store.proofs.table.spans.set_of.Goals as goal

pub returns-then-not-are_apart-clause-judged : goal.returns-then-not-are_apart-clause-judged
returns-then-not-are_apart-clause-judged c =
    let e = c.in_order-spans.ensures in
    (tt, set_damaged c.args.spans.items _ e.same e.rise (lawful_sorted c.args.spans.items _ e.same c.requires) (sym (rw c.deref.ensures.value at c.are_apart.ensures) ∙ c.if-not-are_apart.true))

pub union_of-requires : goal.union_of-requires
union_of-requires c = lawful_sorted c.args.spans.items _ c.in_order-spans.ensures.same c.requires

pub returns-clause-judged : goal.returns-clause-judged
returns-clause-judged c = set_covers c.args.spans.items _ _ c.union_of.result c.in_order-spans.ensures.same c.union_of.ensures.ok c.union_of.ensures.err

pub returns-clause-apart : goal.returns-clause-apart
returns-clause-apart c =
    let e = c.in_order-spans.ensures in
    on_ok c.union_of.result (set_apart c.args.spans.items _ e.same e.rise (lawful_sorted c.args.spans.items _ e.same c.requires) (sym (rw c.deref.ensures.value at c.are_apart.ensures) ∙ c.if-not-are_apart.false))
