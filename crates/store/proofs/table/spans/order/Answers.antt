use Rattle.store.proofs.Names.{◌∙◌, sym, true≢false}
use Rattle.gtid.proofs.SpanGroups.{order_same, order_other}
use Rattle.store.proofs.table.spans.order.Goals as goal

pub returns-then-eq : goal.returns-then-eq
returns-then-eq c = c.cmp.ensures ∙ order_same c.args.a.now c.args.b.now (sym c.eq.ensures ∙ c.if-eq.true)

pub returns : goal.returns
returns c = c.cmp-2.ensures ∙ order_other c.args.a.now c.args.b.now (λ same. true≢false (sym same ∙ sym c.eq.ensures ∙ c.if-eq.false))
