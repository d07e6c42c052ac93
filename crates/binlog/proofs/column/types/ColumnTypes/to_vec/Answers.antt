use Rattle.binlog.proofs.Names.{◌++◌, ap, ◌∙◌, kinds}
use Rattle.binlog.proofs.WholeColumns.{one_more, no_more}
use Rattle.binlog.proofs.column.types.ColumnTypes.to_vec.Goals as goal

pub loop-column-init : goal.loop-column-init
loop-column-init c = ap (λ l. kinds l ++ c.into_iter-column-iterator.result) c.in_ok-types.ensures.items ∙ c.into_iter-column-iterator.ensures.into_iter_gives ∙ c.iter-column-items.ensures

pub loop-column-preserved : goal.loop-column-preserved
loop-column-preserved c = ap (λ l. kinds l ++ c.next.new.self) c.in_ok-push.ensures.items
    ∙ one_more c.loop-column.types.items c.in-Some.column c.loop-column.column-iterator c.next.new.self c.args.self.now c.loop-column.invariant c.in-Some.ensures.steps

pub returns-clause-ok : goal.returns-clause-ok
returns-clause-ok c = no_more c.loop-column.types.items c.loop-column.column-iterator c.args.self.now c.loop-column.invariant c.in-None.ensures.steps.0
