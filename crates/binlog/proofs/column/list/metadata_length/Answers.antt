use Rattle.std.proofs.Common.{length, ap, ◌∙◌, arith}
use Rattle.std.specs.Prelude.{flat_map, unwrap_or}
use Rattle.binlog.specs.Column.{metadata, metadata_size}
use Rattle.binlog.proofs.ColumnBytes.{next_sum}
use Rattle.binlog.proofs.TableMapBytes.{all_metadata_short}
use Rattle.binlog.proofs.column.list.metadata_length.Goals as goal

pub loop-column-init : goal.loop-column-init
loop-column-init c = omega (arith, ap (λ l. length (flat_map metadata l)) (c.into_iter-column-iterator.ensures.into_iter_gives ∙ c.iter-column-items.ensures))

pub overflow_add-sum : goal.overflow_add-sum
overflow_add-sum c =
    let size = c.unwrap_or-sum.ensures ∙ ap (λ o. unwrap_or o 0) c.metadata_size.ensures ∙ ap (λ code. unwrap_or (metadata_size code) 0) c.code.ensures in
    let next = next_sum c.in-Some.column.kind c.loop-column.column-iterator c.next.new.self c.loop-column.sum c.unwrap_or-sum.result (length (flat_map metadata c.args.columns.now)) c.loop-column.invariant c.in-Some.ensures.steps size in
    omega (arith, next, all_metadata_short c.args.columns.now, c.requires)

pub loop-column-preserved : goal.loop-column-preserved
loop-column-preserved c =
    let size = c.unwrap_or-sum.ensures ∙ ap (λ o. unwrap_or o 0) c.metadata_size.ensures ∙ ap (λ code. unwrap_or (metadata_size code) 0) c.code.ensures in
    next_sum c.in-Some.column.kind c.loop-column.column-iterator c.next.new.self c.loop-column.sum c.unwrap_or-sum.result (length (flat_map metadata c.args.columns.now)) c.loop-column.invariant c.in-Some.ensures.steps size

pub returns : goal.returns
returns c = omega (arith, c.loop-column.invariant, ap (λ l. length (flat_map metadata l)) c.in-None.ensures.steps.0)
