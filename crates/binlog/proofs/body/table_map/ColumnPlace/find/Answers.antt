use Rattle.std.proofs.Common.{arith, Option, Some, None, IfNone, ap, ◌∙◌}
use Rattle.binlog.specs.Count.{count_at, count_width}
use Rattle.binlog.proofs.body.table_map.ColumnPlace.find.Goals as goal

if_none_weaker : {A P Q : Type 0} (o : Option A) → (P → Q) → IfNone o P → IfNone o Q
if_none_weaker None f p = f p
if_none_weaker (Some _) f p = p

pub returns-clause-other : goal.returns-clause-other
returns-clause-other c =
    let event = c.args.event.now in
    let start = c.in-Ok.ensures.place in
    let columns = c.in-Ok-read_count.ensures.value.0 ∙ ap (count_at event) start in
    let width = c.in-Ok-read_count.ensures.value.1 ∙ ap (count_width event) start in
    if_none_weaker c.place_among-column.result (λ none column is. none column (omega (arith, is.at_is, width, start)) (omega (arith, is.within, columns))) c.place_among-column.ensures.none
