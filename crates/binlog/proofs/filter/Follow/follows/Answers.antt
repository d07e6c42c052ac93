use Rattle.binlog.proofs.Names.{◌≡◌, ◌∙◌, length, sym, ap, length-map, name_cmp, admits, name_list}
use Rattle.std.specs.FinSet as set
use Rattle.binlog.proofs.TableSets.{follow_by}
use Rattle.binlog.proofs.filter.Follow.follows.Goals as goal

pub returns-then-is_empty : goal.returns-then-is_empty
returns-then-is_empty c =
    let names = c.as_slice-names.result.now in
    let view : set.from_list {R = name_cmp} (name_list names) ≡ c.args.self.now = ap (λ l. set.from_list (name_list l)) c.as_slice-names.ensures.value ∙ c.self.view_is in
    let by = follow_by (length names) (name_list names) c.args.schema.now c.args.table.now c.is_empty.result c.is_empty.ensures (sym (length-map names _)) in
    c.if-is_empty.true ∙ sym (by.0 c.if-is_empty.true) ∙ ap (λ n. admits n c.args.schema.now c.args.table.now) view

pub returns-else-is_empty : goal.returns-else-is_empty
returns-else-is_empty c =
    let names = c.as_slice-names.result.now in
    let view : set.from_list {R = name_cmp} (name_list names) ≡ c.args.self.now = ap (λ l. set.from_list (name_list l)) c.as_slice-names.ensures.value ∙ c.self.view_is in
    let by = follow_by (length names) (name_list names) c.args.schema.now c.args.table.now c.is_empty.result c.is_empty.ensures (sym (length-map names _)) in
    c.is_listed.ensures ∙ sym (by.1 c.if-is_empty.false) ∙ ap (λ n. admits n c.args.schema.now c.args.table.now) view
