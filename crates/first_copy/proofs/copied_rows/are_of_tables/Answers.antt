use Rattle.first_copy.proofs.Names.{◌≡◌, true, length, sym, ap, subst, ◌∙◌}
use Rattle.std.proofs.Common.{ap₂}
use Rattle.std.proofs.lemmas.List.{length-map}
use Rattle.std.specs.FinSet as set
use Rattle.binlog.specs.Filter.{admits}
use Rattle.binlog.specs.FilterView.{name_list}
use Rattle.binlog.proofs.TableSets.{follow_by, listed}
use Rattle.gather.specs.Transaction.{changed_schema, changed_table}
use Rattle.gather.specs.View.{change_value}
use Rattle.first_copy.specs.Supplied.{AreOfTables}
use Rattle.first_copy.proofs.copied_rows.are_of_tables.Goals as goal

pub loop-change-preserved : goal.loop-change-preserved
loop-change-preserved c rest =
    let names = c.names.result.now in
    let change = change_value c.in-Some.change in
    let schema = changed_schema change in
    let table = changed_table change in
    let by = follow_by (length names) (name_list names) schema table c.is_empty.result c.is_empty.ensures (sym (length-map names _)) in
    let follows : admits c.args.names.now schema table ≡ true =
    sym (ap₂ (admits c.args.names.now) (c.deref.ensures.value ∙ c.table-table.ensures.schema) (c.deref-in-loop-change.ensures.value ∙ c.table-table.ensures.table)) ∙ sym c.follows.ensures ∙ c.if-not-follows.false in
    let it : set.contains c.args.names.now (schema, table) ≡ true =
    ap (λ n. set.contains n (schema, table)) (sym c.names.ensures.set) ∙ listed (name_list names) (schema, table) ∙ sym (by.1 c.if-is_empty.false) ∙ ap (λ n. admits n schema table) c.names.ensures.set ∙ follows in
    c.loop-change.invariant (subst (AreOfTables c.args.names.now) (sym c.in-Some.ensures.steps) (it, rest))
