use Rattle.binlog.proofs.Names.{◌∙◌, sym}
use Rattle.binlog.specs.Filter.{read_table, read_schema, read_all}
use Rattle.binlog.specs.FilterView.{name_list}
use Rattle.binlog.proofs.TableSets.{meant_first, meant_second, meant_third}
use Rattle.binlog.proofs.reading.means.Goals as goal

pub returns-then-is_listed_after : goal.returns-then-is_listed_after
unfolding read_table
returns-then-is_listed_after c = sym (meant_first (name_list c.args.names.now) c.args.schema.now c.args.table.now (sym c.is_listed_after.ensures ∙ c.if-is_listed_after.true))

pub returns-then-is_listed_after-2 : goal.returns-then-is_listed_after-2
unfolding read_table read_schema
returns-then-is_listed_after-2 c =
    sym (meant_second (name_list c.args.names.now) c.args.schema.now c.args.table.now (sym c.is_listed_after.ensures ∙ c.if-is_listed_after.false) (sym c.is_listed_after-2.ensures ∙ c.if-is_listed_after-2.true))

pub returns : goal.returns
unfolding read_table read_schema read_all
returns c =
    c.is_listed_after-3.ensures
    ∙ sym (meant_third (name_list c.args.names.now) c.args.schema.now c.args.table.now (sym c.is_listed_after.ensures ∙ c.if-is_listed_after.false) (sym c.is_listed_after-2.ensures ∙ c.if-is_listed_after-2.false))
