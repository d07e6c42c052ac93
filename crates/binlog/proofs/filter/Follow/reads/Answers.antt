use Rattle.binlog.proofs.Names.{◌≡◌, ◌∙◌, sym, ap, false, admits, name_cmp, name_list}
use Rattle.binlog.specs.Filter.{Names, is_read}
use Rattle.std.specs.FinSet as set
use Rattle.binlog.proofs.TableSets.{admitted_read, read_by}
use Rattle.binlog.proofs.filter.Follow.reads.Goals as goal

pub returns-then-follows : goal.returns-then-follows
returns-then-follows c = sym (admitted_read c.args.self.now c.args.schema.now c.args.table.now (sym c.follows.ensures ∙ c.if-follows.true))

pub returns : goal.returns
returns c =
    let s = c.args.schema.now in
    let t = c.args.table.now in
    let view : set.from_list {R = name_cmp} (name_list c.names.result.now) ≡ c.args.self.now = c.names.ensures.set in
    let not : admits c.args.self.now s t ≡ false = sym c.follows.ensures ∙ c.if-follows.false in
    c.means.ensures
    ∙ sym (read_by (name_list c.names.result.now) s t (ap (λ (n : Names). admits n s t) view ∙ not))
    ∙ ap (λ (n : Names). is_read n s t) view
