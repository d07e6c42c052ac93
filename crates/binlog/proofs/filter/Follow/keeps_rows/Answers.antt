use Rattle.binlog.proofs.Names.{inl, inr, ap, sym, ◌∙◌, admits, length, length-map, name_list}
use Rattle.std.specs.FinSet as set
use Rattle.binlog.specs.Filter.{Names}
use Rattle.binlog.proofs.TableSets.{follow_by, listed}
use Rattle.binlog.proofs.Unkept.{empty_names}
use Rattle.binlog.proofs.filter.Follow.keeps_rows.Goals as goal

pub returns-then-is_empty-clause-some : goal.returns-then-is_empty-clause-some
returns-then-is_empty-clause-some c is =
    inl (ap (λ (n : Names). set.is_subset n set.empty) (sym c.names-names.ensures.set) ∙ empty_names c.names-names.result.now c.is_empty.result c.is_empty.ensures c.if-is_empty.true)

pub returns-clause-none : goal.returns-clause-none
returns-clause-none c is schema table short =
    let names = c.names-names.result.now in
    ap (λ (n : Names). admits n schema table) (sym c.names-names.ensures.set)
    ∙ (follow_by (length names) (name_list names) schema table c.is_empty.result c.is_empty.ensures (sym (length-map names _))).1 c.if-is_empty.false
    ∙ c.has_short.ensures.none is schema table short

pub returns-clause-some : goal.returns-clause-some
returns-clause-some c is =
    let found = c.has_short.ensures.some is in
    inr (found.0, found.1, found.2, ap (λ (n : Names). set.contains n (found.0, found.1)) (sym c.names-names.ensures.set) ∙ listed (name_list c.names-names.result.now) (found.0, found.1) ∙ found.3)
