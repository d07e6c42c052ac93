use Rattle.binlog.proofs.Names.{[], ◌∷◌, ◌++◌, ap, sym, ◌∙◌, name_list}
use Rattle.binlog.specs.Filter.{read_all}
use Rattle.binlog.proofs.Unkept.{unkept_none}
use Rattle.binlog.proofs.reading.mark_all.Goals as goal

pub returns-then-is_empty-clause-ok : goal.returns-then-is_empty-clause-ok
unfolding read_all
returns-then-is_empty-clause-ok c =
    ap name_list (c.in_ok-push.ensures.items ∙ ap (λ l. l ++ (c.in_ok-joined.field-0, c.new.result) ∷ []) c.new-all.ensures.items) ∙ (λ i. (c.in_ok-joined.ensures.ok i, c.new.ensures.items i) ∷ []) ∙ sym (unkept_none c.args.names.now c.is_empty.result c.is_empty.ensures c.if-is_empty.true)
