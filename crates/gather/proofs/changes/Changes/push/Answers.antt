use Rattle.gather.proofs.Names.{◌++◌, ◌∷◌, [], ap, sym, ◌∙◌, on_ok_weaker, change_of, table_of}
use Rattle.binlog.specs.RowsView.{pair_value}
use Rattle.gather.proofs.ImagePacking.{not_err}
use Rattle.gather.proofs.changes.Changes.push.Goals as goal

pub invariant_of-self-else-is_err : goal.invariant_of-self-else-is_err
invariant_of-self-else-is_err c = (not_err c.push_pair-pushed.result (sym c.if-is_err.ensures.value) (c.push_pair-pushed.ensures.ok 0)).0

pub returns-else-is_err-clause-ok : goal.returns-else-is_err-clause-ok
returns-else-is_err-clause-ok c = λ id.
    on_ok_weaker c.push_pair-pushed.result (λ p. p.1 ∙ ap (λ l. l ++ change_of (table_of id c.args.table.now) (pair_value c.args.pair.now) ∷ []) c.self.view_is) (c.push_pair-pushed.ensures.ok id)
