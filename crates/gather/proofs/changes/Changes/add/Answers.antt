use Rattle.std.proofs.Common.{length, ◌∙◌, [], ◌∷◌, ◌++◌}
use Rattle.std.proofs.lemmas.Result.{on_ok_weaker, on_err_weaker}
use Rattle.gather.specs.Changes.{cells_of_image, change_by_size, changes_in}
use Rattle.gather.proofs.changes.Changes.add.Goals as goal

pub returns-clause-ok : goal.returns-clause-ok
returns-clause-ok c =
    let before = c.args.before.now in
    let after = c.args.after.now in
    on_ok_weaker c.append_change.result
    (λ is. is ∙ (λ i. c.self.view_is i ++ change_by_size (c.in_ok-table.ensures.cases i) (length before) (length after) (cells_of_image before) (cells_of_image after) ∷ []))
    c.append_change.ensures.ok

pub returns-clause-kept : goal.returns-clause-kept
returns-clause-kept c = on_err_weaker c.append_change.result (λ same. (λ i. changes_in (same.0 i) (same.1 i)) ∙ c.self.view_is) c.append_change.ensures.kept
