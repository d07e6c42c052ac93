use Rattle.std.proofs.Common.{[], subst, ◌∙◌}
use Rattle.std.specs.String.{string_bytes}
use Rattle.std.specs.FinSet as set
use Rattle.gtid.specs.Text.{AppendsText}
use Rattle.mrep.proofs.commands.minus.difference.Goals as goal

pub returns : goal.returns
returns c x y is_x is_y =
    let left = c.in_ok-kept.ensures x is_x in
    let right = c.in_ok-taken.ensures y is_y in
    let kept = c.in-Ok.ensures.ok ∙ (λ i. set.difference (left i) (right i)) in
    subst (λ ids. AppendsText ids [] (string_bytes c.in_ok-text.text)) kept c.in_ok-text.ensures
