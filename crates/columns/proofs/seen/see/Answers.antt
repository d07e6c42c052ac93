use Rattle.std.proofs.Common.{ap, not, ◌∙◌}
use Rattle.columns.proofs.FieldCuts.{seen_before, seen_more}
use Rattle.columns.proofs.seen.see.Goals as goal

pub returns : goal.returns
returns c texts seen = (
  c.in_ok-new.ensures.added ∙ ap not (seen_before c.args.seen.now.keys c.args.text.now texts seen),
  λ _. seen_more c.args.seen.now.keys _ c.args.text texts seen c.in_ok-new.ensures.updates.0,
)
